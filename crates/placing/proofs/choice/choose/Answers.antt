-- The first entry's cost, and the lesser of that and each other's.
use Rattle.std.proofs.Common.{rules, ◌≡◌, ◌-◌, ◌<◌, refl, ap, ◌∙◌}
use Rattle.std.specs.List.{fold, range_with_len}
use Rattle.std.proofs.lemmas.Iterator.{YieldsList-from_range}
use Rattle.std.proofs.lemmas.Iterator.Consumers.{fold_from_yields_List}
use Rattle.pages.specs.Sizes.{FANOUT}
use Rattle.pages.specs.Readers.{entry_in}
use Rattle.placing.specs.Steps.{count_in, chosen_in}
use Rattle.placing.proofs.Choosing.{with_place, least-chosen}
use Rattle.placing.proofs.choice.choose.Goals as goal
use Rattle.placing.proofs.choice.choose.Goals.{After-fold-least}

least : (c : After-fold-least) → (c.fold-least.result.place < FANOUT) × (c.fold-least.result.place ≡ chosen_in c.args.page.now c.args.new)
least c =
    let w = c.args.page.now in
    least-chosen c.args.new w _
    (fold_from_yields_List _ (with_place c.args.new (entry_in w)) _ _ c.fold-least.ensures.ran (YieldsList-from_range 1 _ (count_in w - 1) refl (ap (λ n. n - 1) c.entry_count.ensures))
    (λ a x b q k. search rules) ∙ ap (λ b. fold (with_place c.args.new (entry_in w)) b (range_with_len 1 (count_in w - 1))) c.cost_at-first.ensures)

pub returns : goal.returns
returns c = (least c.before).1

pub invariant_of-result : goal.invariant_of-result
invariant_of-result c = record { inside = (least c).0 }
