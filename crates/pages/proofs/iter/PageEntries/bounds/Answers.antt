-- The first entry's rectangle is widened by each of the others.
use Rattle.std.proofs.Common.{rules, refl, ◌∙◌}
use Rattle.std.proofs.lemmas.Iterator.Consumers.{fold_from_yields_List, YieldsList-from_first}
use Rattle.pages.specs.Rectangles.{widen}
use Rattle.pages.specs.Left.{left}
use Rattle.pages.proofs.Bounds.{bounds-folded}
use Rattle.pages.proofs.iter.PageEntries.bounds.Goals as goal

pub returns : goal.returns
returns c =
    fold_from_yields_List _ (λ b e. widen b e.rect) _ _ c.fold.ensures.ran (YieldsList-from_first (λ x. x) left _ refl) (λ a x b q k. search rules)
    ∙ bounds-folded _ _ c.in-Some.first c.in-Some.ensures.steps
