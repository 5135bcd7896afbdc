-- The closure compares one r.
use Rattle.std.proofs.Common.{rules, refl, ◌∙◌}
use Rattle.std.proofs.Math.Dec.{eqb}
use Rattle.std.proofs.lemmas.Iterator.Consumers.{YieldsList-from_first}
use Rattle.std.proofs.lemmas.Iterator.Search.{any_from_yields_List}
use Rattle.pages.specs.Left.{left}
use Rattle.placing.proofs.Searching.{ref-any}
use Rattle.placing.proofs.search.has_ref.Goals as goal

pub returns : goal.returns
returns c =
    let n = c.args.number in
    any_from_yields_List (λ e. eqb e.r n) c.any.new.self _ c.any.result c.any.ensures.ran (YieldsList-from_first (λ x. x) left (left c.args.entries) refl) (λ x b q k. (search rules, search k.met.0))
    ∙ ref-any n (left c.args.entries)
