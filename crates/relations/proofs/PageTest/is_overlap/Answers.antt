-- The nine rows of the codes 3 to 11.
use Rattle.std.proofs.Common.{rules, tests, ◌∙◌, sym, ap}
use Rattle.std.proofs.lemmas.Iterator.{YieldsList-from_slice}
use Rattle.std.proofs.lemmas.Iterator.Search.{all_from_yields_List}
use Rattle.std.specs.List.{list_all}
use lib.ListN.{take, drop}
use Rattle.relations.specs.Steps.{overlap_by, whole_by, has_overlapping}
use Rattle.relations.proofs.Whole.{nine-rows}
use Rattle.relations.proofs.PageTest.is_overlap.Goals as goal

pub returns : goal.returns
unfolding overlap_by whole_by
returns c =
    let rows = c.args.set.now.rows in
    rw (sym c.is_inner.ensures ∙ c.if-not-is_inner.false)
    (all_from_yields_List has_overlapping _ _ c.all.result c.all.ensures.ran (YieldsList-from_slice (take 9 (drop 2 rows)) (search rules)) (λ x b q k. search (rules, tests))
    ∙ ap (list_all has_overlapping) (nine-rows rows (search rules)))
