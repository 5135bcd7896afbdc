-- After thirteen turns each place has the union that its set gives.
use Rattle.std.proofs.Common.{ℕ, List, ◌<◌, ◌^◌, get_or, set, arith, ◌∙◌, sym, ap, subst}
use Rattle.relations.specs.Sets.{ones_from}
use Rattle.relations.specs.Axis.{CODES}
use Rattle.relations.specs.Steps.{union_of}
use Rattle.relations.proofs.Filled.{filled_none, filled_more, filled-all}
use Rattle.relations.proofs.Pages.{all-joined, masks_fit}
use Rattle.relations.proofs.Quarter.{masks_are}
use Rattle.relations.proofs.joined.Goals as goal

pub loop-c-init : goal.loop-c-init
loop-c-init c = filled_none _ _ CODES (omega arith)

pub joined_row-requires : goal.joined_row-requires
joined_row-requires c = subst (λ (l : List ℕ). get_or l c.loop-c.c 0 < 2 ^ CODES) (sym masks_are) (masks_fit c.loop-c.c c.loop-c-test.true)

pub loop-c-preserved : goal.loop-c-preserved
loop-c-preserved c =
    let at = c.loop-c.c in
    ap (λ (l : List ℕ). set l at c.joined_row.result) c.loop-c.invariant
    ∙ filled_more _ _ CODES at c.joined_row.result c.loop-c-test.true
    (c.joined_row.ensures ∙ ap (λ (l : List ℕ). union_of c.args.rows.now 0 (ones_from 0 64 (get_or l at 0))) masks_are)

pub returns : goal.returns
returns c = c.loop-c.invariant ∙ filled-all _ _ CODES _ (omega arith) ∙ all-joined _
