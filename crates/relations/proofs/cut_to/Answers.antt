-- After h turns the first h rows are cut to the clause's.
use native.Mathlib.Omega.{arith}
use mathlib.Core.Path.{◌≡◌, ◌∙◌}
use Rattle.relations.specs.Axis.{CODES}
use Rattle.relations.specs.Steps.{cut_to}
use Rattle.relations.proofs.Filled.{filled_none, filled-all}
use Rattle.relations.proofs.Rows.{cut-row}
use Rattle.relations.proofs.cut_to.Goals as goal

pub loop-h-init : goal.loop-h-init
loop-h-init c = filled_none _ _ CODES (omega arith)

pub loop-h-preserved : goal.loop-h-preserved
loop-h-preserved c =
    cut-row c.args.rows.now c.args.clause _ _ _ (omega arith) c.clause_rows-named.ensures c.loop-h.invariant

pub returns : goal.returns
unfolding cut_to
returns c =
    let e : c.loop-h.h ≡ CODES = omega arith in
    c.loop-h.invariant ∙ filled-all _ _ CODES _ e
