-- After h turns the first h rows have the relation's added.
use native.Mathlib.Omega.{arith}
use mathlib.Core.Path.{◌≡◌, ◌∙◌}
use Rattle.relations.specs.Axis.{CODES}
use Rattle.relations.specs.Steps.{with_relation}
use Rattle.relations.proofs.Filled.{filled_none, filled-all}
use Rattle.relations.proofs.Rows.{bit-on, bit-off, add_row, leave-row}
use Rattle.relations.proofs.add_relation.Goals as goal
use Rattle.relations.proofs.add_relation.Goals.{then-sets-h-eq1, else-sets-h-eq1}

pub loop-h-init : goal.loop-h-init
loop-h-init c = filled_none _ _ CODES (omega arith)

pub loop-h-preserved : goal.loop-h-preserved
loop-h-preserved c =
    let rows = c.args.rows.now in
    let sets = c.relation_sets-sets.ensures in
    elim c.if-sets-h-eq1.branch [
      | then-sets-h-eq1 w ↦ w.rows-is ∙ add_row rows _ _ _ sets (omega arith) _ c.loop-h.invariant (bit-on _ _ w.if-sets-h-eq1.true)
      | else-sets-h-eq1 w ↦ w.rows-is ∙ leave-row rows _ _ _ sets (omega arith) _ c.loop-h.invariant (bit-off _ _ w.if-sets-h-eq1.false)
    ]

pub returns : goal.returns
unfolding with_relation
returns c =
    let e : c.loop-h.h ≡ CODES = omega arith in
    c.loop-h.invariant ∙ filled-all _ _ CODES _ e
