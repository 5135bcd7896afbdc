-- The relations that are left, added to the rows, make the rows of the clause.
use mathlib.Core.Path.{sym, ap, ◌∙◌}
use mathlib.Core.List.{List}
use Prim.Native.Nat.{ℕ}
use lib.ListN.{replicate}
use Rattle.relations.specs.Axis.{CODES}
use Rattle.relations.proofs.Rows.{gathered, all-gathered}
use Rattle.relations.proofs.clause_rows.Goals as goal

pub loop-t-init : goal.loop-t-init
loop-t-init c =
    ap (gathered (replicate CODES 0)) (c.into_iter-t-iterator.ensures.into_iter_gives ∙ c.new-t-items.ensures) ∙ all-gathered _

pub loop-t-preserved : goal.loop-t-preserved
unfolding gathered
loop-t-preserved c =
    ap (λ (rows : List ℕ). gathered rows c.next.new.self) c.add_relation.ensures ∙ ap (gathered _) (sym c.in-Some.ensures.steps) ∙ c.loop-t.invariant

pub returns : goal.returns
unfolding gathered
returns c = ap (gathered _) (sym c.in-None.ensures.steps.0) ∙ c.loop-t.invariant
