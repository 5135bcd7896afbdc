-- The relations that are left, added to the rows, make the rows of the clause.
use mathlib.Core.Path.{◌≡◌}
use Prim.Native.Nat.{ℕ, suc}
use Rattle.relations.specs.Sets.{listed}
use Rattle.relations.specs.Axis.{CODES}
use Rattle.relations.specs.Steps.{named_row}
use Rattle.relations.proofs.Rows.{gathered}
use Rattle.relations.proofs.clause_rows.Given as goal

abbrev pub invariant-loop-t : goal.invariant-loop-t
invariant-loop-t l = gathered l.rows l.t-iterator ≡ listed (λ (h : ℕ). named_row l.clause (suc h)) CODES
