-- The rows are the row sets of the clauses so far.
use mathlib.Core.Path.{◌≡◌}
use lib.ListN.{take}
use Rattle.relations.specs.Query.{row_sets}
use Rattle.relations.proofs.admitted.Given as goal

abbrev pub invariant-loop-clause : goal.invariant-loop-clause
invariant-loop-clause l = l.rows ≡ row_sets (take l.clause-index l.clauses)
