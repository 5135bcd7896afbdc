-- The first h rows are cut to the clause's.
use mathlib.Core.Path.{◌≡◌}
use Prim.Native.Nat.{suc}
use lib.Bits.{bit_and}
use lib.ListN.{get_or}
use Rattle.relations.specs.Axis.{CODES}
use Rattle.relations.specs.Steps.{named_row}
use Rattle.relations.proofs.Filled.{filled}
use Rattle.relations.proofs.cut_to.Given as goal

abbrev pub invariant-loop-h : goal.invariant-loop-h
invariant-loop-h l = l.rows ≡ filled (λ k. bit_and (get_or l.initial.rows k 0) (named_row l.clause (suc k))) l.initial.rows CODES l.h
