-- The first h rows have the relation's added.
use mathlib.Core.Path.{◌≡◌}
use Prim.Native.Nat.{suc}
use lib.Bits.{bit_or}
use lib.ListN.{get_or}
use Rattle.relations.specs.Axis.{CODES}
use Rattle.relations.specs.Steps.{relation_row}
use Rattle.relations.proofs.Filled.{filled}
use Rattle.relations.proofs.add_relation.Given as goal

abbrev pub invariant-loop-h : goal.invariant-loop-h
invariant-loop-h l = l.rows ≡ filled (λ k. bit_or (get_or l.initial.rows k 0) (relation_row l.t (suc k))) l.initial.rows CODES l.h
