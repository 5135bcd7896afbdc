-- The places that are left are codes, and with their rows what is joined is the union.
use Rattle.std.proofs.Common.{◌≡◌, ◌<◌}
use Rattle.std.specs.List.{All}
use Rattle.relations.specs.Sets.{ones_from}
use Rattle.relations.specs.Axis.{CODES}
use Rattle.relations.specs.Steps.{union_of}
use Rattle.relations.proofs.joined_row.Given as goal

abbrev pub invariant-loop-h : goal.invariant-loop-h
invariant-loop-h l = All (λ t. t < CODES) l.h-iterator × (union_of l.rows l.joined l.h-iterator ≡ union_of l.rows 0 (ones_from 0 64 l.codes))
