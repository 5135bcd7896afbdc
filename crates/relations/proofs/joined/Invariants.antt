-- After c turns the first c places have the rows joined by the sets.
use Rattle.std.proofs.Common.{◌≡◌, get_or, replicate}
use Rattle.relations.specs.Sets.{ones_from}
use Rattle.relations.specs.Axis.{CODES}
use Rattle.relations.specs.Steps.{union_of, node_masks}
use Rattle.relations.proofs.Filled.{filled}
use Rattle.relations.proofs.joined.Given as goal

abbrev pub invariant-loop-c : goal.invariant-loop-c
invariant-loop-c l = l.row-items ≡ filled (λ k. union_of l.rows 0 (ones_from 0 64 (get_or node_masks k 0))) (replicate CODES 0) CODES l.c
