-- The buffer holds what it should after the pieces' lines and those of the queries so far, and none is lost.
use Rattle.std.proofs.Common.{◌≡◌, length}
use Rattle.pages.specs.Sizes.{PIECES}
use Rattle.job.specs.Steps.{query_line_at, lines_to}
use Rattle.job_io.specs.declared.TheConstants.{BUFFER_BYTES}
use Rattle.job_io.specs.Gathered.{held, held_pieces}
use Rattle.job_io.specs.Prints.{Prints}
use Rattle.job_io.proofs.answer_queries.Given as goal

abbrev pub invariant-loop-query : goal.invariant-loop-query
invariant-loop-query g l =
    let b = l.job.bytes.now in
    (goal.iterator-loop-query g).can_next l.query-iterator × (goal.iterator-loop-query g).is_finite l.query-iterator
    × (l.query-iterator.job.bytes.now ≡ b) × (length l.answer ≡ PIECES)
    × (l.out.lines ≡ held BUFFER_BYTES (held_pieces BUFFER_BYTES b) (query_line_at b) l.query-iterator.positions.start)
    × Prints g.W.Write.contents l.initial.out l.out (lines_to (query_line_at b) l.query-iterator.positions.start)
