-- The table before a turn is the one after the pieces so far, the buffer holds what it should after as many lines, and none is lost.
use Rattle.std.proofs.Common.{◌≡◌, []}
use Rattle.job.specs.Steps.{table_at, piece_line_at, lines_to}
use Rattle.job_io.specs.declared.TheConstants.{BUFFER_BYTES}
use Rattle.job_io.specs.Gathered.{held}
use Rattle.job_io.specs.Prints.{Prints}
use Rattle.job_io.proofs.place_pieces.Given as goal

abbrev pub invariant-loop-position : goal.invariant-loop-position
invariant-loop-position g l =
    let b = l.job.bytes.now in
    (l.table ≡ table_at b l.position) × (l.out.lines ≡ held BUFFER_BYTES [] (piece_line_at b) l.position)
    × Prints g.W.Write.contents l.initial.out l.out (lines_to (piece_line_at b) l.position)
