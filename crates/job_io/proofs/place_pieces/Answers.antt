-- Each turn puts one line more in the buffer, behind what was kept.
use Rattle.std.proofs.Common.{rules, ◌∙◌, refl}
use Rattle.job_io.proofs.Gathered.{no_line, no_piece, line_more, prints-none, next-line}
use Rattle.job_io.proofs.place_pieces.Goals as goal

pub loop-position-init : goal.loop-position-init
loop-position-init g c = (search (rules, no_piece), search (rules, no_line), prints-none g.W.Write.contents c.args.out.now)

pub loop-position-preserved : goal.loop-position-preserved
loop-position-preserved g c =
    let turn = c.loop-position in let room = c.in_ok-make_room.ensures in (
      c.place_piece.ensures.table,
      c.place_piece.ensures.line.bytes ∙ rw (room.front, turn.invariant.1, line_more) refl,
      next-line g.W.Write.contents _ _ _ _ _ turn.position turn.invariant.2 room.all c.place_piece.ensures.line.bytes,
    )
