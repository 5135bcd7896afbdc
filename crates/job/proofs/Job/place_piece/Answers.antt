-- The table before the piece is sound.
use Rattle.std.proofs.Common.{arith, subst}
use Rattle.job.specs.Steps.{Gathers}
use Rattle.job.proofs.Tables.{fine_of}
use Rattle.job.proofs.Items.{piece-placed, table-placed}
use Rattle.job.proofs.Job.place_piece.Goals as goal

pub place_sound-placed-requires : goal.place_sound-placed-requires
place_sound-placed-requires g c = let F = fine_of c.args.table.now c.args.self.now.bytes.now c.args.position c.requires.1 in (omega (arith, F.size), F.sound)

pub returns-clause-line : goal.returns-clause-line
returns-clause-line g c =
    let piece = c.piece_at.ensures in
    subst (Gathers c.args.lines.now _) (piece-placed c.args.self.now.bytes.now c.args.position _ _ _ _ _ c.requires.1 piece.number piece.rect c.place_sound-placed.ensures)
    c.piece.ensures

pub returns-clause-table : goal.returns-clause-table
returns-clause-table g c =
    let piece = c.piece_at.ensures in
    table-placed c.args.self.now.bytes.now c.args.position _ _ _ _ _ c.requires.1 piece.number piece.rect c.place_sound-placed.ensures
