-- The piece's words lie within the job.
use Rattle.std.proofs.Common.{arith}
use Rattle.job.proofs.Items.{piece_within}
use Rattle.job.proofs.Job.piece_at.Goals as goal

pub words_at-requires : goal.words_at-requires
words_at-requires c =
    let job = c.args.self.now in
    (omega arith, piece_within job.bytes.now job.whole c.args.position _ (omega (arith, job.pieces_are)) job.cut.1)
