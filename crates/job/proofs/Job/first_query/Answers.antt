-- The queries begin behind their count.
use Rattle.std.proofs.Common.{arith}
use Rattle.job.proofs.Places.{start_is}
use Rattle.job.proofs.Job.first_query.Goals as goal

pub returns : goal.returns
returns c = let job = c.args.self.now in omega (arith, start_is job.bytes.now job.pieces job.pieces_are)
