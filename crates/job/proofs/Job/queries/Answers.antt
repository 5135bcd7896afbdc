-- The positions end at the count of queries.
use Rattle.std.proofs.Common.{arith, refl}
use Rattle.job.proofs.Job.queries.Goals as goal

pub invariant_of-result : goal.invariant_of-result
invariant_of-result c = record { listed = (omega arith, refl); begins = c.args.self.now.begins }
