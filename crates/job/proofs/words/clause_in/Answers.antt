-- The low word's bytes are the first four.
use Rattle.std.proofs.Common.{arith}
use Rattle.job.specs.Words.{word_at}
use Rattle.job.proofs.words.clause_in.Goals as goal

pub returns : goal.returns
unfolding word_at
returns c = omega (arith, c.from_le_bytes.ensures)
