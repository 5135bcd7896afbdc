-- The words of a table with a root below its pages' count.
use Rattle.std.proofs.Common.{arith}
use Rattle.soundness.proofs.Decides.{rooted}
use Rattle.soundness.proofs.is_sound.Goals as goal

pub is_sound_from-requires : goal.is_sound_from-requires
is_sound_from-requires c = rooted _ (omega arith) _ (omega arith) (omega arith) c.page_of.ensures (omega arith)
