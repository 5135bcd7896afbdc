-- Check refuses, or the table is sound.
use Rattle.soundness.proofs.Answers.{ok-sound}
use Rattle.soundness.proofs.table.SoundTable.read.Goals as goal

pub invariant_of-result : goal.invariant_of-result
invariant_of-result c =
    let s = ok-sound _ _ c.in_ok-check.ensures in
    record { long = s.0; holds = s.1 }
