-- The piece count is the third word.
use mathlib.Core.Path.{sym}
use Rattle.soundness.proofs.Words.{pieces-word}
use Rattle.soundness.proofs.table.SoundTable.piece_count.Goals as goal

pub returns : goal.returns
returns c = sym (pieces-word _ c.args.self.now.long)
