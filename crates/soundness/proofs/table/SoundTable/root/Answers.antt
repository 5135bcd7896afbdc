-- The root is the second word.
use mathlib.Core.Path.{sym}
use Rattle.soundness.proofs.Words.{root-word}
use Rattle.soundness.proofs.table.SoundTable.root.Goals as goal

pub returns : goal.returns
returns c = sym (root-word _ c.args.self.now.long)
