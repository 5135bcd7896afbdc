-- The page count is the first word.
use mathlib.Core.Path.{sym}
use Rattle.soundness.proofs.Words.{pages-word}
use Rattle.soundness.proofs.table.SoundTable.page_count.Goals as goal

pub returns : goal.returns
returns c = sym (pages-word _ c.args.self.now.long)
