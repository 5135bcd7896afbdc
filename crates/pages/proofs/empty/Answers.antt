-- Zeros, then the words that were there.
use Rattle.std.proofs.Common.{rules}
use Rattle.pages.proofs.Zeros.{empty_done}
use Rattle.pages.proofs.empty.Goals as goal

pub returns : goal.returns
returns c = empty_done c.args.table.now c.fill.new.self _ (search rules) (search rules) (c.fill.ensures.after (search rules))
