-- The first chunks of the words behind the head.
use Rattle.std.proofs.Common.{rules, refl}
use Rattle.pages.proofs.Firsts.{entries-chunks}
use Rattle.pages.proofs.entries_of.Goals as goal

pub returns-clause-items : goal.returns-clause-items
returns-clause-items c = entries-chunks c.args.page.now _ _ _ c.args.n (search rules) refl c.as_chunks.ensures.front (search rules)
