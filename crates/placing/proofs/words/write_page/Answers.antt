-- The page has the entries passed.
use Rattle.std.proofs.Common.{rules}
use Rattle.placing.proofs.PageWords.{written_none, written-room, written-more}
use Rattle.placing.proofs.words.write_page.Goals as goal

pub loop-e-init : goal.loop-e-init
loop-e-init c = written_none _ c.args.level (search rules)

pub append_entry-requires : goal.append_entry-requires
append_entry-requires c = written-room _ _ _ c.args.es.now c.loop-e-test.true (search rules) c.loop-e.invariant

pub loop-e-preserved : goal.loop-e-preserved
loop-e-preserved c = written-more _ _ _ _ c.args.es.now c.loop-e-test.true (search rules) c.loop-e.invariant c.append_entry.ensures
