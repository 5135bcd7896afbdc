-- The table has exactly the words of a table, so it is accepted, and nothing is left behind those of the empty one.
use Rattle.job.proofs.Tables.{emptied, emptied-ok}
use Rattle.job.proofs.start.Goals as goal

pub unwrap-requires : goal.unwrap-requires
unwrap-requires c = emptied-ok c.args.table.now c.empty.new.table c.empty.result c.requires c.empty.ensures

pub returns : goal.returns
returns c = emptied c.args.table.now c.empty.new.table _ c.requires c.empty.ensures
