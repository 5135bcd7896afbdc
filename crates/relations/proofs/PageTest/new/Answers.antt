-- The table is the thirteen sets.
use Rattle.relations.proofs.Quarter.{masks_are}
use Rattle.relations.proofs.PageTest.new.Goals as goal

pub invariant_of-result : goal.invariant_of-result
invariant_of-result c = record { tabled = masks_are }
