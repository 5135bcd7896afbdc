-- What stood there before is no mark.
use Rattle.std.proofs.Common.{ap, not}
use Rattle.soundness.proofs.mark.Goals as goal

pub returns-clause-fresh : goal.returns-clause-fresh
returns-clause-fresh c = ap not c.replace.ensures.value
