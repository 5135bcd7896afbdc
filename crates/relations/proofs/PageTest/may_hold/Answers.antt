-- Two numbers of thirteen bits share one exactly when their `and` is not zero.
use Rattle.relations.proofs.Pages.{tested}
use Rattle.relations.proofs.PageTest.may_hold.Goals as goal

pub returns : goal.returns
returns c = rw (c.index.ensures, c.index-2.ensures) (tested _ _ _ _ c.args.cx.one_of_thirteen c.args.self.now.tabled)
