-- Both entries are made before the page is written.
use Rattle.placing.proofs.Stepping.{root-is}
use Rattle.placing.proofs.make_root.Goals as goal

pub returns : goal.returns
returns c =
    let a = c.args in
    root-is a.table.now c.set_page.new.table a.root a.q a.level c.in-Some.k.number _ _ c.in-Some.k.below c.in-Some.ensures c.entry_for.ensures c.entry_for-2.ensures c.set_page.ensures
