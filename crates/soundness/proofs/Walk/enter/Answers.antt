-- The words of a page that has its first mark decide.
use Rattle.std.proofs.Common.{arith}
use Rattle.soundness.proofs.Heads.{head_marked}
use Rattle.soundness.proofs.Walk.enter.Goals as goal

pub returns-then-not-is_shaped-clause-tested : goal.returns-then-not-is_shaped-clause-tested
returns-then-not-is_shaped-clause-tested c =
    let a = c.args in
    head_marked _ a.level a.least a.p (omega arith) (omega arith) (omega arith) c.page_of-page.ensures c.if-not-is_shaped.ensures (omega arith) c.if-not-mark.ensures.fresh c.if-not-mark.ensures.marked

pub returns-clause-tested : goal.returns-clause-tested
returns-clause-tested c =
    let a = c.args in
    head_marked _ a.level a.least a.p (omega arith) (omega arith) (omega arith) c.page_of-page.ensures c.if-not-is_shaped.ensures (omega arith) c.if-not-mark.ensures.fresh c.if-not-mark.ensures.marked
