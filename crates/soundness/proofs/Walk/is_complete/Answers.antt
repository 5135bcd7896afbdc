-- Both sums are of marks.
use Rattle.std.proofs.Common.{arith, ◌∙◌}
use Rattle.soundness.proofs.Marks.{total_take, total_all, count_decides}
use Rattle.soundness.proofs.Walk.is_complete.Goals as goal

pub returns-then-total-self : goal.returns-then-total-self
returns-then-total-self c =
    let s = c.args.self.now in
    count_decides s.table.now s.seen s.numbers (c.total.ensures ∙ total_take s.seen s.k (omega arith)) c.if-total-self.true (c.total-then-total-self.ensures ∙ total_all s.numbers _ (omega arith))
