-- The tests before decide with the tail.
use Rattle.std.proofs.Common.{arith, rules, tests}
use Rattle.soundness.proofs.Heads.{shaped_tail}
use Rattle.soundness.proofs.is_shaped.Goals as goal
use Rattle.soundness.proofs.is_shaped.Goals.{then-page-level, else-page-level}

pub returns-then-n : goal.returns-then-n
returns-then-n c =
    elim c.if-page-level.branch [
      | then-page-level w ↦ shaped_tail c.args.page.now c.args.level c.args.least (omega arith) w.if-page-level.true (search (rules, tests)) (search (rules, tests)) c.is_blank.ensures
      | else-page-level w ↦ search (rules, tests)
    ]
