-- A valid entry with a number of a piece is marked.
use Rattle.std.proofs.Common.{arith, rules, tests}
use Rattle.soundness.proofs.Leaves.{piece_marked}
use Rattle.soundness.proofs.take_piece.Goals as goal

pub mark-requires : goal.mark-requires
mark-requires c = omega arith

pub returns-then-is_valid : goal.returns-then-is_valid
returns-then-is_valid c = piece_marked c.args.e (omega arith) (omega arith) (search (rules, tests)) c.mark.ensures.fresh c.mark.ensures.marked
