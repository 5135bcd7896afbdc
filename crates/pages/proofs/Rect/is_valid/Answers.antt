-- The tests before decide with the last.
use Rattle.std.proofs.Common.{arith}
use Rattle.pages.proofs.Valid.{valid_north}
use Rattle.pages.proofs.Rect.is_valid.Goals as goal

pub returns-then-self-le-EDGE : goal.returns-then-self-le-EDGE
returns-then-self-le-EDGE c = valid_north c.args.self (omega arith) (omega arith) (omega arith)
