-- A number that is not refused is below 1,024.
use Rattle.std.proofs.Common.{arith}
use Rattle.pages.proofs.piece.ValidPieceTryFromPiece.try_from.Goals as goal

pub invariant_of-result : goal.invariant_of-result
invariant_of-result c = omega arith
