-- The sum of two comparisons is the side.
use native.Mathlib.Omega.{arith}
use Rattle.relations.proofs.Sides.{side-bytes, side-lt}
use Rattle.relations.proofs.side.Goals as goal

pub returns : goal.returns
returns c = (side-bytes c.args.a c.args.b, omega (arith, side-bytes c.args.a c.args.b, side-lt c.args.a c.args.b))
