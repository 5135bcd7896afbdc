-- The edges of a valid rectangle are in order, and none is too large.
use Rattle.pages.proofs.Valid.{edges}
use Rattle.tiles.proofs.sides.SidesFromValidRect.from.Goals as goal

pub invariant_of-result : goal.invariant_of-result
invariant_of-result c = let e = edges _ c.args.valid.holds in record { rising = e.on-x; within = e.x-end }

pub invariant_of-result-2 : goal.invariant_of-result-2
invariant_of-result-2 c = let e = edges _ c.args.valid.holds in record { rising = e.on-y; within = e.y-end }
