-- The lines within the side cut it.
use native.Mathlib.Nat.{le_of_lt}
use Rattle.tiles.proofs.Cutting.{cut-is}
use Rattle.tiles.proofs.sides.Side.cut.Goals as goal

pub returns-clause-cut : goal.returns-clause-cut
returns-clause-cut c =
    rw (c.from.ensures, c.from-2.ensures, c.from-3.ensures)
    (cut-is _ _ _ _ (le_of_lt c.args.self.rising) (le_of_lt c.args.lines.rising) _ _ c.clamp-first.ensures c.clamp-second.ensures)
