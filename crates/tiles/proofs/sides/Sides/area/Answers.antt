-- The sides' lengths, multiplied.
use Prim.Native.Nat.{◌*◌}
use mathlib.Core.Path.{sym, ap₂, ◌∙◌}
use Rattle.tiles.proofs.Areas.{area-whole}
use Rattle.tiles.proofs.sides.Sides.area.Goals as goal

pub returns-clause-area : goal.returns-clause-area
returns-clause-area c = ap₂ ◌*◌ c.length.ensures c.length-2.ensures ∙ sym (area-whole _)
