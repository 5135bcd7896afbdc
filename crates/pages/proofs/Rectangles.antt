-- What `==` of two rectangles computes is the chain of tests of the definition.
use mathlib.Core.Path.{◌≡◌}
use mathlib.Core.Bool.{◌&&◌, and-true}
use lib.Dec.{eqb}
use Rattle.pages.specs.declared.Rect.{Rect}
use Rattle.pages.specs.Rectangles.{same_rect}

pub equal_rects : (a b : Rect) → (eqb a.x1 b.x1 && (eqb a.y1 b.y1 && (eqb a.x2 b.x2 && eqb a.y2 b.y2))) ≡ same_rect a b
unfolding same_rect
equal_rects a b = simp and-true
