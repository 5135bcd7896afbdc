-- The sides of a valid rectangle.
use Rattle.pages.specs.declared.Rect.{Rect}
use Rattle.pages.specs.Rectangles.{rect_of}
use Rattle.tiles.specs.declared.sides.Sides.{Sides}

-- the rectangle with these sides
abbrev pub rect_with : Sides → Rect
rect_with s = rect_of s.x.start s.y.start s.x.end s.y.end
