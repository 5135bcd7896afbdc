-- The nine tiles, and areas as numbers of unit squares. A unit square is named by its south-west corner (x, y).
use Rattle.std.specs.Prelude.{ℕ, ◌+◌, ◌-◌, ◌*◌, cond, leb, eqb}
use Rattle.pages.specs.declared.Rect.{Rect}
use Rattle.pages.specs.Lists.{one, sum_below}

-- two edge lines make three strips of an axis
abbrev pub STRIPS : ℕ
STRIPS = 3

-- "nine tiles"
abbrev pub TILES : ℕ
TILES = 9

-- "cuts the plane by the reference's four edge lines": on one axis the unit from x to x + 1 lies before both lines, 0, between them, 1,
-- or after both, 2. The lines are at whole numbers, so no unit lies across one
unfoldable pub strip : ℕ → ℕ → ℕ → ℕ
strip q1 q2 x = cond (leb (x + 1) q1) 0 (cond (leb (x + 1) q2) 1 2)

-- "in rising rows from the south, west to east": the tile of the reference that a unit square lies in
unfoldable pub tile_of : Rect → ℕ → ℕ → ℕ
unfolding strip
tile_of reference x y = STRIPS * strip reference.y1 reference.y2 y + strip reference.x1 reference.x2 x

-- a weight of (x, y), summed over the unit squares of a rectangle
unfoldable pub over_squares : Rect → (ℕ → ℕ → ℕ) → ℕ
over_squares r f = sum_below (r.y2 - r.y1) (λ b. sum_below (r.x2 - r.x1) (λ a. f (r.x1 + a) (r.y1 + b)))

-- an area is a number of unit squares
unfoldable pub area_of : Rect → ℕ
unfolding over_squares
area_of r = over_squares r (λ x y. 1)

-- "the area of the piece in each tile": how many unit squares of the piece lie in tile t
unfoldable pub area_in : Rect → Rect → ℕ → ℕ
unfolding over_squares tile_of
area_in piece reference t = over_squares piece (λ x y. one (eqb (tile_of reference x y) t))
