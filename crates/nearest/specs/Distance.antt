-- Squared distances from a point to rectangles.
use Rattle.std.specs.Prelude.{ℕ, ◌+◌, ◌-◌, ◌*◌, ◌≤◌, ◌≡◌}
use Rattle.pages.specs.declared.Rect.{Rect}

abbrev pub square : ℕ → ℕ
square n = n * n

-- how far v lies below or above the interval from low to high: a difference is 0 where it would be negative, and inside both are
abbrev pub gap : ℕ → ℕ → ℕ → ℕ
gap v low high = (low - v) + (v - high)

-- "squared distance from point to rectangle"
unfoldable pub distance_to : ℕ → ℕ → Rect → ℕ
distance_to x y r = square (gap x r.x1 r.x2) + square (gap y r.y1 r.y2)

-- how far two coordinates lie apart
abbrev pub apart : ℕ → ℕ → ℕ
apart a b = (a - b) + (b - a)

-- the squared distance of the points (x, y) and (a, b)
abbrev pub points_apart : ℕ → ℕ → ℕ → ℕ → ℕ
points_apart x y a b = square (apart x a) + square (apart y b)

-- the point (a, b) lies in the rectangle, all in nth parts of a unit
pub record InRect (n a b : ℕ) (r : Rect) : Type 0 where
  pub west : n * r.x1 ≤ a
  pub east : a ≤ n * r.x2
  pub south : n * r.y1 ≤ b
  pub north : b ≤ n * r.y2

-- what a squared distance is: the least of those from the point to the points of the rectangle, in whatever parts of a unit they lie, and
-- one of them is that far
pub record LeastSquare (x y : ℕ) (r : Rect) : Type 0 where
  pub least : (n a b : ℕ) → InRect n a b r → square n * distance_to x y r ≤ points_apart (n * x) (n * y) a b
  pub attained : (a : ℕ) × (b : ℕ) × InRect 1 a b r × (points_apart x y a b ≡ distance_to x y r)
