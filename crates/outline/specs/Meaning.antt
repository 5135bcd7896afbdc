-- What the tests of `Place` mean. A point of an edge is a mean of its ends, s times the first and t times the second, over s + t. Its
-- coordinates are given times s + t, so that all numbers are whole.
use Rattle.std.specs.Prelude.{ℕ, ◌+◌, ◌*◌, ◌≤◌, ◌<◌, min, max, ◌≡◌}
use Rattle.outline.specs.declared.Point.{Point}
use Rattle.outline.specs.declared.Edge.{Edge}

-- s and t, not both zero
pub record Mean : Type 0 where
  pub s : ℕ
  pub t : ℕ
  pub some : 0 < s + t

abbrev pub weight : Mean → ℕ
weight m = m.s + m.t

-- the mean's coordinates on an edge, times its weight
abbrev pub x_of : Edge → Mean → ℕ
x_of e m = m.s * e.a + m.t * e.c

abbrev pub y_of : Edge → Mean → ℕ
y_of e m = m.s * e.b + m.t * e.d

-- "A point on any edge": it is a point of the edge
pub record LiesOn (e : Edge) (p : Point) : Type 0 where
  pub mean : Mean
  pub x : weight mean * p.x ≡ x_of e mean
  pub y : weight mean * p.y ≡ y_of e mean

-- "it meets the ray" from p to the east: some point of the edge is at the height of p and not west of it
pub record Meets (e : Edge) (p : Point) : Type 0 where
  pub mean : Mean
  pub x : weight mean * p.x ≤ x_of e mean
  pub y : weight mean * p.y ≡ y_of e mean

-- "An edge counts when its lower y is at most the point's y and its higher y is above it, and it meets the ray."
pub record Crosses (e : Edge) (p : Point) : Type 0 where
  pub lower : min e.b e.d ≤ p.y
  pub higher : p.y < max e.b e.d
  pub meets : Meets e p
