-- "An outline is 3 to 64 points, as words x, y in turn, the last joined to the first, each coordinate at most 1,000,000."
use Rattle.std.specs.Prelude.{ℕ, List, [], ◌∷◌}
use Rattle.outline.specs.declared.Point.{Point}
use Rattle.outline.specs.declared.Edge.{Edge}

-- "3 to 64 points"
abbrev pub FEWEST_POINTS : ℕ
FEWEST_POINTS = 3

abbrev pub MOST_POINTS : ℕ
MOST_POINTS = 64

-- "each coordinate at most 1,000,000"
abbrev pub FARTHEST : ℕ
FARTHEST = 1_000_000

abbrev pub point : ℕ → ℕ → Point
point x y = record { x = x; y = y }

-- "edges from (a, b) to (c, d)"
abbrev pub edge : Point → Point → Edge
edge p q = record { a = p.x; b = p.y; c = q.x; d = q.y }

-- "as words x, y in turn"; an odd word at the end, which is refused, is no point
unfoldable pub points : List ℕ → List Point
points [] = []
points (x ∷ []) = []
points (x ∷ (y ∷ ws)) = point x y ∷ points ws

-- the edges from p through the points, and on to q
unfoldable pub path : Point → List Point → Point → List Edge
path p [] q = edge p q ∷ []
path p (r ∷ ps) q = edge p r ∷ path r ps q

-- "the last joined to the first"
unfoldable pub edges : List Point → List Edge
unfolding path
edges [] = []
edges (p ∷ ps) = path p ps p
