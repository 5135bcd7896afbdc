-- What the inner functions compute.
use Rattle.std.specs.Prelude.{ℕ, ◌+◌, ◌-◌, ◌*◌, ◌&&◌, cond, List, [], ◌∷◌, leb, get_or, length, Bool, Option, Some, None, Result, Ok, Err}
use Rattle.refusals.specs.declared.Refusal.{Refusal}
use Rattle.refusals.specs.declared.Refusal.TheVariants.{PointCount, CoordinateTooLarge}
use Rattle.outline.specs.declared.Point.{Point}
use Rattle.outline.specs.declared.Edge.{Edge}
use Rattle.outline.specs.Outline.{FARTHEST, point, edge, points}
use Rattle.outline.specs.Place.{counts, is_on_edge}
use Rattle.outline.specs.Refusals.{wrong_count, within}

-- the largest product of two coordinates
abbrev pub LARGEST : ℕ
LARGEST = 1_000_000_000_000

-- what becomes of a word, of a point's two words, and of an outline's
abbrev pub coordinate_of : ℕ → Result ℕ Refusal
coordinate_of word = cond (leb word FARTHEST) (Ok word) (Err CoordinateTooLarge)

abbrev pub point_of : ℕ → ℕ → Result Point Refusal
point_of x y = cond (leb x FARTHEST && leb y FARTHEST) (Ok (point x y)) (Err CoordinateTooLarge)

abbrev pub outline_of : List ℕ → Result (List Point) Refusal
outline_of ws = cond (wrong_count (length ws)) (Err PointCount) (cond (within ws) (Ok (points ws)) (Err CoordinateTooLarge))

-- the edges from p to the first of the points, from there to the next, and so on to the last
unfoldable pub edges_to : Point → List Point → List Edge
edges_to p [] = []
edges_to p (q ∷ ps) = edge p q ∷ edges_to q ps

-- the last of the points
abbrev pub last_point : List Point → Point
last_point ps = get_or ps (length ps - 1) (point 0 0)

-- the edges of an outline, from the one that joins the last point to the first
abbrev pub closing_first : List Point → List Edge
closing_first ps = edges_to (last_point ps) ps

-- left less right is twice the signed area of the edge's ends and p
abbrev pub left : Edge → Point → ℕ
left e p = e.a * e.d + e.c * p.y + p.x * e.b

abbrev pub right : Edge → Point → ℕ
right e p = e.b * e.c + e.d * p.x + p.y * e.a

-- nothing where the point is on the edge, or else whether the edge counts
abbrev pub met_by : Edge → Point → Option Bool
met_by e p = cond (is_on_edge e p) None (Some (counts e p))
