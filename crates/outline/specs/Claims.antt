-- What is proved of the two calls beyond their equations. An outline is given by its points here: `words` says that this leaves out
-- only odd word counts, which are refused.
use Rattle.std.specs.Prelude.{ℕ, suc, ◌+◌, ◌*◌, ◌%◌, ◌≤◌, ◌<◌, min, max, ◌≡◌, Bool, true, false, ◌&&◌, cond, ◌↔◌, leb, ltb, ℤ, pos, neg_ℤ, length, take, drop}
use mathlib.Core.List.{List, [], ◌∷◌, ◌++◌, map, reverse, Memᴰ}
use Rattle.outline.specs.declared.Point.{Point}
use Rattle.outline.specs.declared.Edge.{Edge}
use Rattle.outline.specs.declared.Area.{Area}
use Rattle.outline.specs.declared.Located.{Located}
use Rattle.outline.specs.declared.Place.{Place}
use Rattle.outline.specs.Outline.{FARTHEST, point, points, edges}
use Rattle.outline.specs.Place.{parts, x_there, meets_ray, counts, is_on_edge, on_any, crossings, odd, number_of}
use Rattle.outline.specs.Refusals.{ACCEPTED}
use Rattle.outline.specs.Calls.{area_call, point_call}
use Rattle.outline.specs.Meaning.{LiesOn, Crosses}
use Rattle.outline.specs.Examples.{areas, answers}

-- the words of points
unfoldable pub words_of : List Point → List ℕ
words_of [] = []
words_of (p ∷ ps) = p.x ∷ (p.y ∷ words_of ps)

abbrev pub area_of : ℕ → ℤ → Area
area_of refusal area = record { refusal = refusal; twice_area = area }

abbrev pub located_of : ℕ → ℕ → Located
located_of refusal place = record { refusal = refusal; place = place }

-- the same outline, begun at its point k
abbrev pub begun_at : ℕ → List Point → List Point
begun_at k ps = drop k ps ++ take k ps

abbrev pub negated : Area → Area
negated a = area_of a.refusal (neg_ℤ a.twice_area)

-- a rectangle from its south-west corner, counter-clockwise
abbrev pub rectangle : ℕ → ℕ → ℕ → ℕ → List Point
rectangle x y w h = point x y ∷ (point (x + w) y ∷ (point (x + w) (y + h) ∷ (point x (y + h) ∷ [])))

-- a triangle on a level base, counter-clockwise; its apex is anywhere at the height h
abbrev pub triangle : ℕ → ℕ → ℕ → ℕ → ℕ → List Point
triangle x y w h u = point x y ∷ (point (x + w) y ∷ (point u (y + h) ∷ []))

-- v is one of low and high or lies between them; it lies between them
abbrev pub spans : ℕ → ℕ → ℕ → Bool
spans low high v = leb low v && leb v high

abbrev pub surrounds : ℕ → ℕ → ℕ → Bool
surrounds low high v = ltb low v && ltb v high

-- where (x, y) lies in a rectangle from (x1, y1) to (x2, y2), by its sides alone
unfoldable pub place_in : ℕ → ℕ → ℕ → ℕ → ℕ → ℕ → Place
place_in x1 y1 x2 y2 x y =
    cond (surrounds x1 x2 x && surrounds y1 y2 y) Place.Inside (cond (spans x1 x2 x && spans y1 y2 y) Place.On Place.Outside)

-- n of the things have the property
pub data Number {B : Type 0} (P : B → Type 0) : List B → ℕ → Type 0 where
  none : Number P [] 0
  one : {b : B} {bs : List B} {n : ℕ} → P b → Number P bs n → Number P (b ∷ bs) (suc n)
  other : {b : B} {bs : List B} {n : ℕ} → (P b → ⊥) → Number P bs n → Number P (b ∷ bs) n

-- "A point on any edge"
abbrev pub OnOutline : List ℕ → Point → Type 0
OnOutline ws p = (e : Edge) × Memᴰ e (edges (points ws)) × LiesOn e p

-- "an odd number of crossings with the ray to the east"
abbrev pub OddCrossings : List ℕ → Point → Type 0
OddCrossings ws p = (n : ℕ) × Number (λ e. Crosses e p) (edges (points ws)) n × (n % 2 ≡ 1)

-- the ray to the west: where the edge has the point's height, it is not east of the point
unfoldable pub counts_west : Edge → Point → Bool
counts_west e p = leb (min e.b e.d) p.y && (ltb p.y (max e.b e.d) && leb (x_there e p.y) (parts e p.y * p.x))

-- the ray to the east, with an edge's higher end in place of its lower one
unfoldable pub counts_upper : Edge → Point → Bool
counts_upper e p = ltb (min e.b e.d) p.y && (leb p.y (max e.b e.d) && meets_ray e p)

unfoldable pub how_many : (Edge → Bool) → List Edge → ℕ
how_many test [] = 0
how_many test (e ∷ es) = cond (test e) 1 0 + how_many test es

pub record Claims : Type 0 where
  -- the words of a slice with an even count are the words of its points
  pub words : (ws : List ℕ) → length ws % 2 ≡ 0 → words_of (points ws) ≡ ws
  -- "The area sum may begin at any point of the outline and gives the same total"
  pub area-begun : (ps : List Point) (k : ℕ) → area_call (words_of (begun_at k ps)) ≡ area_call (words_of ps)
  -- "and the reversed outline gives its negative"
  pub area-reversed : (ps : List Point) → area_call (words_of (reverse ps)) ≡ negated (area_call (words_of ps))
  -- "positive counter-clockwise": twice width times height, and base times height
  pub area-rectangles : (x y w h : ℕ) → x + w ≤ FARTHEST → y + h ≤ FARTHEST
      → area_call (words_of (rectangle x y w h)) ≡ area_of ACCEPTED (pos (2 * (w * h)))
  pub area-triangles : (x y w h u : ℕ) → x + w ≤ FARTHEST → y + h ≤ FARTHEST → u ≤ FARTHEST
      → area_call (words_of (triangle x y w h u)) ≡ area_of ACCEPTED (pos (w * h))
  -- the tests of an edge and a point say what they should, of any edge: also a level one, an upright one and one of a single point
  pub on_edge : (e : Edge) (p : Point) → (is_on_edge e p ≡ true) ↔ LiesOn e p
  pub crosses : (e : Edge) (p : Point) → (counts e p ≡ true) ↔ Crosses e p
  -- "A point on any edge is answered first."
  pub on : (ws : List ℕ) (x y : ℕ) → (point_call ws x y).refusal ≡ ACCEPTED → ((point_call ws x y).place ≡ 1) ↔ OnOutline ws (point x y)
  -- "Inside means an odd number of crossings with the ray to the east."
  pub inside : (ws : List ℕ) (x y : ℕ) → (point_call ws x y).refusal ≡ ACCEPTED
      → ((point_call ws x y).place ≡ 2) ↔ ((OnOutline ws (point x y) → ⊥) × OddCrossings ws (point x y))
  -- else outside
  pub outside : (ws : List ℕ) (x y : ℕ) → (point_call ws x y).refusal ≡ ACCEPTED
      → ((point_call ws x y).place ≡ 3) ↔ ((OnOutline ws (point x y) → ⊥) × (OddCrossings ws (point x y) → ⊥))
  -- the answer is the same from any point of the outline on, and for the reversed outline
  pub point-begun : (ps : List Point) (k x y : ℕ) → point_call (words_of (begun_at k ps)) x y ≡ point_call (words_of ps) x y
  pub point-reversed : (ps : List Point) (x y : ℕ) → point_call (words_of (reverse ps)) x y ≡ point_call (words_of ps) x y
  -- on a rectangle the answer is that of its sides
  pub point-rectangles : (x y w h px py : ℕ) → 0 < w → 0 < h → x + w ≤ FARTHEST → y + h ≤ FARTHEST → px ≤ FARTHEST → py ≤ FARTHEST
      → point_call (words_of (rectangle x y w h)) px py ≡ located_of ACCEPTED (number_of (place_in x y (x + w) (y + h) px py))
  -- off the outline it is odd on both sides or on none, and with either end of an edge
  pub west : (ps : List Point) (p : Point) → on_any (edges ps) p ≡ false
      → odd (how_many (λ e. counts_west e p) (edges ps)) ≡ odd (crossings (edges ps) p)
  pub upper : (ps : List Point) (p : Point) → on_any (edges ps) p ≡ false
      → odd (how_many (λ e. counts_upper e p) (edges ps)) ≡ odd (crossings (edges ps) p)
  -- outlines whose area and inside are known, computed; "Self-crossing outlines follow the same odd rule"
  pub known-areas : map (λ k. area_call k.outline) areas ≡ map (λ k. area_of ACCEPTED k.twice) areas
  pub known-places : map (λ k. point_call k.outline k.x k.y) answers ≡ map (λ k. located_of ACCEPTED k.number) answers
