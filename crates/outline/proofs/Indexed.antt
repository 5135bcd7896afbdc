-- Words, points and edges: each word of an accepted outline in range, each point and each edge by its index.
use Prim.Native.Nat.{ℕ, zero, suc, ◌+◌, ◌*◌, ◌/◌, ◌%◌, ◌-◌, ◌≤◌, ◌<◌}
use mathlib.Core.Path.{◌≡◌, refl, sym, ap, ap₂, subst, ◌∙◌}
use mathlib.Core.Bool.{Bool, true, false, ◌&&◌, and-true, and_assoc}
use mathlib.Core.List.{List, [], ◌∷◌}
use native.Mathlib.Omega.{arith}
use lib.Dec.{leb, ltb, eqb}
use lib.ListN.{length, get_or, take, drop}
use lib.Seq.{take-length}
use borrow.Author.Tests.{leb-true, ltb-false, eqb-false}
use Rattle.std.specs.List.{fold}
use Rattle.outline.specs.declared.Point.{Point}
use Rattle.outline.specs.declared.Edge.{Edge}
use Rattle.outline.specs.Outline.{FEWEST_POINTS, MOST_POINTS, FARTHEST, point, edge, points, path, edges}
use Rattle.outline.specs.Refusals.{wrong_count, within}
use Rattle.outline.proofs.Tests.{and_left, and_right, or-false-both}

-- the point whose words begin at word i, and edge i, from 0: the last one goes to the first point
abbrev pub point_at : List ℕ → ℕ → Point
point_at ws i = point (get_or ws i 0) (get_or ws (i + 1) 0)

abbrev pub no_point : Point
no_point = point 0 0

abbrev pub no_edge : Edge
no_edge = edge (point 0 0) (point 0 0)

unfoldable pub edge_at : List ℕ → ℕ → Edge
edge_at ws i = get_or (edges (points ws)) i no_edge

-- the word count of an outline, and its range
pub record Fine (ws : List ℕ) : Type 0 where
  pub even : length ws % 2 ≡ 0
  pub fewest : FEWEST_POINTS ≤ length ws / 2
  pub most : length ws / 2 ≤ MOST_POINTS
  pub range : within ws ≡ true

pub count-fine : (n : ℕ) → wrong_count n ≡ false → (n % 2 ≡ 0) × (FEWEST_POINTS ≤ n / 2) × (n / 2 ≤ MOST_POINTS)
unfolding wrong_count
count-fine n e =
    let two = or-false-both (eqb (n % 2) 1) _ e in
    let rest = or-false-both (ltb (n / 2) FEWEST_POINTS) (ltb MOST_POINTS (n / 2)) two.1 in
    let odd : n % 2 ≡ 1 → ⊥ = eqb-false _ _ two.0 in
    let even : n % 2 ≡ 0 = by (n % 2) (omega arith) odd in
    (even, ltb-false _ _ rest.0, ltb-false _ _ rest.1)
  where
    by : (r : ℕ) → r < 2 → (r ≡ 1 → ⊥) → r ≡ 0
    by zero h n = refl
    by (suc zero) h n = absurd (n refl)
    by (suc (suc r)) h n = absurd (omega (arith, h))

pub fine : (ws : List ℕ) → (wrong_count (length ws) ≡ false) × (within ws ≡ true) → Fine ws
fine ws known = let c = count-fine (length ws) known.0 in record { even = c.0; fewest = c.1; most = c.2; range = known.1 }

-- a word in range, by its index
pub in-range : (ws : List ℕ) (i : ℕ) → within ws ≡ true → get_or ws i 0 ≤ FARTHEST
unfolding within
in-range [] zero e = omega arith
in-range [] (suc i) e = omega arith
in-range (w ∷ ws) zero e = leb-true _ _ (and_left (leb w FARTHEST) (within ws) e)
in-range (w ∷ ws) (suc i) e = in-range ws i (and_right (leb w FARTHEST) (within ws) e)

within-and : (b : Bool) (ws : List ℕ) → fold (λ t w. t && leb w FARTHEST) b ws ≡ (b && within ws)
unfolding within
within-and b [] = sym (and-true b)
within-and b (w ∷ ws) = within-and (b && leb w FARTHEST) ws ∙ and_assoc b (leb w FARTHEST) (within ws)

-- a test of all words
pub within_fold : (ws : List ℕ) → fold (λ t w. t && leb w FARTHEST) true ws ≡ within ws
within_fold ws = within-and true ws

pub points-count : (ws : List ℕ) → length (points ws) ≡ length ws / 2
unfolding points
points-count [] = refl
points-count (x ∷ []) = refl
points-count (x ∷ (y ∷ ws)) = let e = points-count ws in omega arith

pub points-none : (ws : List ℕ) → length ws < 2 → points ws ≡ []
unfolding points
points-none [] h = refl
points-none (x ∷ []) h = refl
points-none (x ∷ (y ∷ ws)) h = absurd (omega arith)

-- the words after the first point's
abbrev pub rest : List ℕ → List ℕ
rest ws = take (length ws - 2) (drop 2 ws)

rest-is : (x y : ℕ) (ws : List ℕ) → rest (x ∷ (y ∷ ws)) ≡ ws
rest-is x y ws = let e : length (x ∷ (y ∷ ws)) - 2 ≡ length ws = omega arith in ap (λ (n : ℕ). take n ws) e ∙ take-length ws

pub points-next : (ws : List ℕ) → 2 ≤ length ws → points ws ≡ point (get_or ws 0 0) (get_or ws 1 0) ∷ points (rest ws)
unfolding points
points-next [] h = absurd (omega arith)
points-next (x ∷ []) h = absurd (omega arith)
points-next (x ∷ (y ∷ ws)) h = ap (λ (vs : List ℕ). point x y ∷ points vs) (sym (rest-is x y ws))

pub rest-within : (ws : List ℕ) → within ws ≡ true → within (rest ws) ≡ true
unfolding within
rest-within [] e = e
rest-within (x ∷ []) e = refl
rest-within (x ∷ (y ∷ ws)) e = ap within (rest-is x y ws) ∙ and_right (leb y FARTHEST) (within ws) (and_right (leb x FARTHEST) (leb y FARTHEST && within ws) e)

-- two words further on
two-on : (x y : ℕ) (ws : List ℕ) (i : ℕ) → point_at (x ∷ (y ∷ ws)) (2 * suc i) ≡ point_at ws (2 * i)
two-on x y ws i =
    let e : 2 * suc i ≡ suc (suc (2 * i)) = omega arith in
    let f : 2 * suc i + 1 ≡ suc (suc (2 * i + 1)) = omega arith in
    ap₂ point (ap (λ (n : ℕ). get_or (x ∷ (y ∷ ws)) n 0) e) (ap (λ (n : ℕ). get_or (x ∷ (y ∷ ws)) n 0) f)

-- the point of two words, by their index
pub point-is : (ws : List ℕ) (i : ℕ) → i < length ws / 2 → get_or (points ws) i no_point ≡ point_at ws (2 * i)
unfolding points
point-is [] i h = absurd (omega arith)
point-is (x ∷ []) i h = absurd (omega arith)
point-is (x ∷ (y ∷ ws)) zero h = refl
point-is (x ∷ (y ∷ ws)) (suc i) h = point-is ws i (omega arith) ∙ sym (two-on x y ws i)

pub path-count : (p : Point) (ps : List Point) (q : Point) → length (path p ps q) ≡ suc (length ps)
unfolding path
path-count p [] q = refl
path-count p (r ∷ ps) q = ap suc (path-count r ps q)

pub edges-count : (ps : List Point) → length (edges ps) ≡ length ps
unfolding edges
edges-count [] = refl
edges-count (p ∷ ps) = path-count p ps p

path-inner : (p : Point) (ps : List Point) (q : Point) (i : ℕ) → i < length ps
    → get_or (path p ps q) i no_edge ≡ edge (get_or (p ∷ ps) i no_point) (get_or (p ∷ ps) (suc i) no_point)
unfolding path
path-inner p [] q i h = absurd (omega arith)
path-inner p (r ∷ ps) q zero h = refl
path-inner p (r ∷ ps) q (suc i) h = path-inner r ps q i (omega arith)

path-last : (p : Point) (ps : List Point) (q : Point) → get_or (path p ps q) (length ps) no_edge ≡ edge (get_or (p ∷ ps) (length ps) no_point) q
unfolding path
path-last p [] q = refl
path-last p (r ∷ ps) q = path-last r ps q

edges-inner : (ps : List Point) (i : ℕ) → suc i < length ps → get_or (edges ps) i no_edge ≡ edge (get_or ps i no_point) (get_or ps (suc i) no_point)
unfolding edges
edges-inner [] i h = absurd (omega arith)
edges-inner (p ∷ ps) i h = path-inner p ps p i (omega arith)

edges-last : (ps : List Point) (i : ℕ) → suc i ≡ length ps → get_or (edges ps) i no_edge ≡ edge (get_or ps i no_point) (get_or ps 0 no_point)
unfolding edges
edges-last [] i h = absurd (omega arith)
edges-last (p ∷ ps) i h =
    let e : length ps ≡ i = omega arith in
    subst (λ (n : ℕ). get_or (path p ps p) n no_edge ≡ edge (get_or (p ∷ ps) n no_point) p) e (path-last p ps p)

-- an edge by the words of its ends
pub edge-inner : (ws : List ℕ) (i : ℕ) → length ws % 2 ≡ 0 → 2 * i + 2 < length ws
    → edge (point_at ws (2 * i)) (point_at ws (2 * i + 2)) ≡ edge_at ws i
unfolding edge_at
edge-inner ws i even h =
    let n = points-count ws in
    let next : 2 * i + 2 ≡ 2 * suc i = omega arith in
    sym (edges-inner (points ws) i (omega arith)
    ∙ ap₂ edge (point-is ws i (omega arith)) (point-is ws (suc i) (omega arith) ∙ ap (point_at ws) (sym next)))

pub edge-closing : (ws : List ℕ) (i : ℕ) → length ws % 2 ≡ 0 → i < length ws / 2 → length ws ≤ 2 * i + 2
    → edge (point_at ws (2 * i)) (point_at ws 0) ≡ edge_at ws i
unfolding edge_at
edge-closing ws i even h last =
    let n = points-count ws in
    sym (edges-last (points ws) i (omega arith) ∙ ap₂ edge (point-is ws i h) (point-is ws 0 (omega arith)))

pub count-is : (ws : List ℕ) → length (edges (points ws)) ≡ length ws / 2
count-is ws = edges-count (points ws) ∙ points-count ws
