-- The edges of an outline in the order of the walk, which closes it first: totals over them are those over its edges.
use Prim.Native.Nat.{ℕ, zero, suc, ◌+◌, ◌*◌, ◌/◌, ◌%◌, ◌-◌, ◌≤◌, ◌<◌}
use mathlib.Core.Path.{◌≡◌, refl, sym, ap, ap₂, ◌∙◌}
use mathlib.Core.Bool.{Bool, true, false, cond, beq, not, not-not}
use mathlib.Core.List.{List, [], ◌∷◌, ◌++◌}
use native.Mathlib.Nat.{zero-add}
use native.Mathlib.Omega.{arith}
use Rattle.std.specs.Prelude.{Some, None}
use lib.ListN.{length, get_or}
use Rattle.outline.specs.declared.Point.{Point}
use Rattle.outline.specs.declared.Edge.{Edge}
use Rattle.outline.specs.declared.Place.{Place}
use Rattle.outline.specs.Outline.{MOST_POINTS, point, edge, points, path, edges}
use Rattle.outline.specs.Area.{cross, area_twice}
use Rattle.outline.specs.Place.{on_any, crossings, odd, place_of}
use Rattle.outline.specs.Steps.{edges_to, closing_first, met_by}
use Rattle.outline.proofs.Totals.{Sums, total, total-turn}
use Rattle.outline.proofs.Testing.{met-on, met-off}
use Rattle.outline.proofs.Same.{integers, numbers, any, on_it, counted, area-total, on_total, crossings-total}
use Rattle.outline.proofs.Indexed.{Fine, points-count, points-none, points-next, point-is, rest}

-- at the end of the words, and at the next two of them
pub edges-none : (p : Point) (ws : List ℕ) → length ws < 2 → edges_to p (points ws) ≡ []
unfolding edges_to
edges-none p ws h = rw (points-none ws h)

pub edges-next : (p : Point) (ws : List ℕ) → 2 ≤ length ws
    → (let q : Point = point (get_or ws 0 0) (get_or ws 1 0) in edges_to p (points ws) ≡ edge p q ∷ edges_to q (points (rest ws)))
unfolding edges_to
edges-next p ws h = ap (edges_to p) (points-next ws h)

edges-length : (p : Point) (ps : List Point) → length (edges_to p ps) ≡ length ps
unfolding edges_to
edges-length p [] = refl
edges-length p (q ∷ ps) = ap suc (edges-length q ps)

pub edges-most : (p : Point) (ws : List ℕ) → Fine ws → length (edges_to p (points ws)) ≤ MOST_POINTS
edges-most p ws f = omega (arith, edges-length p (points ws), points-count ws, f.most)

-- the walk begins at the last point
pub begin-is : (ws : List ℕ) → Fine ws
    → edges_to (point (get_or ws (length ws - 2) 0) (get_or ws (length ws - 1) 0)) (points ws) ≡ closing_first (points ws)
begin-is ws f =
    let k : ℕ = length (points ws) - 1 in
    let n = points-count ws in
    let x : length ws - 2 ≡ 2 * k = omega (arith, f.even, f.fewest) in
    let y : length ws - 1 ≡ 2 * k + 1 = omega (arith, f.even, f.fewest) in
    let at : k < length ws / 2 = omega (arith, f.fewest) in
    ap (λ (q : Point). edges_to q (points ws)) (ap₂ (λ (i j : ℕ). point (get_or ws i 0) (get_or ws j 0)) x y ∙ sym (point-is ws k at))

path-last : (p : Point) (ps : List Point) (q : Point) → path p ps q ≡ edges_to p ps ++ (edge (get_or (p ∷ ps) (length ps) (point 0 0)) q ∷ [])
unfolding path edges_to
path-last p [] q = refl
path-last p (r ∷ ps) q = ap (λ (es : List Edge). edge p r ∷ es) (path-last r ps q)

-- b, or the other where t
abbrev pub flip : Bool → Bool → Bool
flip true b = not b
flip false b = b

flip-even : (b : Bool) → flip b false ≡ b
flip-even true = refl
flip-even false = refl

unlike : (t b : Bool) → not (beq b t) ≡ flip t b
unlike true true = refl
unlike true false = refl
unlike false true = refl
unlike false false = refl

odd-next : (n : ℕ) → odd (1 + n) ≡ not (odd n)
odd-next n = by (n % 2) refl
  where
    by : (r : ℕ) → n % 2 ≡ r → odd (1 + n) ≡ not (odd n)
    by zero e = let f : (1 + n) % 2 ≡ 1 = omega arith in rw (e, f)
    by (suc zero) e = let f : (1 + n) % 2 ≡ 0 = omega arith in rw (e, f)
    by (suc (suc r)) e = absurd (omega arith)

odd-more : (t inside : Bool) (n : ℕ) → flip (flip t inside) (odd n) ≡ flip inside (odd (cond t 1 0 + n))
odd-more true true n = sym (ap not (odd-next n) ∙ not-not (odd n))
odd-more true false n = sym (odd-next n)
odd-more false inside n = ap (λ (m : ℕ). flip inside (odd m)) (sym (zero-add n))

total-walked : {A : Type 0} (S : Sums A) (f : Edge → A) (ps : List Point) → total S f (closing_first ps) ≡ total S f (edges ps)
unfolding edges edges_to total
total-walked S f [] = refl
total-walked S f (p ∷ ps) =
    let e : length (p ∷ ps) - 1 ≡ length ps = omega arith in
    let closing : Edge = edge (get_or (p ∷ ps) (length ps) (point 0 0)) p in
    ap (λ (n : ℕ). total S f (edges_to (get_or (p ∷ ps) n (point 0 0)) (p ∷ ps))) e
    ∙ total-turn S f (closing ∷ []) (edges_to p ps)
    ∙ ap (total S f) (sym (path-last p ps p))

pub place-on : (es : List Edge) (p : Point) → on_any es p ≡ true → Place.On ≡ place_of es p
unfolding place_of
place-on es p t = rw t

module _ (ps : List Point) where
  pub area-walked : area_twice (closing_first ps) ≡ area_twice (edges ps)
  area-walked = area-total (closing_first ps) ∙ total-walked integers cross ps ∙ sym (area-total (edges ps))

  module _ (p : Point) where
    on-walked : on_any (closing_first ps) p ≡ on_any (edges ps) p
    on-walked = on_total p (closing_first ps) ∙ total-walked any (on_it p) ps ∙ sym (on_total p (edges ps))

    crossings-walked : crossings (closing_first ps) p ≡ crossings (edges ps) p
    crossings-walked = crossings-total p (closing_first ps) ∙ total-walked numbers (counted p) ps ∙ sym (crossings-total p (edges ps))

    pub place-walked : on_any (closing_first ps) p ≡ true → Place.On ≡ place_of (edges ps) p
    place-walked t = place-on (edges ps) p (sym on-walked ∙ t)

    -- at the end of the walk nothing is left
    pub place-end : (inside : Bool) (es : List Edge) → es ≡ [] → on_any es p ≡ on_any (closing_first ps) p
        → flip inside (odd (crossings es p)) ≡ odd (crossings (closing_first ps) p) → cond inside Place.Inside Place.Outside ≡ place_of (edges ps) p
    unfolding place_of on_any crossings
    place-end inside es end on parity =
        let off = sym on-walked ∙ sym on ∙ ap (λ (fs : List Edge). on_any fs p) end in
        let all = sym (flip-even inside) ∙ ap (λ (fs : List Edge). flip inside (odd (crossings fs p))) (sym end) ∙ parity in
        rw (off, all, crossings-walked)

-- the next edge of the walk, by what it says of the point
module _ (p : Point) (es : List Edge) (e : Edge) (rest : List Edge) (next : es ≡ e ∷ rest) where
  pub on-stop : None ≡ met_by e p → on_any es p ≡ true
  unfolding on_any
  on-stop m = ap (λ (fs : List Edge). on_any fs p) next ∙ rw (met-on e p m)

  pub on-more : (t : Bool) → Some t ≡ met_by e p → on_any rest p ≡ on_any es p
  unfolding on_any
  on-more t m = sym (ap (λ (fs : List Edge). on_any fs p) next ∙ rw ((met-off e p t m).0))

  pub parity-more : (t inside : Bool) → Some t ≡ met_by e p → flip (not (beq inside t)) (odd (crossings rest p)) ≡ flip inside (odd (crossings es p))
  unfolding crossings
  parity-more t inside m =
      let more : crossings es p ≡ cond t 1 0 + crossings rest p = ap (λ (fs : List Edge). crossings fs p) next ∙ rw ((met-off e p t m).1) in
      rw (more, unlike t inside) (odd-more t inside (crossings rest p))
