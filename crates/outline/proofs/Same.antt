-- The parts of the two calls as totals, and so the same from any point on and for the reversed outline.
use Prim.Native.Nat.{ℕ, ◌+◌, ◌*◌, min, max}
use mathlib.Core.Path.{◌≡◌, refl, sym, ap, ap₂, ◌∙◌}
use mathlib.Core.Bool.{Bool, true, false, ◌&&◌, ◌||◌, cond, and_assoc, and_comm, or_assoc, or_comm}
use mathlib.Core.List.{List, [], ◌∷◌, reverse}
use native.Mathlib.Nat.{add_assoc, add_comm, zero-add, mul_comm}
use native.Mathlib.Omega.{arith}
use lib.Dec.{leb, eqb}
use lib.IntN.{ℤ, pos, neg_ℤ, ◌+ℤ◌, ◌-ℤ◌, +ℤ_assoc, +ℤ_comm, +ℤ_idl, neg_ℤ-+ℤ}
use lib.ListN.{length, take, drop, take-append-drop, length-append, length-reverse}
use Rattle.outline.specs.declared.Point.{Point}
use Rattle.outline.specs.declared.Edge.{Edge}
use Rattle.outline.specs.Outline.{FARTHEST, point, points, edges}
use Rattle.outline.specs.Area.{cross, area_twice}
use Rattle.outline.specs.Place.{meets_ray, counts, between, is_on_edge, on_any, crossings, place_of}
use Rattle.outline.specs.Refusals.{ACCEPTED, within, outline_refusal}
use Rattle.outline.specs.Calls.{area_call, point_call}
use Rattle.outline.specs.Claims.{words_of, begun_at, negated, area_of}
use Rattle.outline.proofs.Heights.{flipped, parts-flipped, x-flipped}
use Rattle.outline.proofs.Signed.{minus_negated}
use Rattle.outline.proofs.Totals.{Sums, total, total-turn, total-reverse}
use Rattle.outline.proofs.Turning.{total-begun, total-reversed}

abbrev pub integers : Sums ℤ
integers = record { op = ◌+ℤ◌; none = pos 0; assoc = +ℤ_assoc; comm = +ℤ_comm; left = +ℤ_idl }

abbrev pub numbers : Sums ℕ
numbers = record { op = ◌+◌; none = 0; assoc = add_assoc; comm = add_comm; left = zero-add }

abbrev pub any : Sums Bool
any = record { op = ◌||◌; none = false; assoc = or_assoc; comm = or_comm; left = λ b. refl }

abbrev every : Sums Bool
every = record { op = ◌&&◌; none = true; assoc = and_assoc; comm = and_comm; left = λ b. refl }

between-turned : (v w z : ℕ) → between w v z ≡ between v w z
unfolding between
between-turned v w z =
    let lower : min w v ≡ min v w = omega arith in
    let higher : max w v ≡ max v w = omega arith in
    rw (lower, higher)

-- an edge taken the other way round
pub on-flipped : (e : Edge) (p : Point) → is_on_edge (flipped e) p ≡ is_on_edge e p
unfolding is_on_edge
on-flipped e p =
    rw (between-turned e.a e.c p.x, between-turned e.b e.d p.y, parts-flipped e p.y, x-flipped e p.y)

pub counts-flipped : (e : Edge) (p : Point) → counts (flipped e) p ≡ counts e p
unfolding counts meets_ray
counts-flipped e p =
    let lower : min e.d e.b ≡ min e.b e.d = omega arith in
    let higher : max e.d e.b ≡ max e.b e.d = omega arith in
    rw (lower, higher, parts-flipped e p.y, x-flipped e p.y)

pub area-total : (es : List Edge) → area_twice es ≡ total integers cross es
unfolding area_twice total
area-total [] = refl
area-total (e ∷ es) = ap (λ (z : ℤ). cross e +ℤ z) (area-total es)

cross-flipped : (e : Edge) → cross (flipped e) ≡ neg_ℤ (cross e)
cross-flipped e = ap₂ (λ (m n : ℕ). pos m -ℤ pos n) (mul_comm e.c e.b) (mul_comm e.d e.a) ∙ sym (minus_negated (e.a * e.d) (e.b * e.c))

pub area-begun : (ps : List Point) (k : ℕ) → area_twice (edges (begun_at k ps)) ≡ area_twice (edges ps)
area-begun ps k = area-total _ ∙ total-begun integers cross ps k ∙ sym (area-total _)

pub area-reversed : (ps : List Point) → area_twice (edges (reverse ps)) ≡ neg_ℤ (area_twice (edges ps))
area-reversed ps = area-total _ ∙ total-reversed integers cross neg_ℤ refl neg_ℤ-+ℤ cross-flipped ps ∙ ap neg_ℤ (sym (area-total _))

module _ (p : Point) where
  abbrev pub on_it : Edge → Bool
  on_it e = is_on_edge e p

  abbrev pub counted : Edge → ℕ
  counted e = cond (counts e p) 1 0

  pub on_total : (es : List Edge) → on_any es p ≡ total any on_it es
  unfolding on_any total
  on_total [] = refl
  on_total (e ∷ es) = ap (λ (b : Bool). on_it e || b) (on_total es)

  pub crossings-total : (es : List Edge) → crossings es p ≡ total numbers counted es
  unfolding crossings total
  crossings-total [] = refl
  crossings-total (e ∷ es) = ap (λ (n : ℕ). counted e + n) (crossings-total es)

  counted-flipped : (e : Edge) → counted (flipped e) ≡ counted e
  counted-flipped e = ap (λ (b : Bool). cond b 1 0) (counts-flipped e p)

  pub place-begun : (ps : List Point) (k : ℕ) → place_of (edges (begun_at k ps)) p ≡ place_of (edges ps) p
  unfolding place_of
  place-begun ps k =
      let on = on_total (edges (begun_at k ps)) ∙ total-begun any on_it ps k ∙ sym (on_total (edges ps)) in
      let all = crossings-total (edges (begun_at k ps)) ∙ total-begun numbers counted ps k ∙ sym (crossings-total (edges ps)) in
      rw (on, all)

  pub place-reversed : (ps : List Point) → place_of (edges (reverse ps)) p ≡ place_of (edges ps) p
  unfolding place_of
  place-reversed ps =
      let on = on_total (edges (reverse ps)) ∙ total-reversed any on_it (λ b. b) refl (λ a b. refl) (λ e. on-flipped e p) ps ∙ sym (on_total (edges ps)) in
      let all = crossings-total (edges (reverse ps)) ∙ total-reversed numbers counted (λ n. n) refl (λ a b. refl) counted-flipped ps ∙ sym (crossings-total (edges ps)) in
      rw (on, all)

-- the words of points
abbrev in_range : Point → Bool
in_range p = leb p.x FARTHEST && leb p.y FARTHEST

within-total : (ps : List Point) → within (words_of ps) ≡ total every in_range ps
unfolding within words_of total
within-total [] = refl
within-total (p ∷ ps) =
    sym (and_assoc (leb p.x FARTHEST) (leb p.y FARTHEST) (within (words_of ps))) ∙ ap (λ (b : Bool). in_range p && b) (within-total ps)

pub words-length : (ps : List Point) → length (words_of ps) ≡ 2 * length ps
unfolding words_of
words-length [] = refl
words-length (p ∷ ps) = let e = words-length ps in omega arith

pub points-words : (ps : List Point) → points (words_of ps) ≡ ps
unfolding points words_of
points-words [] = refl
points-words (p ∷ ps) = ap (λ (qs : List Point). p ∷ qs) (points-words ps)

begun-length : (ps : List Point) (k : ℕ) → length (begun_at k ps) ≡ length ps
begun-length ps k =
    let e = length-append (drop k ps) (take k ps) in
    let f = length-append (take k ps) (drop k ps) in
    let g = ap length (take-append-drop k ps) in
    omega arith

begun-within : (ps : List Point) (k : ℕ) → within (words_of (begun_at k ps)) ≡ within (words_of ps)
begun-within ps k =
    within-total (begun_at k ps) ∙ total-turn every in_range (drop k ps) (take k ps) ∙ ap (total every in_range) (take-append-drop k ps) ∙ sym (within-total ps)

reversed-within : (ps : List Point) → within (words_of (reverse ps)) ≡ within (words_of ps)
reversed-within ps = within-total (reverse ps) ∙ total-reverse every in_range ps ∙ sym (within-total ps)

-- two outlines that are refused alike, whatever coordinates come before theirs
pub record Alike (qs ps : List Point) : Type 0 where
  pub count : length (words_of qs) ≡ length (words_of ps)
  pub range : within (words_of qs) ≡ within (words_of ps)

pub begun-alike : (ps : List Point) (k : ℕ) → Alike (begun_at k ps) ps
begun-alike ps k =
    record {
      count = words-length (begun_at k ps) ∙ ap (λ (n : ℕ). 2 * n) (begun-length ps k) ∙ sym (words-length ps);
      range = begun-within ps k;
    }

pub reversed-alike : (ps : List Point) → Alike (reverse ps) ps
reversed-alike ps =
    record {
      count = words-length (reverse ps) ∙ ap (λ (n : ℕ). 2 * n) (length-reverse ps) ∙ sym (words-length ps);
      range = reversed-within ps;
    }

negative_of : (b : Bool) (z : ℤ) → cond b (neg_ℤ z) (pos 0) ≡ neg_ℤ (cond b z (pos 0))
negative_of true z = refl
negative_of false z = refl

module _ (qs ps : List Point) (s : Alike qs ps) where
  area-refusal : outline_refusal (words_of qs) (words_of qs) ≡ outline_refusal (words_of ps) (words_of ps)
  unfolding outline_refusal
  area-refusal = rw (s.count, s.range)

  point-refusal : (x y : ℕ) → outline_refusal (words_of qs) (x ∷ (y ∷ words_of qs)) ≡ outline_refusal (words_of ps) (x ∷ (y ∷ words_of ps))
  unfolding outline_refusal within
  point-refusal x y = rw (s.count, s.range)

  pub same_area : area_twice (edges qs) ≡ area_twice (edges ps) → area_call (words_of qs) ≡ area_call (words_of ps)
  unfolding area_call
  same_area e = rw (area-refusal, points-words qs, points-words ps, e)

  pub negative-area : area_twice (edges qs) ≡ neg_ℤ (area_twice (edges ps)) → area_call (words_of qs) ≡ negated (area_call (words_of ps))
  unfolding area_call
  negative-area e =
      rw (area-refusal, points-words qs, points-words ps, e)
      (ap (area_of (outline_refusal (words_of ps) (words_of ps))) (negative_of (eqb (outline_refusal (words_of ps) (words_of ps)) ACCEPTED) (area_twice (edges ps))))

  pub same_place : (x y : ℕ) → place_of (edges qs) (point x y) ≡ place_of (edges ps) (point x y) → point_call (words_of qs) x y ≡ point_call (words_of ps) x y
  unfolding point_call
  same_place x y e = rw (point-refusal x y, points-words qs, points-words ps, e)
