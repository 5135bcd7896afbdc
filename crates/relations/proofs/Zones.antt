-- A valid reference cuts an axis into five zones: 0 below q1, 1 at q1, 2 between, 3 at q2, 4 above q2. A valid interval has the
-- code that its ends' zones have against [1, 3], so what holds of codes is computed for all pairs of zones.
use mathlib.Core.Bool.{Bool, true, false, not, ◌&&◌, ◌||◌, or-true, beq}
use mathlib.Core.List.{[], ◌∷◌}
use mathlib.Core.Path.{◌≡◌, refl, sym, ap, ◌∙◌}
use Prim.Native.Nat.{ℕ, suc, ◌+◌, ◌-◌, ◌%◌, ◌≤◌, ◌<◌}
use native.Mathlib.Decide.{dec_lt}
use native.Mathlib.Omega.{arith}
use lib.Dec.{eqb, ltb}
use lib.ListN.{get_or}
use borrow.Author.Tests.{lt-ltb, eq-eqb, eqb-true}
use Rattle.relations.specs.Axis.{CODES, lines, code}
use Rattle.relations.specs.Steps.{side_of}
use Rattle.relations.proofs.Tests.{all_below, all_pairs, all-at, pair-at, beq-eq}
use Rattle.relations.proofs.Sides.{Side, below, at, above, sided, side-is, Alike, same_lines, same_code}

pub zone : ℕ → ℕ → ℕ → ℕ
zone q1 q2 x = 4 - (side_of x q1 + side_of x q2)

pub zone-lt : (q1 q2 x : ℕ) → zone q1 q2 x < 5
unfolding zone
zone-lt q1 q2 x = omega arith

pub zone-is : {q1 q2 x a b : ℕ} → Side x q1 a → Side x q2 b → zone q1 q2 x ≡ 4 - (a + b)
unfolding zone
zone-is A B = rw (side-is A, side-is B)

-- a higher point is in no lower zone
side-mono : {x y q a b : ℕ} → x ≤ y → Side x q a → Side y q b → b ≤ a
side-mono l (below h) (below k) = omega arith
side-mono l (below h) (at k) = omega arith
side-mono l (below h) (above k) = omega arith
side-mono l (at h) (below k) = absurd (omega arith)
side-mono l (at h) (at k) = omega arith
side-mono l (at h) (above k) = omega arith
side-mono l (above h) (below k) = absurd (omega arith)
side-mono l (above h) (at k) = absurd (omega arith)
side-mono l (above h) (above k) = omega arith

module _ (q1 q2 : ℕ) where
  pub zone-mono : {x y : ℕ} → x ≤ y → zone q1 q2 x ≤ zone q1 q2 y
  unfolding zone
  zone-mono {x} {y} l = omega (arith, side-mono l (sided x q1) (sided y q1), side-mono l (sided x q2) (sided y q2))

  pub zone-before : (x y : ℕ) → zone q1 q2 x < zone q1 q2 y → x < y
  zone-before x y l = go (dec_lt x y)
    where
      go : Dec (x < y) → x < y
      go (yes h) = h
      go (no h) = absurd (omega (arith, zone-mono {x = y} {y = x} (omega arith)))

-- of two numbers on one side, both are at their end or none
side-at-end : {x q y s a : ℕ} → Side x q a → Side y s a → y ≡ s → x ≡ q
side-at-end (below h) (below k) e = absurd (omega arith)
side-at-end (at h) (at k) e = h
side-at-end (above h) (above k) e = absurd (omega arith)

-- zones of the ends of a valid interval
unfoldable pub feasible : ℕ → ℕ → Bool
feasible z w = ltb z w || (eqb z w && eqb (z % 2) 0)

-- the zone of a code's lower end, and of its upper end
abbrev pub low : ℕ → ℕ
low c = get_or (0 ∷ 4 ∷ 3 ∷ 2 ∷ 1 ∷ 0 ∷ 2 ∷ 1 ∷ 0 ∷ 2 ∷ 1 ∷ 0 ∷ 0 ∷ 0 ∷ []) c 0

abbrev pub high : ℕ → ℕ
high c = get_or (0 ∷ 4 ∷ 4 ∷ 4 ∷ 4 ∷ 4 ∷ 3 ∷ 3 ∷ 3 ∷ 2 ∷ 2 ∷ 2 ∷ 1 ∷ 0 ∷ []) c 0

-- the test passes for the zones of every valid interval
unfoldable pub all_zones : (ℕ → ℕ → Bool) → Bool
all_zones f = all_pairs (λ z w. not (feasible z w) || f z w) 5 5

lower_right : ℕ → ℕ → Bool
lower_right z w = eqb (low (code z w 1 3)) z

lower-test : all_zones lower_right ≡ true
unfolding all_zones lower_right feasible code lines all_pairs all_below
lower-test = refl

upper_right : ℕ → ℕ → Bool
upper_right z w = eqb (high (code z w 1 3)) w

upper-test : all_zones upper_right ≡ true
unfolding all_zones upper_right feasible code lines all_pairs all_below
upper-test = refl

line_right : ℕ → ℕ → ℕ → Bool
line_right z w c = beq (get_or (lines z w 1 3) c false) (eqb (code z w 1 3) (suc c))

lines_right : ℕ → ℕ → Bool
lines_right z w = all_below (line_right z w) CODES

lines-test : all_zones lines_right ≡ true
unfolding all_zones lines_right line_right feasible code lines all_pairs all_below
lines-test = refl

module _ {q1 q2 : ℕ} (hq : q1 < q2) where
  -- a point lies to q1 and q2 as its zone to 1 and 3
  pub zoned : (x : ℕ) → Alike x q1 q2 (zone q1 q2 x) 1 3
  unfolding zone
  zoned x = go (sided x q1) (sided x q2)
    where
      go : {a b : ℕ} → Side x q1 a → Side x q2 b → Alike x q1 q2 (4 - (a + b)) 1 3
      go (below h) (below k) = record { a = 2; b = 2; to-q1 = below h; to-q2 = below k; to-s1 = below (omega arith); to-s2 = below (omega arith) }
      go (at h) (below k) = record { a = 1; b = 2; to-q1 = at h; to-q2 = below k; to-s1 = at refl; to-s2 = below (omega arith) }
      go (above h) (below k) = record { a = 0; b = 2; to-q1 = above h; to-q2 = below k; to-s1 = above (omega arith); to-s2 = below (omega arith) }
      go (above h) (at k) = record { a = 0; b = 1; to-q1 = above h; to-q2 = at k; to-s1 = above (omega arith); to-s2 = at refl }
      go (above h) (above k) = record { a = 0; b = 0; to-q1 = above h; to-q2 = above k; to-s1 = above (omega arith); to-s2 = above (omega arith) }
      go (below h) (at k) = absurd (omega arith)
      go (below h) (above k) = absurd (omega arith)
      go (at h) (at k) = absurd (omega arith)
      go (at h) (above k) = absurd (omega arith)

  feasible-ends : {p1 p2 : ℕ} → p1 < p2 → feasible (zone q1 q2 p1) (zone q1 q2 p2) ≡ true
  unfolding feasible
  feasible-ends {p1} {p2} hp = go (dec_lt z w)
    where
      z : ℕ
      z = zone q1 q2 p1

      w : ℕ
      w = zone q1 q2 p2

      even : z ≡ w → z % 2 ≡ 0
      even e =
          let at-q1 : z ≡ 1 → ⊥ = λ o. omega (arith, side-at-end (zoned p1).to-q1 (zoned p1).to-s1 o, side-at-end (zoned p2).to-q1 (zoned p2).to-s1 (sym e ∙ o)) in
          let at-q2 : z ≡ 3 → ⊥ = λ o. omega (arith, side-at-end (zoned p1).to-q2 (zoned p1).to-s2 o, side-at-end (zoned p2).to-q2 (zoned p2).to-s2 (sym e ∙ o)) in
          omega (arith, zone-lt q1 q2 p1)

      go : Dec (z < w) → (ltb z w || (eqb z w && eqb (z % 2) 0)) ≡ true
      go (yes h) = simp (lt-ltb z w h)
      go (no h) =
          let e : z ≡ w = omega (arith, zone-mono q1 q2 {x = p1} {y = p2} (omega arith)) in
          simp (eq-eqb z w e, eq-eqb (z % 2) 0 (even e), or-true)

  module _ {p1 p2 : ℕ} (hp : p1 < p2) where
    pub at-zones : (f : ℕ → ℕ → Bool) → all_zones f ≡ true → f (zone q1 q2 p1) (zone q1 q2 p2) ≡ true
    unfolding all_zones
    at-zones f t =
        simp (feasible-ends hp) at
        (pair-at (λ z w. not (feasible z w) || f z w) 5 5 (zone q1 q2 p1) (zone q1 q2 p2) t (zone-lt q1 q2 p1) (zone-lt q1 q2 p2))

    pub by-zones : code p1 p2 q1 q2 ≡ code (zone q1 q2 p1) (zone q1 q2 p2) 1 3
    by-zones = same_code (zoned p1) (zoned p2)

    pub lower-zone : low (code p1 p2 q1 q2) ≡ zone q1 q2 p1
    unfolding lower_right
    lower-zone = ap low by-zones ∙ eqb-true _ _ (at-zones lower_right lower-test)

    pub upper-zone : high (code p1 p2 q1 q2) ≡ zone q1 q2 p2
    unfolding upper_right
    upper-zone = ap high by-zones ∙ eqb-true _ _ (at-zones upper_right upper-test)

    -- of the table's lines exactly one holds, and it is the one that `code` gives
    pub one-line : (c : ℕ) → c < CODES → get_or (lines p1 p2 q1 q2) c false ≡ eqb (code p1 p2 q1 q2) (suc c)
    unfolding lines_right line_right
    one-line c h =
        rw (same_lines (zoned p1) (zoned p2), by-zones)
        (beq-eq _ _ (all-at (line_right (zone q1 q2 p1) (zone q1 q2 p2)) CODES c (at-zones lines_right lines-test) h))
