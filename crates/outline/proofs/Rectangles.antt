-- The point test on a rectangle: each coordinate of the point is below the rectangle, on its first side, between the two, on the second or above it. In
-- each of these zones the tests have fixed values, and for every two zones the answer is computed.
use Prim.Native.Nat.{ℕ, ◌+◌, ◌*◌, ◌≤◌, ◌<◌, min, max}
use mathlib.Core.Path.{◌≡◌, refl, sym, ap, ap₂, subst, ◌∙◌}
use mathlib.Core.Bool.{Bool, true, false, ◌&&◌, ◌||◌, cond, and-false, and-true}
use mathlib.Core.List.{List}
use native.Mathlib.Decide.{ℕ_discrete, dec_lt}
use native.Mathlib.Nat.{add-mul, mul-le-mul_left, le_of_mul-le-mul_left}
use native.Mathlib.Omega.{arith}
use lib.Dec.{leb, ltb, eqb}
use borrow.Author.Tests.{le-leb, lt-leb, lt-ltb, le-ltb, eq-eqb, ne_eqb}
use Rattle.outline.specs.declared.Point.{Point}
use Rattle.outline.specs.declared.Place.{Place}
use Rattle.outline.specs.Outline.{FARTHEST, point, path, edges}
use Rattle.outline.specs.Place.{apart, meets_ray, counts, between, is_on_edge, on_any, crossings, odd, place_of, number_of}
use Rattle.outline.specs.Refusals.{ACCEPTED}
use Rattle.outline.specs.Calls.{point_call}
use Rattle.outline.specs.Claims.{words_of, rectangle, spans, place_in, located_of}
use Rattle.outline.proofs.Tests.{leb-same}
use Rattle.outline.proofs.Heights.{edge_of}
use Rattle.outline.proofs.Means.{has_parts}
use Rattle.outline.proofs.Testing.{all-below, all_above}
use Rattle.outline.proofs.Answers.{refusal-none, point-accepted}
use Rattle.outline.proofs.Figures.{rectangle-fine}
use Rattle.outline.proofs.Same.{points-words, on-flipped, counts-flipped}

-- the tests of a level edge and of an upright one

between-spans : (low size v : ℕ) → between low (low + size) v ≡ spans low (low + size) v
unfolding between
between-spans low size v =
    let lower : min low (low + size) ≡ low = omega arith in
    let higher : max low (low + size) ≡ low + size = omega arith in
    rw (lower, higher)

between-one : (v z : ℕ) → between v v z ≡ eqb z v
unfolding between
between-one v z = go (dec_lt z v) (dec_lt v z)
  where
    go : Dec (z < v) → Dec (v < z) → (leb (min v v) z && leb z (max v v)) ≡ eqb z v
    go (yes l) _ = rw (lt-leb (min v v) z (omega (arith, l)), ne_eqb z v (λ e. omega (arith, l, e)))
    go (no _) (yes l) = rw (lt-leb z (max v v) (omega (arith, l)), and-false, ne_eqb z v (λ e. omega (arith, l, e)))
    go (no m) (no n) = rw (le-leb (min v v) z (omega (arith, m)), le-leb z (max v v) (omega (arith, n)), eq-eqb z v (omega (arith, m, n)))

module _ (px py : ℕ) where
  abbrev p : Point
  p = point px py

  -- at its own height a level edge has no parts
  level-on : (x w v : ℕ) → is_on_edge (edge_of x v (x + w) v) p ≡ (eqb py v && spans x (x + w) px)
  unfolding is_on_edge
  level-on x w v = rw (between-spans x w px, between-one v py) (go (ℕ_discrete py v))
    where
      none : apart v v ≡ 0
      none = omega arith

      there : eqb ((apart v v + apart v v) * px) (apart v v * x + apart v v * (x + w)) ≡ true
      there = eq-eqb ((apart v v + apart v v) * px) (apart v v * x + apart v v * (x + w)) (rw none (omega arith))

      go : Dec (py ≡ v) → (spans x (x + w) px && (eqb py v && eqb ((apart v py + apart v py) * px) (apart v py * x + apart v py * (x + w)))) ≡ (eqb py v && spans x (x + w) px)
      go (yes e) = subst (λ (n : ℕ). (spans x (x + w) px && (eqb n v && eqb ((apart v n + apart v n) * px) (apart v n * x + apart v n * (x + w)))) ≡ (eqb n v && spans x (x + w) px)) (sym e)
          (rw (eq-eqb v v refl, there) (and-true (spans x (x + w) px)))
      go (no n) = rw (ne_eqb py v n, and-false)

  upright-on : (v y h : ℕ) → is_on_edge (edge_of v y v (y + h)) p ≡ (eqb px v && spans y (y + h) py)
  unfolding is_on_edge
  upright-on v y h = rw (between-one v px, between-spans y h py) (go (ℕ_discrete px v))
    where
      s : ℕ
      s = apart (y + h) py

      t : ℕ
      t = apart y py

      go : Dec (px ≡ v) → (eqb px v && (spans y (y + h) py && eqb ((s + t) * px) (s * v + t * v))) ≡ (eqb px v && spans y (y + h) py)
      go (yes e) = subst (λ (n : ℕ). (eqb n v && (spans y (y + h) py && eqb ((s + t) * n) (s * v + t * v))) ≡ (eqb n v && spans y (y + h) py)) (sym e)
          (rw (eq-eqb ((s + t) * v) (s * v + t * v) (add-mul s t v), and-true))
      go (no n) = rw (ne_eqb px v n)

  level-counts : (a c v : ℕ) → counts (edge_of a v c v) p ≡ false
  level-counts a c v = go (dec_lt py v)
    where
      go : Dec (py < v) → counts (edge_of a v c v) p ≡ false
      go (yes l) = all_above (edge_of a v c v) p l l
      go (no n) = all-below (edge_of a v c v) p (omega (arith, n)) (omega (arith, n))

  upright-counts : (v y h : ℕ) → counts (edge_of v y v (y + h)) p ≡ ((leb y py && ltb py (y + h)) && leb px v)
  unfolding counts meets_ray
  upright-counts v y h = rw (lower, higher) (go (dec_lt py y) (dec_lt py (y + h)))
    where
      lower : min y (y + h) ≡ y
      lower = omega arith

      higher : max y (y + h) ≡ y + h
      higher = omega arith

      s : ℕ
      s = apart (y + h) py

      t : ℕ
      t = apart y py

      east : 0 < s + t → leb ((s + t) * px) (s * v + t * v) ≡ leb px v
      east some =
          leb-same ((s + t) * px) (s * v + t * v) px v (
            λ n. le_of_mul-le-mul_left {k = s + t} (omega (arith, n, add-mul s t v)) some,
            λ n. omega (arith, mul-le-mul_left (s + t) n, add-mul s t v),
          )

      go : Dec (py < y) → Dec (py < y + h) → (leb y py && (ltb py (y + h) && leb ((s + t) * px) (s * v + t * v))) ≡ ((leb y py && ltb py (y + h)) && leb px v)
      go (yes l) _ = rw (lt-leb y py l)
      go (no _) (no n) = rw (le-ltb py (y + h) (omega (arith, n)), and-false)
      go (no m) (yes l) =
          rw (le-leb y py (omega (arith, m)), lt-ltb py (y + h) l) (east (has_parts (edge_of v y v (y + h)) p (omega (arith, m)) (omega (arith, l))))

-- where a number stands to two others, and the tests of it

data Zone : Type 0 where
  below : Zone
  first : Zone
  amid : Zone
  second : Zone
  above : Zone

record Values : Type 0 where
  first_le : Bool
  first_lt : Bool
  is_first : Bool
  le_first : Bool
  le_second : Bool
  lt_second : Bool
  is_second : Bool

abbrev values : Bool → Bool → Bool → Bool → Bool → Bool → Bool → Values
values a b c d e f g = record { first_le = a; first_lt = b; is_first = c; le_first = d; le_second = e; lt_second = f; is_second = g }

abbrev values_in : Zone → Values
values_in below = values false false false true true true false
values_in first = values true false true true true true false
values_in amid = values true true false false true true false
values_in second = values true true false false true false true
values_in above = values true true false false false false false

abbrev values_of : ℕ → ℕ → ℕ → Values
values_of low size v =
    let high = low + size in
    values (leb low v) (ltb low v) (eqb v low) (leb v low) (leb v high) (ltb v high) (eqb v high)

alike : {a b c d e f g a' b' c' d' e' f' g' : Bool} → a ≡ a' → b ≡ b' → c ≡ c' → d ≡ d' → e ≡ e' → f ≡ f' → g ≡ g' → values a b c d e f g ≡ values a' b' c' d' e' f' g'
alike p q r s t u v = rw (p, q, r, s, t, u, v)

zone : (low size v : ℕ) → 0 < size → (z : Zone) × (values_of low size v ≡ values_in z)
zone low size v some = go (dec_lt v low) (dec_lt low v) (dec_lt v high) (dec_lt high v)
  where
    high : ℕ
    high = low + size

    not-less : (m n : ℕ) → m < n → eqb m n ≡ false
    not-less m n l = ne_eqb m n (λ e. omega (arith, l, e))

    not_more : (m n : ℕ) → n < m → eqb m n ≡ false
    not_more m n l = ne_eqb m n (λ e. omega (arith, l, e))

    go : Dec (v < low) → Dec (low < v) → Dec (v < low + size) → Dec (low + size < v) → (z : Zone) × (values_of low size v ≡ values_in z)
    go (yes a) (yes b) _ _ = absurd (omega (arith, a, b))
    go (yes a) (no b) c d = (
      below,
      alike (lt-leb low v a) (le-ltb low v (omega (arith, a))) (not-less v low a) (le-leb v low (omega (arith, a))) (le-leb v (low + size) (omega (arith, a)))
          (lt-ltb v (low + size) (omega (arith, a))) (not-less v (low + size) (omega (arith, a))),
    )
    go (no a) (no b) c d = (
      first,
      alike (le-leb low v (omega (arith, a))) (le-ltb low v (omega (arith, b))) (eq-eqb v low (omega (arith, a, b))) (le-leb v low (omega (arith, b)))
          (le-leb v (low + size) (omega (arith, b))) (lt-ltb v (low + size) (omega (arith, b, some))) (not-less v (low + size) (omega (arith, b, some))),
    )
    go (no a) (yes b) (yes c) d = (
      amid,
      alike (le-leb low v (omega (arith, b))) (lt-ltb low v b) (not_more v low b) (lt-leb v low b) (le-leb v (low + size) (omega (arith, c)))
          (lt-ltb v (low + size) c) (not-less v (low + size) c),
    )
    go (no a) (yes b) (no c) (no d) = (
      second,
      alike (le-leb low v (omega (arith, b))) (lt-ltb low v b) (not_more v low b) (lt-leb v low b) (le-leb v (low + size) (omega (arith, d)))
          (le-ltb v (low + size) (omega (arith, c))) (eq-eqb v (low + size) (omega (arith, c, d))),
    )
    go (no a) (yes b) (no c) (yes d) = (
      above,
      alike (le-leb low v (omega (arith, b))) (lt-ltb low v b) (not_more v low b) (lt-leb v low b) (lt-leb v (low + size) d)
          (le-ltb v (low + size) (omega (arith, c))) (not_more v (low + size) d),
    )

-- the answer, and the one that it should be, from the tests of x and of y

abbrev is_on : Values → Values → Bool
is_on x y =
    (y.is_first && (x.first_le && x.le_second))
    || ((x.is_second && (y.first_le && y.le_second)) || ((y.is_second && (x.first_le && x.le_second)) || ((x.is_first && (y.first_le && y.le_second)) || false)))

abbrev crossed : Values → Values → ℕ
crossed x y = 0 + (cond ((y.first_le && y.lt_second) && x.le_second) 1 0 + (0 + (cond ((y.first_le && y.lt_second) && x.le_first) 1 0 + 0)))

abbrev found : Values → Values → Place
found x y = cond (is_on x y) Place.On (cond (odd (crossed x y)) Place.Inside Place.Outside)

abbrev wanted : Values → Values → Place
wanted x y = cond ((x.first_lt && x.lt_second) && (y.first_lt && y.lt_second)) Place.Inside (cond ((x.first_le && x.le_second) && (y.first_le && y.le_second)) Place.On Place.Outside)

as_wanted : (u v : Zone) → found (values_in u) (values_in v) ≡ wanted (values_in u) (values_in v)
as_wanted below below = refl
as_wanted below first = refl
as_wanted below amid = refl
as_wanted below second = refl
as_wanted below above = refl
as_wanted first below = refl
as_wanted first first = refl
as_wanted first amid = refl
as_wanted first second = refl
as_wanted first above = refl
as_wanted amid below = refl
as_wanted amid first = refl
as_wanted amid amid = refl
as_wanted amid second = refl
as_wanted amid above = refl
as_wanted second below = refl
as_wanted second first = refl
as_wanted second amid = refl
as_wanted second second = refl
as_wanted second above = refl
as_wanted above below = refl
as_wanted above first = refl
as_wanted above amid = refl
as_wanted above second = refl
as_wanted above above = refl

module _ (x y w h px py : ℕ) where
  on-is : on_any (edges (rectangle x y w h)) (point px py) ≡ is_on (values_of x w px) (values_of y h py)
  unfolding edges path on_any
  on-is =
      ap₂ ◌||◌ (level-on px py x w y)
      (ap₂ ◌||◌ (upright-on px py (x + w) y h)
      (ap₂ ◌||◌ (on-flipped (edge_of x (y + h) (x + w) (y + h)) (point px py) ∙ level-on px py x w (y + h))
      (ap₂ ◌||◌ (on-flipped (edge_of x y x (y + h)) (point px py) ∙ upright-on px py x y h) refl)))

  crossed-is : crossings (edges (rectangle x y w h)) (point px py) ≡ crossed (values_of x w px) (values_of y h py)
  unfolding edges path crossings
  crossed-is =
      rw (
        level-counts px py x (x + w) y,
        level-counts px py (x + w) x (y + h),
        upright-counts px py (x + w) y h,
        counts-flipped (edge_of x y x (y + h)) (point px py),
        upright-counts px py x y h,
      )

  place_is : 0 < w → 0 < h → place_of (edges (rectangle x y w h)) (point px py) ≡ place_in x y (x + w) (y + h) px py
  unfolding place_of place_in
  place_is wide high =
      let u = zone x w px wide in
      let v = zone y h py high in
      ap₂ (λ (b : Bool) (n : ℕ). cond b Place.On (cond (odd n) Place.Inside Place.Outside)) on-is crossed-is
      ∙ ap₂ found u.1 v.1 ∙ as_wanted u.0 v.0 ∙ sym (ap₂ wanted u.1 v.1)

  pub rectangle-place : 0 < w → 0 < h → x + w ≤ FARTHEST → y + h ≤ FARTHEST → px ≤ FARTHEST → py ≤ FARTHEST
      → point_call (words_of (rectangle x y w h)) px py ≡ located_of ACCEPTED (number_of (place_in x y (x + w) (y + h) px py))
  rectangle-place wide high east north near-x near-y =
      let place = sym (place_is wide high) ∙ ap (λ (ps : List Point). place_of (edges ps) (point px py)) (sym (points-words (rectangle x y w h))) in
      let fine = refusal-none (words_of (rectangle x y w h)) px py (rectangle-fine x y w h east north) near-x near-y in
      sym (point-accepted (words_of (rectangle x y w h)) px py fine (place_in x y (x + w) (y + h) px py) place)
