-- What the tests mean: a point of an edge is the mean of its ends by the parts at its height, and every other such mean is the same point.
use Prim.Native.Nat.{ℕ, ◌+◌, ◌*◌, ◌≤◌, ◌<◌, min, max}
use mathlib.Core.Path.{◌≡◌, ap, ◌∙◌}
use mathlib.Core.Bool.{true, ◌&&◌}
use mathlib.Core.Logic.{◌↔◌}
use native.Mathlib.Decide.{dec_lt}
use native.Mathlib.Nat.{le_of_lt, add-mul, mul_left_comm, mul-le-mul_left, le_of_mul-le-mul_left, eq_of_mul-eq-mul_left}
use native.Mathlib.Omega.{arith}
use lib.Dec.{leb, ltb, eqb}
use borrow.Author.Tests.{leb-true, ltb-true, eqb-true, le-leb, lt-ltb, eq-eqb}
use Rattle.outline.specs.declared.Point.{Point}
use Rattle.outline.specs.declared.Edge.{Edge}
use Rattle.outline.specs.Outline.{point}
use Rattle.outline.specs.Place.{apart, gone, ahead, parts, x_there, meets_ray, counts, between, is_on_edge}
use Rattle.outline.specs.Meaning.{LiesOn, Crosses}
use Rattle.outline.proofs.Tests.{and_left, and_right, both}
use Rattle.outline.proofs.Heights.{ring, edge_of, AtHeight, parted}

-- a mean of two numbers lies between them
mean-low : (s t v w z : ℕ) → 0 < s + t → (s + t) * z ≡ s * v + t * w → min v w ≤ z
mean-low s t v w z some e =
    let one = mul-le-mul_left s (the-lesser v w) in
    let other = mul-le-mul_left t (the-lesser' v w) in
    le_of_mul-le-mul_left {k = s + t} (omega (arith, add-mul s t z, add-mul s t (min v w))) some
  where
    the-lesser : (v w : ℕ) → min v w ≤ v
    the-lesser v w = omega arith

    the-lesser' : (v w : ℕ) → min v w ≤ w
    the-lesser' v w = omega arith

mean-high : (s t v w z : ℕ) → 0 < s + t → (s + t) * z ≡ s * v + t * w → z ≤ max v w
mean-high s t v w z some e =
    let one = mul-le-mul_left s (the-greater v w) in
    let other = mul-le-mul_left t (the-greater' v w) in
    le_of_mul-le-mul_left {k = s + t} (omega (arith, add-mul s t z, add-mul s t (max v w))) some
  where
    the-greater : (v w : ℕ) → v ≤ max v w
    the-greater v w = omega arith

    the-greater' : (v w : ℕ) → w ≤ max v w
    the-greater' v w = omega arith

-- means in the same proportion
proportional : (s t h k a c : ℕ) → s * k ≡ t * h → (h + k) * (s * a + t * c) ≡ (s + t) * (h * a + k * c)
proportional s t h k a c e =
    let times-a = simp ring at (ap (λ (n : ℕ). n * a) e) in
    let times-c = simp ring at (ap (λ (n : ℕ). n * c) e) in
    simp ring (omega arith)

proportional-le : (s t h k a c x : ℕ) → 0 < s + t → s * k ≡ t * h → (s + t) * x ≤ s * a + t * c → (h + k) * x ≤ h * a + k * c
proportional-le s t h k a c x some e n =
    le_of_mul-le-mul_left {k = s + t} (omega (arith, mul-le-mul_left (h + k) n, mul_left_comm (h + k) (s + t) x, proportional s t h k a c e)) some

proportional-eq : (s t h k a c x : ℕ) → 0 < s + t → s * k ≡ t * h → (s + t) * x ≡ s * a + t * c → (h + k) * x ≡ h * a + k * c
proportional-eq s t h k a c x some e n =
    eq_of_mul-eq-mul_left (s + t) some _ _ (mul_left_comm (s + t) (h + k) x ∙ ap (λ (m : ℕ). (h + k) * m) n ∙ proportional s t h k a c e)

pub between-facts : (v w z : ℕ) → between v w z ≡ true → (min v w ≤ z) × (z ≤ max v w)
unfolding between
between-facts v w z t = (leb-true _ _ (and_left (leb (min v w) z) (leb z (max v w)) t), leb-true _ _ (and_right (leb (min v w) z) (leb z (max v w)) t))

pub is-between : (v w z : ℕ) → min v w ≤ z → z ≤ max v w → between v w z ≡ true
unfolding between
is-between v w z l h = both (le-leb _ _ l) (le-leb _ _ h)

module _ (e : Edge) (p : Point) where
  -- on a level edge by the parts of its width, which are the parts of the edge with x and y exchanged
  pub level-lies : e.b ≡ p.y → e.d ≡ p.y → min e.a e.c ≤ p.x → p.x ≤ max e.a e.c → LiesOn e p
  level-lies b d l h = go (dec_lt 0 (s + t))
    where
      s : ℕ
      s = apart e.c p.x

      t : ℕ
      t = apart e.a p.x

      across : (s + t) * p.x ≡ s * e.a + t * e.c
      across = (parted (edge_of e.b e.a e.d e.c) (point p.y p.x) (record { south = l; north = h })).height

      go : Dec (0 < s + t) → LiesOn e p
      go (yes some) = record { mean = record { s = s; t = t; some = some }; x = across; y = rw (b, d) (add-mul s t p.y) }
      go (no n) = record { mean = record { s = 1; t = 0; some = omega arith }; x = omega arith; y = omega arith }

  lies-on : is_on_edge e p ≡ true → LiesOn e p
  unfolding is_on_edge
  lies-on t =
      let across = between-facts e.a e.c p.x (and_left (between e.a e.c p.x) _ t) in
      let rest = and_right (between e.a e.c p.x) (between e.b e.d p.y && eqb (parts e p.y * p.x) (x_there e p.y)) t in
      let along = between-facts e.b e.d p.y (and_left (between e.b e.d p.y) _ rest) in
      let there = eqb-true _ _ (and_right (between e.b e.d p.y) (eqb (parts e p.y * p.x) (x_there e p.y)) rest) in
      go across along there (dec_lt 0 (parts e p.y))
    where
      go : (min e.a e.c ≤ p.x) × (p.x ≤ max e.a e.c) → (min e.b e.d ≤ p.y) × (p.y ≤ max e.b e.d)
          → parts e p.y * p.x ≡ x_there e p.y → Dec (0 < parts e p.y) → LiesOn e p
      go across along there (yes some) =
          record {
            mean = record { s = ahead e p.y; t = gone e p.y; some = some };
            x = there;
            y = (parted e p (record { south = along.0; north = along.1 })).height;
          }
      go across along there (no n) = level-lies (omega (arith, n)) (omega (arith, n)) across.0 across.1

  at-mean : (s t : ℕ) → 0 < s + t → (s + t) * p.y ≡ s * e.b + t * e.d → AtHeight e p
  at-mean s t some y = record { south = mean-low s t e.b e.d p.y some y; north = mean-high s t e.b e.d p.y some y }

  on-lies : LiesOn e p → is_on_edge e p ≡ true
  unfolding is_on_edge
  on-lies o =
      let s = o.mean.s in
      let t = o.mean.t in
      let some = o.mean.some in
      let at = at-mean s t some o.y in
      let across = is-between e.a e.c p.x (mean-low s t e.a e.c p.x some o.x) (mean-high s t e.a e.c p.x some o.x) in
      let there = proportional-eq s t (ahead e p.y) (gone e p.y) e.a e.c p.x some ((parted e p at).share s t o.y) o.x in
      both across (both (is-between e.b e.d p.y at.south at.north) (eq-eqb _ _ there))

  pub on-iff : (is_on_edge e p ≡ true) ↔ LiesOn e p
  on-iff = (lies-on, on-lies)

  pub has_parts : min e.b e.d ≤ p.y → p.y < max e.b e.d → 0 < parts e p.y
  has_parts l h = omega arith

  crosses : counts e p ≡ true → Crosses e p
  unfolding counts meets_ray
  crosses t =
      let lower = leb-true _ _ (and_left (leb (min e.b e.d) p.y) _ t) in
      let rest = and_right (leb (min e.b e.d) p.y) (ltb p.y (max e.b e.d) && leb (parts e p.y * p.x) (x_there e p.y)) t in
      let higher = ltb-true _ _ (and_left (ltb p.y (max e.b e.d)) _ rest) in
      let east = leb-true _ _ (and_right (ltb p.y (max e.b e.d)) (leb (parts e p.y * p.x) (x_there e p.y)) rest) in
      record {
        lower = lower;
        higher = higher;
        meets = record {
          mean = record { s = ahead e p.y; t = gone e p.y; some = has_parts lower higher };
          x = east;
          y = (parted e p (record { south = lower; north = le_of_lt higher })).height;
        };
      }

  counted : Crosses e p → counts e p ≡ true
  unfolding counts meets_ray
  counted o =
      let m = o.meets in
      let s = m.mean.s in
      let t = m.mean.t in
      let share = (parted e p (at-mean s t m.mean.some m.y)).share s t m.y in
      both (le-leb _ _ o.lower)
      (both (lt-ltb _ _ o.higher) (le-leb _ _ (proportional-le s t (ahead e p.y) (gone e p.y) e.a e.c p.x m.mean.some share m.x)))

  pub crosses-iff : (counts e p ≡ true) ↔ Crosses e p
  crosses-iff = (crosses, counted)
