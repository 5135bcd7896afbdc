-- The tests of an edge and a point, by the cases of the source: there they are made by cross products.
use Prim.Native.Nat.{ℕ, ◌≤◌, ◌<◌, min, max}
use mathlib.Core.Path.{◌≡◌, refl, sym, ◌∙◌}
use mathlib.Core.Bool.{Bool, true, false, ◌&&◌, and-false, and-true, false≢true}
use native.Mathlib.Decide.{dec_lt}
use native.Mathlib.Nat.{le_of_lt}
use native.Mathlib.Omega.{arith}
use lib.Dec.{leb, ltb, eqb}
use borrow.Author.Tests.{lt-ltb, le-ltb, le-leb, lt-leb, eq-eqb, ne_eqb}
use Rattle.std.specs.Prelude.{Some, None}
use Rattle.std.specs.Ordering.{nat_cmp, is_lt}
use Rattle.std.proofs.lemmas.Bool.Decides.{nat_tests}
use Rattle.outline.specs.declared.Point.{Point}
use Rattle.outline.specs.declared.Edge.{Edge}
use Rattle.outline.specs.Place.{gone, ahead, meets_ray, counts, between, is_on_edge}
use Rattle.outline.specs.Steps.{left, right, met_by}
use Rattle.outline.proofs.Tests.{leb-same, eqb_same}
use Rattle.outline.proofs.Heights.{Parted, parted, east-rising, east-falling}
use Rattle.outline.proofs.Means.{between-facts, is-between, has_parts, on-iff, crosses-iff}

module _ (e : Edge) (p : Point) where
  pub rising : e.b ≤ p.y → p.y < e.d → counts e p ≡ leb (right e p) (left e p)
  unfolding counts meets_ray
  rising l u =
      let lower : min e.b e.d ≤ p.y = omega arith in
      let higher : p.y < max e.b e.d = omega arith in
      rw (le-leb _ _ lower, lt-ltb _ _ higher) (leb-same _ _ (right e p) (left e p) (east-rising e p l (le_of_lt u)))

  pub falling : p.y < e.b → e.d ≤ p.y → counts e p ≡ leb (left e p) (right e p)
  unfolding counts meets_ray
  falling l u =
      let lower : min e.b e.d ≤ p.y = omega arith in
      let higher : p.y < max e.b e.d = omega arith in
      rw (le-leb _ _ lower, lt-ltb _ _ higher) (leb-same _ _ (left e p) (right e p) (east-falling e p u (le_of_lt l)))

  pub all-below : e.b ≤ p.y → e.d ≤ p.y → counts e p ≡ false
  unfolding counts
  all-below l u = let not-higher : max e.b e.d ≤ p.y = omega arith in rw (le-ltb _ _ not-higher, and-false)

  pub all_above : p.y < e.b → p.y < e.d → counts e p ≡ false
  unfolding counts
  all_above l u = let above : p.y < min e.b e.d = omega arith in rw (lt-leb _ _ above)

  -- away from the edge's heights
  never : between e.b e.d p.y ≡ false → counts e p ≡ false
  never v = go (dec_lt p.y e.b) (dec_lt p.y e.d)
    where
      go : Dec (p.y < e.b) → Dec (p.y < e.d) → counts e p ≡ false
      go (yes k) (yes l) = all_above k l
      go (no k) (no l) = all-below (omega (arith, k)) (omega (arith, l))
      go (yes k) (no l) = absurd (false≢true (sym v ∙ is-between e.b e.d p.y (omega (arith, l)) (omega (arith, k))))
      go (no k) (yes l) = absurd (false≢true (sym v ∙ is-between e.b e.d p.y (omega (arith, k)) (omega (arith, l))))

  not_on : between e.b e.d p.y ≡ false → is_on_edge e p ≡ false
  unfolding is_on_edge
  not_on v = rw (v, and-false)

  -- nowhere at the edge's height
  pub not-along : between e.b e.d p.y ≡ false → Some false ≡ met_by e p
  not-along v = rw (not_on v, never v)

  module _ (v : between e.b e.d p.y ≡ true) where
    known : Parted e p
    known = let at = between-facts e.b e.d p.y v in parted e p (record { south = at.0; north = at.1 })

    on-is : is_on_edge e p ≡ (between e.a e.c p.x && eqb (left e p) (right e p))
    unfolding is_on_edge
    on-is = rw (v, eqb_same _ _ (left e p) (right e p) known.line)

    -- where an edge that counts is in line with the point, the point is on it
    on_line : left e p ≡ right e p → counts e p ≡ true → is_on_edge e p ≡ true
    on_line line t =
        let c = (crosses-iff e p).0 t in
        (on-iff e p).1
        (record {
          mean = record { s = ahead e p.y; t = gone e p.y; some = has_parts e p c.lower c.higher };
          x = known.line.1 line;
          y = known.height;
        })

    module _ (line : left e p ≡ right e p) where
      on-line-is : is_on_edge e p ≡ between e.a e.c p.x
      on-line-is = on-is ∙ rw (eq-eqb _ _ line) (and-true (between e.a e.c p.x))

      pub on-it : between e.a e.c p.x ≡ true → None ≡ met_by e p
      on-it b = rw (on-line-is ∙ b)

      -- in line with an edge at its height, and beside it, as only with a level one
      pub beside-it : between e.a e.c p.x ≡ false → Some false ≡ met_by e p
      beside-it b = go (counts e p) refl
        where
          off : is_on_edge e p ≡ false
          off = on-line-is ∙ b

          go : (t : Bool) → counts e p ≡ t → Some false ≡ met_by e p
          go false t = rw (off, t)
          go true t = absurd (false≢true (sym off ∙ on_line line t))

    -- off the line the edge counts by the side that the point is on
    pub off-line : (left e p ≡ right e p → ⊥) → (t : Bool) → counts e p ≡ t → Some t ≡ met_by e p
    off-line apart t c = let off : is_on_edge e p ≡ false = on-is ∙ rw (ne_eqb _ _ apart, and-false) in rw (off, c)

    ends : (min e.b e.d ≤ p.y) × (p.y ≤ max e.b e.d)
    ends = between-facts e.b e.d p.y v

    pub on-right : left e p < right e p → Some (ltb p.y e.b) ≡ met_by e p
    on-right less = off-line (λ n. omega arith) (ltb p.y e.b) (go (dec_lt p.y e.b) (dec_lt p.y e.d))
      where
        go : Dec (p.y < e.b) → Dec (p.y < e.d) → counts e p ≡ ltb p.y e.b
        go (yes h) b = falling h (omega (arith, ends)) ∙ le-leb _ _ (le_of_lt less) ∙ sym (lt-ltb _ _ h)
        go (no h) (yes k) = rising (omega (arith, h)) k ∙ lt-leb _ _ less ∙ sym (le-ltb _ _ (omega (arith, h)))
        go (no h) (no k) = all-below (omega (arith, h)) (omega (arith, k)) ∙ sym (le-ltb _ _ (omega (arith, h)))

    pub on-left : right e p < left e p → Some (ltb p.y e.d) ≡ met_by e p
    on-left more = off-line (λ n. omega arith) (ltb p.y e.d) (go (dec_lt p.y e.d) (dec_lt p.y e.b))
      where
        go : Dec (p.y < e.d) → Dec (p.y < e.b) → counts e p ≡ ltb p.y e.d
        go (yes h) b = rising (omega (arith, ends)) h ∙ le-leb _ _ (le_of_lt more) ∙ sym (lt-ltb _ _ h)
        go (no h) (yes k) = falling k (omega (arith, h)) ∙ lt-leb _ _ more ∙ sym (le-ltb _ _ (omega (arith, h)))
        go (no h) (no k) = all-below (omega (arith, k)) (omega (arith, h)) ∙ sym (le-ltb _ _ (omega (arith, h)))

-- and what an edge says of a point, read back
pub met-on : (e : Edge) (p : Point) → None ≡ met_by e p → is_on_edge e p ≡ true
met-on e p h = go (is_on_edge e p) refl
  where
    go : (o : Bool) → is_on_edge e p ≡ o → is_on_edge e p ≡ true
    go true a = a
    go false a = let f = rw a at h in absurd (cc)

pub met-off : (e : Edge) (p : Point) (t : Bool) → Some t ≡ met_by e p → (is_on_edge e p ≡ false) × (counts e p ≡ t)
met-off e p t h = go (is_on_edge e p) refl
  where
    go : (o : Bool) → is_on_edge e p ≡ o → (is_on_edge e p ≡ false) × (counts e p ≡ t)
    go true a = let f = rw a at h in absurd (cc)
    go false a = let f = rw a at h in (a, cc)

-- what `<` gives at two coordinates
pub lt-is : (m n : ℕ) → is_lt (nat_cmp m n) ≡ ltb m n
lt-is m n = grind (arith, nat_tests)
