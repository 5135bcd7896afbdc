-- A side cut at two lines: by induction on its units, each strip has as many as lie between the lines when these are drawn in to the side.
use Prim.Native.Nat.{ℕ, zero, suc, ◌+◌, ◌-◌, ◌≤◌, ◌<◌, min, max}
use native.Mathlib.Omega.{arith}
use native.Mathlib.Decide.{dec_lt}
use mathlib.Core.Path.{◌≡◌, refl, ap, ap₂, ◌∙◌}
use mathlib.Core.List.{[], ◌∷◌}
use lib.Dec.{eqb}
use lib.ListN.{get_or}
use Rattle.std.proofs.lemmas.Bool.Decides.{nat_tests}
use Rattle.relations.specs.Sets.{listed}
use Rattle.relations.proofs.Bits.{listed_at}
use Rattle.pages.specs.Lists.{one, sum_below}
use Rattle.tiles.specs.Tiles.{STRIPS, strip}
use Rattle.tiles.specs.Steps.{units_in, cut_at}

strip-before : (q1 q2 x : ℕ) → x < q1 → strip q1 q2 x ≡ 0
unfolding strip
strip-before q1 q2 x h = grind (arith, nat_tests)

strip-between : (q1 q2 x : ℕ) → q1 ≤ x → x < q2 → strip q1 q2 x ≡ 1
unfolding strip
strip-between q1 q2 x h k = grind (arith, nat_tests)

strip-after : (q1 q2 x : ℕ) → q1 ≤ x → q2 ≤ x → strip q1 q2 x ≡ 2
unfolding strip
strip-after q1 q2 x h k = grind (arith, nat_tests)

pub strip-small : (q1 q2 x : ℕ) → strip q1 q2 x < STRIPS
strip-small q1 q2 x = go (dec_lt x q1) (dec_lt x q2)
  where
    go : Dec (x < q1) → Dec (x < q2) → strip q1 q2 x < STRIPS
    go (yes a) b = omega (arith, strip-before q1 q2 x a)
    go (no a) (yes b) = omega (arith, strip-between q1 q2 x (omega arith) b)
    go (no a) (no b) = omega (arith, strip-after q1 q2 x (omega arith) (omega arith))

module _ (p q1 q2 : ℕ) (l : q1 ≤ q2) where
  -- a line, drawn in to the first n units from p
  at : ℕ → ℕ → ℕ
  at v n = max p (min v (p + n))

  at_none : (v : ℕ) → at v 0 ≡ p
  unfolding at
  at_none v = omega arith

  at_last : (v n : ℕ) → p + n ≤ v → at v n ≡ p + n
  unfolding at
  at_last v n h = omega arith

  at_same : (v n : ℕ) → v ≤ p + n → at v (suc n) ≡ 0 + at v n
  unfolding at
  at_same v n h = omega arith

  -- a line beyond the next unit moves with it
  at_moved : (v n : ℕ) → p + n < v → at v (suc n) ≡ 1 + at v n
  at_moved v n h = omega (arith, at_last v (suc n) (omega arith), at_last v n (omega arith))

  units : ℕ → ℕ → ℕ
  units s n = sum_below n (λ a. one (eqb (strip q1 q2 (p + a)) s))

  units-none : (s : ℕ) → units s 0 ≡ 0
  unfolding units
  units-none s = refl

  units-more : (n k : ℕ) → strip q1 q2 (p + n) ≡ k → (s : ℕ) → units s (suc n) ≡ one (eqb k s) + units s n
  unfolding units
  units-more n k e s = ap (λ (x : ℕ). one (eqb x s) + sum_below n (λ a. one (eqb (strip q1 q2 (p + a)) s))) e

  record Cut (n : ℕ) : Type 0 where
    pub before : units 0 n + p ≡ at q1 n
    pub between : units 1 n + at q1 n ≡ at q2 n
    pub after : units 2 n + at q2 n ≡ p + n

  cut : (n : ℕ) → Cut n
  cut zero = record {
    before = omega (arith, units-none 0, at_none q1);
    between = omega (arith, units-none 1, at_none q1, at_none q2);
    after = omega (arith, units-none 2, at_none q2);
  }
  cut (suc n) = go (dec_lt (p + n) q1) (dec_lt (p + n) q2) (cut n)
    where
      -- the unit counts in strip k, and each line moves or stays
      next : (k i j : ℕ) → strip q1 q2 (p + n) ≡ k → at q1 (suc n) ≡ i + at q1 n → at q2 (suc n) ≡ j + at q2 n
          → one (eqb k 0) ≡ i → one (eqb k 1) + i ≡ j → one (eqb k 2) + j ≡ 1 → Cut n → Cut (suc n)
      next k i j e x y a b d c =
          let more = units-more n k e in
          record {
            before = omega (arith, more 0, c.before);
            between = omega (arith, more 1, c.between);
            after = omega (arith, more 2, c.after);
          }

      go : Dec (p + n < q1) → Dec (p + n < q2) → Cut n → Cut (suc n)
      go (yes a) b = next 0 1 1 (strip-before q1 q2 (p + n) a) (at_moved q1 n a) (at_moved q2 n (omega arith)) refl refl refl
      go (no a) (yes b) = next 1 0 1 (strip-between q1 q2 (p + n) (omega arith) b) (at_same q1 n (omega arith)) (at_moved q2 n b) refl refl refl
      go (no a) (no b) = next 2 0 0 (strip-after q1 q2 (p + n) (omega arith) (omega arith)) (at_same q1 n (omega arith)) (at_same q2 n (omega arith)) refl refl refl

-- the side [p1, p2] cut at both lines, each drawn in to it
module _ (p1 p2 q1 q2 : ℕ) where
  abbrev first : ℕ
  first = max p1 (min q1 p2)

  abbrev second : ℕ
  second = max p1 (min q2 p2)

  pub record Parts : Type 0 where
    pub before : units_in p1 p2 q1 q2 0 + p1 ≡ first
    pub between : units_in p1 p2 q1 q2 1 + first ≡ second
    pub after : units_in p1 p2 q1 q2 2 + second ≡ p2

less : (u a b : ℕ) → u + a ≡ b → b - a ≡ u
less u a b e = omega arith

module _ (p1 p2 q1 q2 : ℕ) (lp : p1 ≤ p2) (lq : q1 ≤ q2) where
  pub parts : Parts p1 p2 q1 q2
  unfolding units_in units at
  parts =
      let c = cut p1 q1 q2 lq (p2 - p1) in
      let e : p1 + (p2 - p1) ≡ p2 = omega arith in
      record { before = rw e at c.before; between = rw e at c.between; after = rw e at c.after }

  -- as `cut` makes them
  pub cut-is : (a b : ℕ) → a ≡ first p1 p2 q1 q2 → b ≡ second p1 p2 q1 q2 → (a - p1) ∷ (b - a) ∷ (p2 - b) ∷ [] ≡ cut_at p1 p2 q1 q2
  unfolding cut_at listed
  cut-is a b ea eb =
      let x = ap (λ (z : ℕ). z - p1) ea ∙ less (units_in p1 p2 q1 q2 0) p1 (first p1 p2 q1 q2) parts.before in
      let y = ap₂ ◌-◌ eb ea ∙ less (units_in p1 p2 q1 q2 1) (first p1 p2 q1 q2) (second p1 p2 q1 q2) parts.between in
      let z = ap (λ (z : ℕ). p2 - z) eb ∙ less (units_in p1 p2 q1 q2 2) (second p1 p2 q1 q2) p2 parts.after in
      rw (x, y, z)

pub cut-at : (p1 p2 q1 q2 s : ℕ) → s < STRIPS → get_or (cut_at p1 p2 q1 q2) s 0 ≡ units_in p1 p2 q1 q2 s
unfolding cut_at
cut-at p1 p2 q1 q2 s h = listed_at (units_in p1 p2 q1 q2) STRIPS s h
