-- What stands in a list, by places and by counts; the numbers that pass a test stand in rising order.
use Prim.Native.Nat.{ℕ, zero, suc, ◌+◌, ◌≤◌, ◌<◌}
use native.Mathlib.Omega.{arith}
use native.Mathlib.Nat.{not-suc-le-zero}
use native.Mathlib.Decide.{ℕ_discrete, dec_lt}
use mathlib.Core.Path.{◌≡◌, refl, sym, ap}
use mathlib.Core.Logic.{◌≢◌}
use mathlib.Core.Bool.{Bool, true, false, cond}
use mathlib.Core.List.{List, [], ◌∷◌, ◌++◌}
use lib.ListN.{length, get_or, length-append, get_or-append}
use lib.Seq.{get_or_at}
use lib.Dec.{eqb}
use borrow.Author.Tests.{eq-eqb, ne_eqb}
use Rattle.pages.specs.Lists.{one, sum, Every, times}
use Rattle.pages.proofs.Lists.{every-at, every_map, every_append, sum-append, sum-at, sum-two}
use Rattle.query.specs.Listing.{rising}
use Rattle.query.specs.Demand2.{In}

pub in-times : (c : ℕ) (xs : List ℕ) → In c xs → 1 ≤ times c xs
in-times c xs m =
    omega (arith, ap one (eq-eqb (get_or xs m.place 0) c m.holds), sum-at (λ x. one (eqb x c)) xs m.place 0 m.inside)

pub times-in : (c : ℕ) (xs : List ℕ) → 1 ≤ times c xs → In c xs
times-in c [] h = absurd (omega arith)
times-in c (x ∷ xs) h = go (ℕ_discrete x c) (times-in c xs)
  where
    go : Dec (x ≡ c) → (1 ≤ times c xs → In c xs) → In c (x ∷ xs)
    go (yes e) r = record { place = 0; inside = omega arith; holds = e }
    go (no e) r =
        let m = r (omega (arith, ap one (ne_eqb x c e))) in
        record { place = suc m.place; inside = omega (arith, m.inside); holds = m.holds }

-- a number that stands one time stands at one place
pub once-apart : (xs : List ℕ) → ((c : ℕ) → times c xs ≤ 1) → (i j : ℕ) → i < j → j < length xs → get_or xs i 0 ≢ get_or xs j 0
once-apart xs h i j l k e =
    let c : ℕ = get_or xs j 0 in
    omega (arith, h c, sum-two (λ x. one (eqb x c)) xs i j 0 l k, ap one (eq-eqb (get_or xs i 0) c e), ap one (eq-eqb c c refl))

-- some element has the weight that a sum has
pub sum-some : {A : Type 0} (f : A → ℕ) (xs : List A) (d : A) → 1 ≤ sum f xs → (i : ℕ) × (i < length xs) × (1 ≤ f (get_or xs i d))
sum-some f [] d h = absurd (omega arith)
sum-some f (x ∷ xs) d h = go (f x) refl (sum-some f xs d)
  where
    go : (n : ℕ) → f x ≡ n → (1 ≤ sum f xs → (i : ℕ) × (i < length xs) × (1 ≤ f (get_or xs i d))) → (i : ℕ) × (i < length (x ∷ xs)) × (1 ≤ f (get_or (x ∷ xs) i d))
    go zero e r =
        let m = r (omega arith) in
        (suc m.0, omega (arith, m.1), m.2)
    go (suc n) e r = (zero, omega arith, omega arith)

module _ (p : ℕ → Bool) where
  pub rising-below : (n : ℕ) → Every (λ x. x < n) (rising n p)
  rising-below zero = tt
  rising-below (suc n) =
      every_append (λ x. x < suc n) (rising n p) (cond (p n) (n ∷ []) []) (every_map (λ x. x < n) (λ x. x < suc n) (λ x l. omega arith) (rising n p) (rising-below n)) (last (p n))
    where
      last : (b : Bool) → Every (λ x. x < suc n) (cond b (n ∷ []) [])
      last true = (omega arith, tt)
      last false = tt

  pub rising-order : (n i j : ℕ) → i < j → j < length (rising n p) → get_or (rising n p) i 0 < get_or (rising n p) j 0
  rising-order zero i j l k = absurd (not-suc-le-zero k)
  rising-order (suc n) i j l k = go (p n) (dec_lt j (length (rising n p))) k (rising-order n i j l)
    where
      go : (b : Bool) → Dec (j < length (rising n p)) → j < length (rising n p ++ cond b (n ∷ []) []) → (j < length (rising n p) → get_or (rising n p) i 0 < get_or (rising n p) j 0)
          → get_or (rising n p ++ cond b (n ∷ []) []) i 0 < get_or (rising n p ++ cond b (n ∷ []) []) j 0
      go b (yes a) m r = rw (get_or-append (rising n p) (cond b (n ∷ []) []) 0 i (omega arith), get_or-append (rising n p) (cond b (n ∷ []) []) 0 j a) (r a)
      go false (no a) m r = absurd (omega (arith, length-append {A = ℕ} (rising n p) []))
      go true (no a) m r =
          let e : j ≡ length (rising n p) = omega (arith, length-append (rising n p) (n ∷ [])) in
          let il : i < length (rising n p) = omega arith in
          rw (get_or-append (rising n p) (n ∷ []) 0 i il, get_or_at (rising n p) n [] 0 j (sym e)) (every-at (λ x. x < n) (rising n p) 0 (rising-below n) i il)

  not_last : (b : Bool) (n c : ℕ) → n ≢ c → times c (cond b (n ∷ []) []) ≡ 0
  not_last true n c e = omega (arith, ap one (ne_eqb n c e))
  not_last false n c e = refl

  not-below : (n c : ℕ) → n ≤ c → times c (rising n p) ≡ 0
  not-below zero c l = refl
  not-below (suc n) c l =
      omega (arith, sum-append (λ x. one (eqb x c)) (rising n p) (cond (p n) (n ∷ []) []), not-below n c (omega arith), not_last (p n) n c (omega arith))

  -- each number below n that passes, one time
  pub rising-times : (n c : ℕ) → c < n → times c (rising n p) ≡ one (p c)
  rising-times zero c l = absurd (not-suc-le-zero l)
  rising-times (suc n) c l = go (ℕ_discrete n c) (rising-times n c)
    where
      both : times c (rising (suc n) p) ≡ times c (rising n p) + times c (cond (p n) (n ∷ []) [])
      both = sum-append (λ x. one (eqb x c)) (rising n p) (cond (p n) (n ∷ []) [])

      same : (b : Bool) → n ≡ c → times c (cond b (n ∷ []) []) ≡ one b
      same true e = omega (arith, ap one (eq-eqb n c e))
      same false e = refl

      go : Dec (n ≡ c) → (c < n → times c (rising n p) ≡ one (p c)) → times c (rising (suc n) p) ≡ one (p c)
      go (yes e) r = omega (arith, both, not-below n c (omega arith), same (p n) e, ap (λ x. one (p x)) e)
      go (no e) r = omega (arith, both, r (omega arith), not_last (p n) n c e)
