-- The numbers below n that pass a test, as members of their list.
use Prim.Native.Nat.{ℕ, zero, suc, ◌<◌}
use native.Mathlib.Omega.{arith}
use native.Mathlib.Nat.{not-suc-le-zero}
use native.Mathlib.Decide.{ℕ_discrete}
use mathlib.Core.Path.{◌≡◌, refl}
use mathlib.Core.Logic.{◌⊎◌, inl, inr}
use mathlib.Core.Bool.{Bool, true, false, cond}
use mathlib.Core.List.Memᴰ
use mathlib.Core.List.{[], ◌∷◌, ◌++◌, Memᴰ}
use lib.Dec.{T}
use Rattle.query.specs.Listing.{rising}

-- a number is listed exactly when it passes
pub in-rising : (n : ℕ) (p : ℕ → Bool) (i : ℕ) → i < n → T (p i) → Memᴰ i (rising n p)
in-rising zero p i l t = absurd (not-suc-le-zero l)
in-rising (suc n) p i l t = go (ℕ_discrete i n) (λ k. in-rising n p i k t)
  where
    last : (b : Bool) → T b → i ≡ n → Memᴰ i (cond b (n ∷ []) [])
    last true k e = Memᴰ.head e
    last false k e = absurd k

    go : Dec (i ≡ n) → (i < n → Memᴰ i (rising n p)) → Memᴰ i (rising n p ++ cond (p n) (n ∷ []) [])
    go (yes e) r = Memᴰ.append_right (rising n p) (last (p n) (rw e at t) e)
    go (no e) r = Memᴰ.append_left (cond (p n) (n ∷ []) []) (r (omega arith))

pub rising-in : (n : ℕ) (p : ℕ → Bool) (i : ℕ) → Memᴰ i (rising n p) → (i < n) × T (p i)
rising-in zero p i m = absurd (Memᴰ.not-nil m)
rising-in (suc n) p i m = go (Memᴰ.append_cases (rising n p) m) (rising-in n p i)
  where
    last : (b : Bool) → p n ≡ b → Memᴰ i (cond b (n ∷ []) []) → (i < suc n) × T (p i)
    last true e k =
        let z : i ≡ n = Memᴰ.eq_of_singleton k in
        (omega arith, rw (z, e) tt)
    last false e k = absurd (Memᴰ.not-nil k)

    go : Memᴰ i (rising n p) ⊎ Memᴰ i (cond (p n) (n ∷ []) []) → (Memᴰ i (rising n p) → (i < n) × T (p i)) → (i < suc n) × T (p i)
    go (inl k) r =
        let (l, t) = r k in
        (omega arith, t)
    go (inr k) r = last (p n) refl k
