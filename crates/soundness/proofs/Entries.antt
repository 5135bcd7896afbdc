-- The weight of the entries before place i and of the one there is within that of the first n; and a rectangle widened by itself.
use Prim.Native.Nat.{ℕ, zero, suc, ◌+◌, ◌≤◌, ◌<◌, min, max}
use native.Mathlib.Omega.{arith}
use native.Mathlib.Nat.{not-suc-le-zero}
use native.Mathlib.Decide.{ℕ_discrete}
use mathlib.Core.Path.{◌≡◌}
use mathlib.Core.List.{List, [], ◌∷◌, ◌++◌}
use Rattle.pages.specs.declared.Rect.{Rect}
use Rattle.pages.specs.declared.Entry.{Entry}
use Rattle.pages.specs.Lists.{sum}
use Rattle.pages.specs.Rectangles.{widen}
use Rattle.pages.specs.Readers.{entry_in, entries_in}
use Rattle.pages.proofs.Lists.{sum-append}

module _ (w : List ℕ) where
  pub sum-entry : (f : Entry → ℕ) (n i : ℕ) → i < n → sum f (entries_in w i) + f (entry_in w i) ≤ sum f (entries_in w n)
  unfolding entries_in
  sum-entry f zero i l = absurd (not-suc-le-zero l)
  sum-entry f (suc n) i l = go (ℕ_discrete i n) (sum-append f (entries_in w n) (entry_in w n ∷ [])) (sum-entry f n i)
    where
      go : Dec (i ≡ n) → sum f (entries_in w n ++ (entry_in w n ∷ [])) ≡ sum f (entries_in w n) + (f (entry_in w n) + 0) → (i < n → sum f (entries_in w i) + f (entry_in w i) ≤ sum f (entries_in w n))
          → sum f (entries_in w i) + f (entry_in w i) ≤ sum f (entries_in w n ++ (entry_in w n ∷ []))
      go (yes e) s r = rw e (omega arith)
      go (no e) s r = omega (arith, r (omega arith))

widen-self : (r : Rect) → widen r r ≡ r
unfolding widen
widen-self r = λ i. record { x1 = low r.x1 i; y1 = low r.y1 i; x2 = high r.x2 i; y2 = high r.y2 i }
  where
    low : (n : ℕ) → min n n ≡ n
    low n = omega arith

    high : (n : ℕ) → max n n ≡ n
    high n = omega arith
