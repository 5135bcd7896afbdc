-- A loop that goes through a list of n numbers and leaves f h at each place h: what the list is after h turns.
use mathlib.Core.Bool.{cond}
use mathlib.Core.List.{List}
use mathlib.Core.Path.{◌≡◌, sym, ap, ◌∙◌}
use Prim.Native.Nat.{ℕ, ◌+◌, ◌≤◌, ◌<◌}
use native.Mathlib.Decide.{ℕ_discrete, dec_lt}
use native.Mathlib.Omega.{arith}
use lib.Dec.{ltb}
use lib.ListN.{length, get_or, set, length-set}
use lib.Seq.{get_or-set_same, get_or-set_other}
use borrow.Author.Tests.{lt-ltb, le-ltb}
use Rattle.relations.specs.Sets.{listed}
use Rattle.relations.proofs.Bits.{listed_at, length-listed, listed_of, listed_same}

module _ (f : ℕ → ℕ) (l : List ℕ) (n : ℕ) where
  up_to : ℕ → ℕ → ℕ
  up_to h k = cond (ltb k h) (f k) (get_or l k 0)

  pub filled : ℕ → List ℕ
  filled h = listed (up_to h) n

  done : (h k : ℕ) → k < h → up_to h k ≡ f k
  unfolding up_to
  done h k m = simp (lt-ltb k h m)

  rest : (h k : ℕ) → h ≤ k → up_to h k ≡ get_or l k 0
  unfolding up_to
  rest h k m = simp (le-ltb k h m)

  pub filled_none : length l ≡ n → l ≡ filled 0
  unfolding filled
  filled_none e = listed_of (up_to 0) n l e (λ k m. sym (rest 0 k (omega arith)))

  pub filled_at : (h : ℕ) → h < n → get_or (filled h) h 0 ≡ get_or l h 0
  unfolding filled
  filled_at h m = listed_at (up_to h) n h m ∙ rest h h (omega arith)

  same-but : (h k : ℕ) → (k ≡ h → ⊥) → up_to h k ≡ up_to (h + 1) k
  same-but h k d = go (dec_lt k h)
    where
      go : Dec (k < h) → up_to h k ≡ up_to (h + 1) k
      go (yes m) = done h k m ∙ sym (done (h + 1) k (omega arith))
      go (no m) = rest h k (omega arith) ∙ sym (rest (h + 1) k (omega arith))

  pub filled_more : (h v : ℕ) → h < n → v ≡ f h → set (filled h) h v ≡ filled (h + 1)
  unfolding filled
  filled_more h v m e =
      listed_of (up_to (h + 1)) n (set (filled h) h v) (length-set (filled h) h v ∙ length-listed (up_to h) n)
      (λ k a. go k a (ℕ_discrete k h))
    where
      go : (k : ℕ) → k < n → Dec (k ≡ h) → get_or (set (filled h) h v) k 0 ≡ up_to (h + 1) k
      go k a (yes q) =
          ap (λ (x : ℕ). get_or (set (filled h) h v) x 0) q ∙ get_or-set_same (filled h) h v 0 (omega (arith, length-listed (up_to h) n))
          ∙ e ∙ sym (ap (up_to (h + 1)) q ∙ done (h + 1) h (omega arith))
      go k a (no q) = get_or-set_other (filled h) h k v 0 q ∙ listed_at (up_to h) n k a ∙ same-but h k q

  pub filled-all : (h : ℕ) → h ≡ n → filled h ≡ listed f n
  unfolding filled
  filled-all h e = listed_same (up_to h) f n (λ k a. done h k (omega arith))
