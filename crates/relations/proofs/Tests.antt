-- Tests of the Bool: the parts of a conjunction, and what a passed test over 0 .. n - 1 says at each place.
use mathlib.Core.Bool.{Bool, true, false, not, ◌&&◌, ◌||◌, beq, false≢true}
use mathlib.Core.Path.{◌≡◌, refl, sym, ap, ◌∙◌}
use Prim.Native.Nat.{ℕ, zero, suc, ◌<◌}
use native.Mathlib.Nat.{not-suc-le-zero}
use native.Mathlib.Omega.{arith}
use native.Mathlib.Decide.{ℕ_discrete}
use borrow.Author.Tests.{not-true, not-false}
use Rattle.relations.specs.Sets.{some_below}

-- the test passes at each k below n
unfoldable pub all_below : (ℕ → Bool) → ℕ → Bool
unfolding some_below
all_below f n = not (some_below (λ k. not (f k)) n)

pub and_left : (a b : Bool) → (a && b) ≡ true → a ≡ true
and_left true b e = refl
and_left false b e = e

pub and_right : (a b : Bool) → (a && b) ≡ true → b ≡ true
and_right true b e = e
and_right false b e = absurd (false≢true e)

pub or_left : (a b : Bool) → (a || b) ≡ false → a ≡ false
or_left true b e = e
or_left false b e = refl

pub or_right : (a b : Bool) → (a || b) ≡ false → b ≡ false
or_right true b e = absurd (false≢true (sym e))
or_right false b e = e

pub both : {a b : Bool} → a ≡ true → b ≡ true → (a && b) ≡ true
both p q = rw (p, q)

-- two tests that hold together are equal
pub same_test : (a b : Bool) → (a ≡ true → b ≡ true) → (b ≡ true → a ≡ true) → a ≡ b
same_test true b f g = sym (f refl)
same_test false true f g = g refl
same_test false false f g = refl

pub beq-eq : (a b : Bool) → beq a b ≡ true → a ≡ b
beq-eq true true e = refl
beq-eq true false e = sym e
beq-eq false true e = e
beq-eq false false e = refl

pub none-at : (f : ℕ → Bool) (n k : ℕ) → some_below f n ≡ false → k < n → f k ≡ false
unfolding some_below
none-at f zero k t h = absurd (not-suc-le-zero h)
none-at f (suc n) k t h = go (λ l. none-at f n k (or_left (some_below f n) (f n) t) l) (ℕ_discrete k n)
  where
    go : (k < n → f k ≡ false) → Dec (k ≡ n) → f k ≡ false
    go ih (yes e) = ap f e ∙ or_right (some_below f n) (f n) t
    go ih (no e) = ih (omega arith)

pub all-at : (f : ℕ → Bool) (n k : ℕ) → all_below f n ≡ true → k < n → f k ≡ true
unfolding all_below
all-at f n k t h = not-false (f k) (none-at (λ j. not (f j)) n k (not-true (some_below (λ j. not (f j)) n) t) h)

-- the same over pairs
unfoldable pub all_pairs : (ℕ → ℕ → Bool) → ℕ → ℕ → Bool
all_pairs f m n = all_below (λ j. all_below (f j) n) m

pub pair-at : (f : ℕ → ℕ → Bool) (m n j k : ℕ) → all_pairs f m n ≡ true → j < m → k < n → f j k ≡ true
unfolding all_pairs
pair-at f m n j k t hj hk = all-at (f j) n k (all-at (λ i. all_below (f i) n) m j t hj) hk
