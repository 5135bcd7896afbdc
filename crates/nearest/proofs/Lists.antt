-- Numbers among others, and sums over what passes a test.
use Prim.Native.Nat.{ℕ, ◌+◌, ◌≤◌}
use native.Mathlib.Omega.{arith}
use native.Mathlib.Decide.{ℕ_discrete}
use mathlib.Core.Path.{◌≡◌, refl, sym, ap, ◌∙◌}
use mathlib.Core.Bool.{Bool, true, false, cond, not, ◌||◌, false≢true, or-false, or_assoc}
use mathlib.Core.List.{List, [], ◌∷◌, ◌++◌, map}
use lib.Dec.{eqb}
use borrow.Author.Tests.{eq-eqb, ne_eqb}
use Rattle.std.specs.Prelude.{filter}
use Rattle.pages.specs.Lists.{one, sum, concat_map, is_among, Every, times}
use Rattle.pages.proofs.Lists.{every_map, every_append, sum-append}

-- n and m, by one case
same-or : (n m : ℕ) (P : Bool → Bool → Type 0) → (n ≡ m → P true true) → P false false → P (eqb n m) (eqb m n)
same-or n m P y z = go (ℕ_discrete n m)
  where
    go : Dec (n ≡ m) → P (eqb n m) (eqb m n)
    go (yes e) = rw (eq-eqb n m e, eq-eqb m n (sym e)) (y e)
    go (no k) = rw (ne_eqb n m k, ne_eqb m n (λ e. k (sym e))) z

pub among-some : (n : ℕ) (ms : List ℕ) → is_among n ms ≡ true → 1 ≤ times n ms
among-some n [] e = absurd (false≢true e)
among-some n (m ∷ ms) e = same-or n m (λ a b. a || is_among n ms ≡ true → 1 ≤ one b + times n ms) (λ h k. omega arith) (λ k. omega (arith, among-some n ms k)) e

pub among-none : (n : ℕ) (ms : List ℕ) → times n ms ≡ 0 → is_among n ms ≡ false
among-none n [] e = refl
among-none n (m ∷ ms) e = same-or n m (λ a b. one b + times n ms ≡ 0 → a || is_among n ms ≡ false) (λ h k. absurd (omega arith)) (λ k. among-none n ms (omega arith)) e

pub some-among : (n : ℕ) (ms : List ℕ) → 1 ≤ times n ms → is_among n ms ≡ true
some-among n [] l = absurd (omega arith)
some-among n (m ∷ ms) l = same-or n m (λ a b. 1 ≤ one b + times n ms → a || is_among n ms ≡ true) (λ h k. refl) (λ k. some-among n ms (omega arith)) l

pub among-append : (n : ℕ) (ms ks : List ℕ) → is_among n ms ≡ true → is_among n (ms ++ ks) ≡ true
among-append n ms ks e = some-among n (ms ++ ks) (omega (arith, among-some n ms e, sum-append (λ m. one (eqb m n)) ms ks))

-- one number more
pub among-last : (n : ℕ) (ms : List ℕ) (k : ℕ) → is_among n (ms ++ k ∷ []) ≡ is_among n ms || eqb n k
among-last n [] k = or-false (eqb n k)
among-last n (m ∷ ms) k = ap (λ b. eqb n m || b) (among-last n ms k) ∙ sym (or_assoc (eqb n m) (is_among n ms) (eqb n k))

-- a statement of each of the numbers holds of one that is among them
pub among-every : (P : ℕ → Type 0) (n : ℕ) (ms : List ℕ) → Every P ms → is_among n ms ≡ true → P n
among-every P n [] h e = absurd (false≢true e)
among-every P n (m ∷ ms) h e = same-or n m (λ a b. a || is_among n ms ≡ true → P n) (λ z k. rw z h.0) (λ k. among-every P n ms h.1 k) e

or-right : (a b : Bool) → b ≡ true → a || b ≡ true
or-right true b e = refl
or-right false b e = e

pub all-among : (ms : List ℕ) → Every (λ m. is_among m ms ≡ true) ms
all-among [] = tt
all-among (m ∷ ms) = (rw (eq-eqb m m refl) refl, every_map _ (λ k. is_among k (m ∷ ms) ≡ true) (λ k e. or-right (eqb k m) (is_among k ms) e) ms (all-among ms))

-- the weight of one that is among them
pub sum-among : (f : ℕ → ℕ) (n : ℕ) (ms : List ℕ) → is_among n ms ≡ true → f n ≤ sum f ms
sum-among f n [] e = absurd (false≢true e)
sum-among f n (m ∷ ms) e = same-or n m (λ a b. a || is_among n ms ≡ true → f n ≤ f m + sum f ms) (λ z k. rw z (omega arith)) (λ k. omega (arith, sum-among f n ms k)) e

pub not_true : (b : Bool) → not b ≡ true → b ≡ false
not_true true e = absurd (false≢true e)
not_true false e = refl

module _ {A : Type 0} where
  pub sum-filter : (p : A → Bool) (f : A → ℕ) (xs : List A) → sum f (filter p xs) ≡ sum (λ x. cond (p x) (f x) 0) xs
  sum-filter p f [] = refl
  sum-filter p f (x ∷ xs) = go (p x) (sum-filter p f xs)
    where
      go : (b : Bool) → sum f (filter p xs) ≡ sum (λ x. cond (p x) (f x) 0) xs → sum f (cond b (x ∷ filter p xs) (filter p xs)) ≡ cond b (f x) 0 + sum (λ x. cond (p x) (f x) 0) xs
      go true e = omega arith
      go false e = omega arith

  pub every-filter : (P : A → Type 0) (p : A → Bool) (xs : List A) → Every P xs → Every P (filter p xs)
  every-filter P p [] h = tt
  every-filter P p (x ∷ xs) h = go (p x) (every-filter P p xs h.1)
    where
      go : (b : Bool) → Every P (filter p xs) → Every P (cond b (x ∷ filter p xs) (filter p xs))
      go true k = (h.0, k)
      go false k = k

  pub filter-passes : (p : A → Bool) (xs : List A) → Every (λ x. p x ≡ true) (filter p xs)
  filter-passes p [] = tt
  filter-passes p (x ∷ xs) = go (p x) refl (filter-passes p xs)
    where
      go : (b : Bool) → p x ≡ b → Every (λ x. p x ≡ true) (filter p xs) → Every (λ x. p x ≡ true) (cond b (x ∷ filter p xs) (filter p xs))
      go true e k = (e, k)
      go false e k = k

module _ {A B : Type 0} (P : B → Type 0) where
  pub every-mapped : (f : A → B) (xs : List A) → Every (λ x. P (f x)) xs → Every P (map f xs)
  every-mapped f [] h = tt
  every-mapped f (x ∷ xs) h = (h.0, every-mapped f xs h.1)

  pub mapped-every : (f : A → B) (xs : List A) → Every P (map f xs) → Every (λ x. P (f x)) xs
  mapped-every f [] h = tt
  mapped-every f (x ∷ xs) h = (h.0, mapped-every f xs h.1)

  pub every-concat : (f : A → List B) (xs : List A) → Every (λ x. Every P (f x)) xs → Every P (concat_map f xs)
  every-concat f [] h = tt
  every-concat f (x ∷ xs) h = every_append P (f x) (concat_map f xs) h.0 (every-concat f xs h.1)
