-- Sums over the numbers below n, and numbers under a test.
use Prim.Native.Nat.{ℕ, zero, suc, ◌+◌, ◌*◌, ◌≤◌, ◌<◌}
use native.Mathlib.Omega.{arith}
use native.Mathlib.Nat.{not-suc-le-zero}
use native.Mathlib.Decide.{ℕ_discrete}
use mathlib.Core.Path.{◌≡◌, refl, sym, ap, ◌∙◌}
use mathlib.Core.Bool.{Bool, true, false, cond}
use mathlib.Core.List.{List, [], ◌∷◌}
use lib.ListN.{length, get_or}
use lib.Dec.{T, eqb}
use borrow.Author.Tests.{eq-eqb, ne_eqb}
use Rattle.pages.specs.Lists.{one, sum, sum_below, Every}

pub below-same : (n : ℕ) (f g : ℕ → ℕ) → ((i : ℕ) → i < n → f i ≡ g i) → sum_below n f ≡ sum_below n g
below-same zero f g h = refl
below-same (suc n) f g h = omega (arith, h n (omega arith), below-same n f g (λ i l. h i (omega arith)))

pub below-le : (n : ℕ) (f g : ℕ → ℕ) → ((i : ℕ) → i < n → f i ≤ g i) → sum_below n f ≤ sum_below n g
below-le zero f g h = omega arith
below-le (suc n) f g h = omega (arith, h n (omega arith), below-le n f g (λ i l. h i (omega arith)))

pub below-add : (n : ℕ) (f g : ℕ → ℕ) → sum_below n (λ i. f i + g i) ≡ sum_below n f + sum_below n g
below-add zero f g = refl
below-add (suc n) f g = omega (arith, below-add n f g)

pub below-const : (n c : ℕ) → sum_below n (λ i. c) ≡ n * c
below-const zero c = omega arith
below-const (suc n) c = omega (arith, below-const n c)

pub below-times : (n c : ℕ) (f : ℕ → ℕ) → sum_below n (λ i. c * f i) ≡ c * sum_below n f
below-times zero c f = omega arith
below-times (suc n) c f = omega (arith, below-times n c f)

pub below-swap : (n m : ℕ) (f : ℕ → ℕ → ℕ) → sum_below n (λ i. sum_below m (λ j. f i j)) ≡ sum_below m (λ j. sum_below n (λ i. f i j))
below-swap zero m f = omega (arith, below-const m 0)
below-swap (suc n) m f = omega (arith, below-swap n m f, below-add m (f n) (λ j. sum_below n (λ i. f i j)))

pub below-shift : (n : ℕ) (f : ℕ → ℕ) → sum_below (suc n) f ≡ f 0 + sum_below n (λ i. f (suc i))
below-shift zero f = refl
below-shift (suc n) f = omega (arith, below-shift n f)

-- all but one of the terms are zero
pub below_none : (n r : ℕ) (f : ℕ → ℕ) → n ≤ r → sum_below n (λ i. cond (eqb i r) (f i) 0) ≡ 0
below_none zero r f l = refl
below_none (suc n) r f l = rw (ne_eqb n r (omega arith)) (omega (arith, below_none n r f (omega arith)))

pub below_one : (n r : ℕ) (f : ℕ → ℕ) → r < n → sum_below n (λ i. cond (eqb i r) (f i) 0) ≡ f r
below_one zero r f l = absurd (not-suc-le-zero l)
below_one (suc n) r f l = go (ℕ_discrete n r) (below_one n r f)
  where
    go : Dec (n ≡ r) → (r < n → sum_below n (λ i. cond (eqb i r) (f i) 0) ≡ f r) → sum_below (suc n) (λ i. cond (eqb i r) (f i) 0) ≡ f r
    go (yes e) k = rw (eq-eqb n r e, below_none n r f (omega arith)) (rw e (omega arith))
    go (no e) k = rw (ne_eqb n r e) (omega (arith, k (omega arith)))

-- a sum over a list, by places
pub sum-places : {A : Type 0} (f : A → ℕ) (xs : List A) (d : A) → sum f xs ≡ sum_below (length xs) (λ i. f (get_or xs i d))
sum-places f [] d = refl
sum-places f (x ∷ xs) d = omega (arith, below-shift (length xs) (λ i. f (get_or (x ∷ xs) i d)), sum-places f xs d)

pub eqb-sym : (a b : ℕ) → eqb a b ≡ eqb b a
eqb-sym a b = go (ℕ_discrete a b)
  where
    go : Dec (a ≡ b) → eqb a b ≡ eqb b a
    go (yes e) = rw (eq-eqb a b e, eq-eqb b a (sym e))
    go (no e) = rw (ne_eqb a b e, ne_eqb b a (λ h. e (sym h)))

pub below-is : (n r : ℕ) → r < n → sum_below n (λ i. one (eqb r i)) ≡ 1
below-is n r l = below-same n (λ i. one (eqb r i)) (λ i. cond (eqb i r) 1 0) (λ i q. rw (eqb-sym r i)) ∙ below_one n r (λ i. 1) l

-- a number under a test
pub one-le : (b : Bool) → one b ≤ 1
one-le true = omega arith
one-le false = omega arith

pub T-one : (b : Bool) → 0 < one b → T b
T-one true h = tt
T-one false h = absurd (not-suc-le-zero h)

pub cond-le : (b : Bool) (n : ℕ) → cond b n 0 ≤ n
cond-le true n = omega arith
cond-le false n = omega arith

pub cond-add : (b : Bool) (m n : ℕ) → cond b (m + n) 0 ≡ cond b m 0 + cond b n 0
cond-add true m n = refl
cond-add false m n = refl

pub is-times : (b : Bool) (c : ℕ) → cond b c 0 ≡ one b * c
is-times true c = omega arith
is-times false c = omega arith

-- a weight at one place, as a sum
pub below-chosen : (n : ℕ) (G : ℕ → ℕ) (r : ℕ) → r < n → G r ≡ sum_below n (λ q. one (eqb r q) * G q)
below-chosen n G r l = sym (below_one n r G l) ∙ below-same n (λ q. cond (eqb q r) (G q) 0) (λ q. one (eqb r q) * G q) (λ q ql. ap (λ b. cond b (G q) 0) (eqb-sym q r) ∙ is-times (eqb r q) (G q))

pub sum-nothing : {A : Type 0} (f : A → ℕ) (xs : List A) → Every (λ x. f x ≡ 0) xs → sum f xs ≡ 0
sum-nothing f [] h = refl
sum-nothing f (x ∷ xs) h = omega (arith, h.0, sum-nothing f xs h.1)

pub below_at : (n : ℕ) (f : ℕ → ℕ) (i : ℕ) → i < n → f i ≤ sum_below n f
below_at zero f i l = absurd (not-suc-le-zero l)
below_at (suc n) f i l = go (ℕ_discrete i n) (below_at n f i)
  where
    go : Dec (i ≡ n) → (i < n → f i ≤ sum_below n f) → f i ≤ sum_below (suc n) f
    go (yes e) k = rw e (omega arith)
    go (no e) k = omega (arith, k (omega arith))
