-- Laws of tests, and of sums and tests over lists.
use Prim.Native.Nat.{ℕ, zero, suc, ◌+◌, ◌≤◌, ◌<◌}
use native.Mathlib.Omega.{arith}
use native.Mathlib.Nat.{le_of_suc-le-suc, not-suc-le-zero}
use native.Mathlib.Decide.{ℕ_discrete, dec_lt}
use mathlib.Core.Path.{◌≡◌, refl, sym, ◌∙◌}
use mathlib.Core.Logic.{◌≢◌}
use mathlib.Core.Bool.{Bool, true, false, ◌&&◌, cond, false≢true}
use mathlib.Core.List.{List, [], ◌∷◌, ◌++◌, map, append_assoc}
use lib.ListN.{length, get_or, take, drop, set}
use lib.Dec.{T}
use Rattle.pages.specs.Lists.{all_of, sum, all, concat_map, all_below, sum_below, Every}

-- a test by its value, and by what it says
pub not-both : (b : Bool) → b ≡ true → b ≡ false → ⊥
not-both b x y = false≢true (sym y ∙ x)

pub true-T : (b : Bool) → b ≡ true → T b
true-T true e = tt
true-T false e = absurd (false≢true e)

pub T_true : (b : Bool) → T b → b ≡ true
T_true true h = refl
T_true false h = absurd h

pub false-T : (b : Bool) → b ≡ false → T b → ⊥
false-T b e h = not-both b (T_true b h) e

pub T_false : (b : Bool) → (T b → ⊥) → b ≡ false
T_false true n = absurd (n tt)
T_false false n = refl

pub both : (a b : Bool) → T (a && b) → T a × T b
both true b h = (tt, h)
both false b h = absurd h

pub and : (a b : Bool) → T a → T b → T (a && b)
and true b h k = k
and false b h k = absurd h

-- each test of a list is passed
abbrev pub Holds : List Bool → Type 0
Holds [] = Unit {0}
Holds (b ∷ bs) = T b × Holds bs

pub holds : (bs : List Bool) → T (all_of bs) → Holds bs
holds [] h = tt
holds (b ∷ bs) h = ((both b (all_of bs) h).0, holds bs (both b (all_of bs) h).1)

pub all-of : (bs : List Bool) → Holds bs → T (all_of bs)
all-of [] h = tt
all-of (b ∷ bs) h = and b (all_of bs) h.0 (all-of bs h.1)

pub all-below : (n : ℕ) (p : ℕ → Bool) → T (all_below n p) → (i : ℕ) → i < n → T (p i)
all-below zero p h i l = absurd (not-suc-le-zero l)
all-below (suc n) p h i l = go (ℕ_discrete i n) (all-below n p (both (p n) (all_below n p) h).1 i)
  where
    go : Dec (i ≡ n) → (i < n → T (p i)) → T (p i)
    go (yes e) r = rw e (both (p n) (all_below n p) h).0
    go (no e) r = r (omega arith)

pub below_all : (n : ℕ) (p : ℕ → Bool) → ((i : ℕ) → i < n → T (p i)) → T (all_below n p)
below_all zero p h = tt
below_all (suc n) p h = and (p n) (all_below n p) (h n (omega arith)) (below_all n p (λ i l. h i (omega arith)))

module _ {A : Type 0} where
  pub every : (P : A → Type 0) (p : A → Bool) → ((x : A) → T (p x) → P x) → (xs : List A) → T (all p xs) → Every P xs
  every P p f [] h = tt
  every P p f (x ∷ xs) h = (f x (both (p x) (all p xs) h).0, every P p f xs (both (p x) (all p xs) h).1)

  pub every→all : (P : A → Type 0) (p : A → Bool) → ((x : A) → P x → T (p x)) → (xs : List A) → Every P xs → T (all p xs)
  every→all P p f [] h = tt
  every→all P p f (x ∷ xs) h = and (p x) (all p xs) (f x h.0) (every→all P p f xs h.1)

  pub every-at : (P : A → Type 0) (xs : List A) (d : A) → Every P xs → (i : ℕ) → i < length xs → P (get_or xs i d)
  every-at P [] d h i l = absurd (not-suc-le-zero l)
  every-at P (x ∷ xs) d h zero l = h.0
  every-at P (x ∷ xs) d h (suc i) l = every-at P xs d h.1 i (le_of_suc-le-suc l)

  pub at_every : (P : A → Type 0) (xs : List A) (d : A) → ((i : ℕ) → i < length xs → P (get_or xs i d)) → Every P xs
  at_every P [] d h = tt
  at_every P (x ∷ xs) d h = (h zero (omega arith), at_every P xs d (λ i l. h (suc i) (omega arith)))

  pub every_one : (P : A → Type 0) → ((x : A) → P x) → (xs : List A) → Every P xs
  every_one P h [] = tt
  every_one P h (x ∷ xs) = (h x, every_one P h xs)

  pub every_map : (P Q : A → Type 0) → ((x : A) → P x → Q x) → (xs : List A) → Every P xs → Every Q xs
  every_map P Q f [] h = tt
  every_map P Q f (x ∷ xs) h = (f x h.0, every_map P Q f xs h.1)

  pub every-both : (P Q R : A → Type 0) → ((x : A) → P x → Q x → R x) → (xs : List A) → Every P xs → Every Q xs → Every R xs
  every-both P Q R f [] h k = tt
  every-both P Q R f (x ∷ xs) h k = (f x h.0 k.0, every-both P Q R f xs h.1 k.1)

  pub every_append : (P : A → Type 0) (xs ys : List A) → Every P xs → Every P ys → Every P (xs ++ ys)
  every_append P [] ys h k = k
  every_append P (x ∷ xs) ys h k = (h.0, every_append P xs ys h.1 k)

  pub every_take : (P : A → Type 0) (n : ℕ) (xs : List A) → Every P xs → Every P (take n xs)
  every_take P zero xs h = tt
  every_take P (suc n) [] h = tt
  every_take P (suc n) (x ∷ xs) h = (h.0, every_take P n xs h.1)

  pub every_drop : (P : A → Type 0) (n : ℕ) (xs : List A) → Every P xs → Every P (drop n xs)
  every_drop P zero xs h = h
  every_drop P (suc n) [] h = tt
  every_drop P (suc n) (x ∷ xs) h = every_drop P n xs h.1

  -- sums

  pub sum-append : (f : A → ℕ) (xs ys : List A) → sum f (xs ++ ys) ≡ sum f xs + sum f ys
  sum-append f [] ys = omega arith
  sum-append f (x ∷ xs) ys = omega (arith, sum-append f xs ys)

  pub sum-take-drop : (f : A → ℕ) (n : ℕ) (xs : List A) → sum f (take n xs) + sum f (drop n xs) ≡ sum f xs
  sum-take-drop f zero xs = omega arith
  sum-take-drop f (suc n) [] = refl
  sum-take-drop f (suc n) (x ∷ xs) = omega (arith, sum-take-drop f n xs)

  -- one element changed
  pub sum-set : (f : A → ℕ) (xs : List A) (i : ℕ) (y d : A) → i < length xs → sum f (set xs i y) + f (get_or xs i d) ≡ sum f xs + f y
  sum-set f [] i y d l = absurd (not-suc-le-zero l)
  sum-set f (x ∷ xs) zero y d l = omega arith
  sum-set f (x ∷ xs) (suc i) y d l = omega (arith, sum-set f xs i y d (le_of_suc-le-suc l))

  pub sum-at : (f : A → ℕ) (xs : List A) (i : ℕ) (d : A) → i < length xs → f (get_or xs i d) ≤ sum f xs
  sum-at f [] i d l = absurd (not-suc-le-zero l)
  sum-at f (x ∷ xs) zero d l = omega arith
  sum-at f (x ∷ xs) (suc i) d l = omega (arith, sum-at f xs i d (le_of_suc-le-suc l))

  pub sum-two : (f : A → ℕ) (xs : List A) (i j : ℕ) (d : A) → i < j → j < length xs → f (get_or xs i d) + f (get_or xs j d) ≤ sum f xs
  sum-two f [] i j d k l = absurd (not-suc-le-zero l)
  sum-two f (x ∷ xs) i zero d k l = absurd (not-suc-le-zero k)
  sum-two f (x ∷ xs) zero (suc j) d k l = omega (arith, sum-at f xs j d (le_of_suc-le-suc l))
  sum-two f (x ∷ xs) (suc i) (suc j) d k l = omega (arith, sum-two f xs i j d (le_of_suc-le-suc k) (le_of_suc-le-suc l))

  pub sum-apart : (f : A → ℕ) (xs : List A) (i j : ℕ) (d : A) → i ≢ j → i < length xs → j < length xs → f (get_or xs i d) + f (get_or xs j d) ≤ sum f xs
  sum-apart f xs i j d n a b = go (dec_lt i j)
    where
      go : Dec (i < j) → f (get_or xs i d) + f (get_or xs j d) ≤ sum f xs
      go (yes h) = sum-two f xs i j d h b
      go (no h) = omega (arith, sum-two f xs j i d (omega arith) a)

  pub sum_same : (f g : A → ℕ) (xs : List A) → Every (λ x. f x ≡ g x) xs → sum f xs ≡ sum g xs
  sum_same f g [] h = refl
  sum_same f g (x ∷ xs) h = omega (arith, h.0, sum_same f g xs h.1)

  pub sum-le : (f g : A → ℕ) (xs : List A) → Every (λ x. f x ≤ g x) xs → sum f xs ≤ sum g xs
  sum-le f g [] h = omega arith
  sum-le f g (x ∷ xs) h = omega (arith, h.0, sum-le f g xs h.1)

  pub sum-zero : (f : A → ℕ) (xs : List A) → sum f xs ≡ 0 → Every (λ x. f x ≡ 0) xs
  sum-zero f [] h = tt
  sum-zero f (x ∷ xs) h = (omega arith, sum-zero f xs (omega arith))

  pub sum-length : (xs : List A) → sum (λ x. 1) xs ≡ length xs
  sum-length [] = refl
  sum-length (x ∷ xs) = omega (arith, sum-length xs)

  pub sum_zeros : (xs : List A) → sum (λ x. 0) xs ≡ 0
  sum_zeros [] = refl
  sum_zeros (x ∷ xs) = omega (arith, sum_zeros xs)

  pub sum-add : (f g : A → ℕ) (xs : List A) → sum (λ x. f x + g x) xs ≡ sum f xs + sum g xs
  sum-add f g [] = refl
  sum-add f g (x ∷ xs) = omega (arith, sum-add f g xs)

  pub sum-cond : (f : A → ℕ) (b : Bool) (xs : List A) → sum f (cond b xs []) ≡ cond b (sum f xs) 0
  sum-cond f true xs = refl
  sum-cond f false xs = refl

  -- the order of two sums may be changed
  pub sum-below : (f : ℕ → A → ℕ) (n : ℕ) (xs : List A) → sum_below n (λ i. sum (f i) xs) ≡ sum (λ x. sum_below n (λ i. f i x)) xs
  sum-below f zero xs = sym (sum_zeros xs)
  sum-below f (suc n) xs = omega (arith, sum-below f n xs, sum-add (f n) (λ x. sum_below n (λ i. f i x)) xs)

module _ {A B : Type 0} where
  pub concat-append : (f : A → List B) (xs ys : List A) → concat_map f (xs ++ ys) ≡ concat_map f xs ++ concat_map f ys
  concat-append f [] ys = refl
  concat-append f (x ∷ xs) ys = rw (append_assoc, concat-append f xs ys)

  pub sum-concat : (g : B → ℕ) (f : A → List B) (xs : List A) → sum g (concat_map f xs) ≡ sum (λ x. sum g (f x)) xs
  sum-concat g f [] = refl
  sum-concat g f (x ∷ xs) = omega (arith, sum-append g (f x) (concat_map f xs), sum-concat g f xs)

  pub sum-map : (g : B → ℕ) (f : A → B) (xs : List A) → sum g (map f xs) ≡ sum (λ x. g (f x)) xs
  sum-map g f [] = refl
  sum-map g f (x ∷ xs) = omega (arith, sum-map g f xs)
