-- Laws of `bit`, `packed`, `total`, `some_below` and `listed`.
use mathlib.Core.Bool.{Bool, true, false, ◌&&◌, ◌||◌, or-false, false≢true}
use mathlib.Core.List.{List}
use mathlib.Core.Path.{◌≡◌, refl, sym, ap, ap₂, ◌∙◌}
use Prim.Native.Nat.{ℕ, zero, suc, ◌+◌, ◌/◌, ◌%◌, ◌^◌, ◌≤◌, ◌<◌}
use native.Mathlib.Nat.{not-suc-le-zero, add-zero, add-suc, pow-suc, div-one, zero-div}
use native.Mathlib.Numerals.{one-add}
use native.Mathlib.Omega.{arith}
use lib.Arith.{lt-one}
use lib.Pow.{shr-shr}
use lib.Bits.{bit_and, bit_or, and_shr, and_mod, or_shr, or_mod, or_lt, and_lt}
use lib.Count.{ones, ones_step}
use lib.Dec.{eqb, lit<}
use lib.ListN.{length, get_or}
use lib.Seq.{ext_get_or}
use Rattle.relations.specs.Sets.{bit, digit, packed, total, some_below, listed}
use Rattle.relations.proofs.Tests.{and_left, and_right, both, same_test, none-at}

-- ---- one bit

pub bit-zero : (n : ℕ) → bit n 0 ≡ eqb (n % 2) 1
unfolding bit
bit-zero n = ap (λ (x : ℕ). eqb (x % 2) 1) (div-one n)

pub bit-half : (n k : ℕ) → bit n (suc k) ≡ bit (n / 2) k
unfolding bit
bit-half n k = ap (λ (x : ℕ). eqb (x % 2) 1) (sym (shr-shr n 1 k ∙ ap (λ (m : ℕ). n / 2 ^ m) (one-add k)))

pub bit-none : (k : ℕ) → bit 0 k ≡ false
unfolding bit
bit-none k = ap (λ (x : ℕ). eqb (x % 2) 1) (zero-div (2 ^ k))

digit-of : (r : ℕ) → r < 2 → r ≡ digit (eqb r 1)
digit-of zero h = refl
digit-of (suc zero) h = refl
digit-of (suc (suc r)) h = absurd (omega arith)

pub digit-bit : (n : ℕ) → n % 2 ≡ digit (bit n 0)
digit-bit n = digit-of (n % 2) (omega arith) ∙ ap digit (sym (bit-zero n))

pub digit-le : (b : Bool) → digit b ≤ 1
digit-le true = omega arith
digit-le false = omega arith

-- what holds of two digits, by their four cases
two_digits : (P : ℕ → ℕ → Type 0) → P 0 0 → P 0 1 → P 1 0 → P 1 1 → (x y : ℕ) → x < 2 → y < 2 → P x y
two_digits P a b c d zero zero l m = a
two_digits P a b c d zero (suc zero) l m = b
two_digits P a b c d (suc zero) zero l m = c
two_digits P a b c d (suc zero) (suc zero) l m = d
two_digits P a b c d zero (suc (suc y)) l m = absurd (omega arith)
two_digits P a b c d (suc zero) (suc (suc y)) l m = absurd (omega arith)
two_digits P a b c d (suc (suc x)) y l m = absurd (omega arith)

pub bit-or : (a b k : ℕ) → bit (bit_or a b) k ≡ (bit a k || bit b k)
unfolding bit
bit-or a b k =
    ap (λ (x : ℕ). eqb (x % 2) 1) (or_shr a b k) ∙ ap (λ (x : ℕ). eqb x 1) (or_mod (a / 2 ^ k) (b / 2 ^ k) 1)
    ∙ two_digits (λ x y. eqb (bit_or x y) 1 ≡ (eqb x 1 || eqb y 1)) refl refl refl refl (a / 2 ^ k % 2) (b / 2 ^ k % 2) (omega arith) (omega arith)

pub bit-and : (a b k : ℕ) → bit (bit_and a b) k ≡ (bit a k && bit b k)
unfolding bit
bit-and a b k =
    ap (λ (x : ℕ). eqb (x % 2) 1) (and_shr a b k) ∙ ap (λ (x : ℕ). eqb x 1) (and_mod (a / 2 ^ k) (b / 2 ^ k) 1)
    ∙ two_digits (λ x y. eqb (bit_and x y) 1 ≡ (eqb x 1 && eqb y 1)) refl refl refl refl (a / 2 ^ k % 2) (b / 2 ^ k % 2) (omega arith) (omega arith)

-- ---- `packed`

-- a number of n bits is the one packed of them
pub packed-of : (f : ℕ → Bool) (n r : ℕ) → r < 2 ^ n → ((k : ℕ) → k < n → bit r k ≡ f k) → r ≡ packed f n
unfolding packed
packed-of f zero r h e = lt-one h
packed-of f (suc n) r h e =
    let l : r / 2 < 2 ^ n = omega (arith, pow-suc 2 n) in
    let ih = packed-of (λ k. f (suc k)) n (r / 2) l (λ k m. sym (bit-half r k) ∙ e (suc k) (omega arith)) in
    let low : r % 2 ≡ digit (f 0) = digit-bit r ∙ ap digit (e 0 (omega arith)) in
    omega arith

pub packed_lt : (f : ℕ → Bool) (n : ℕ) → packed f n < 2 ^ n
unfolding packed
packed_lt f zero = lit< tt
packed_lt f (suc n) =
    let ih = packed_lt (λ k. f (suc k)) n in
    omega (arith, pow-suc 2 n, digit-le (f 0))

eqb-digit : (b : Bool) → eqb (digit b) 1 ≡ b
eqb-digit true = refl
eqb-digit false = refl

pub bit-packed : (f : ℕ → Bool) (n k : ℕ) → k < n → bit (packed f n) k ≡ f k
unfolding packed
bit-packed f zero k h = absurd (not-suc-le-zero h)
bit-packed f (suc n) zero h =
    let low : packed f (suc n) % 2 ≡ digit (f 0) = omega (arith, digit-le (f 0)) in
    bit-zero (packed f (suc n)) ∙ ap (λ (x : ℕ). eqb x 1) low ∙ eqb-digit (f 0)
bit-packed f (suc n) (suc k) h =
    let rest : packed f (suc n) / 2 ≡ packed (λ k. f (suc k)) n = omega (arith, digit-le (f 0)) in
    bit-half (packed f (suc n)) k ∙ ap (λ (x : ℕ). bit x k) rest ∙ bit-packed (λ k. f (suc k)) n k (omega arith)

pub packed_none : (f : ℕ → Bool) (n : ℕ) → ((k : ℕ) → k < n → f k ≡ false) → packed f n ≡ 0
unfolding packed
packed_none f zero e = refl
packed_none f (suc n) e =
    let ih = packed_none (λ k. f (suc k)) n (λ k h. e (suc k) (omega arith)) in
    omega (arith, ap digit (e 0 (omega arith)))

-- ---- `total`, and the ones of a packed number

pub total-front : (g : ℕ → ℕ) (n : ℕ) → total g (suc n) ≡ g 0 + total (λ k. g (suc k)) n
unfolding total
total-front g zero = omega arith
total-front g (suc n) = omega (arith, total-front g n)

pub total-same : (f g : ℕ → ℕ) (n : ℕ) → ((k : ℕ) → k < n → f k ≡ g k) → total f n ≡ total g n
unfolding total
total-same f g zero e = refl
total-same f g (suc n) e = ap₂ ◌+◌ (total-same f g n (λ k h. e k (omega arith))) (e n (omega arith))

pub ones-packed : (f : ℕ → Bool) (n : ℕ) → ones (packed f n) ≡ total (λ k. digit (f k)) n
unfolding packed total ones
ones-packed f zero = refl
ones-packed f (suc n) =
    let low : packed f (suc n) % 2 ≡ digit (f 0) = omega (arith, digit-le (f 0)) in
    let rest : packed f (suc n) / 2 ≡ packed (λ k. f (suc k)) n = omega (arith, digit-le (f 0)) in
    ones_step (packed f (suc n)) ∙ ap₂ (λ (x y : ℕ). x + ones y) low rest
    ∙ ap (λ (x : ℕ). digit (f 0) + x) (ones-packed (λ k. f (suc k)) n)
    ∙ sym (total-front (λ k. digit (f k)) n)

-- ---- `some_below`

pub some_same : (f g : ℕ → Bool) (n : ℕ) → ((k : ℕ) → k < n → f k ≡ g k) → some_below f n ≡ some_below g n
unfolding some_below
some_same f g zero e = refl
some_same f g (suc n) e = ap₂ (λ (a b : Bool). a || b) (some_same f g n (λ k h. e k (omega arith))) (e n (omega arith))

pub none_below : (f : ℕ → Bool) (n : ℕ) → ((k : ℕ) → k < n → f k ≡ false) → some_below f n ≡ false
unfolding some_below
none_below f zero e = refl
none_below f (suc n) e = ap₂ (λ (a b : Bool). a || b) (none_below f n (λ k h. e k (omega arith))) (e n (omega arith))

-- a test that passes nowhere from n on
pub none_above : (f : ℕ → Bool) (n m : ℕ) → ((k : ℕ) → n ≤ k → f k ≡ false) → some_below f (n + m) ≡ some_below f n
unfolding some_below
none_above f n zero e = ap (some_below f) (add-zero n)
none_above f n (suc m) e =
    ap (some_below f) (add-suc n m) ∙ ap₂ (λ (a b : Bool). a || b) (none_above f n m e) (e (n + m) (omega arith)) ∙ or-false (some_below f n)

pub some_at : (f : ℕ → Bool) (n k : ℕ) → k < n → f k ≡ true → some_below f n ≡ true
unfolding some_below
some_at f n k h e = go (some_below f n) refl
  where
    go : (b : Bool) → some_below f n ≡ b → some_below f n ≡ true
    go true q = q
    go false q = absurd (false≢true (sym (none-at f n k q h) ∙ e))

-- a test that passes below n passes at some place
pub found_below : (f : ℕ → Bool) (n : ℕ) → some_below f n ≡ true → (k : ℕ) × (k < n) × (f k ≡ true)
unfolding some_below
found_below f zero e = absurd (false≢true e)
found_below f (suc n) e = go (found_below f n) (some_below f n) refl (f n) refl
  where
    go : (some_below f n ≡ true → (k : ℕ) × (k < n) × (f k ≡ true)) → (a : Bool) → some_below f n ≡ a → (b : Bool) → f n ≡ b → (k : ℕ) × (k < suc n) × (f k ≡ true)
    go ih true p b q = let r = ih p in (r.0, omega (arith, r.1), r.2)
    go ih false p true q = (n, omega arith, q)
    go ih false p false q = absurd (false≢true (sym (rw (p, q)) ∙ e))

-- some j with a j, and some k with b k, such that f j k: in either order
pub some-swap : (a b : ℕ → Bool) (f : ℕ → ℕ → Bool) (m n : ℕ)
    → some_below (λ j. a j && some_below (λ k. b k && f j k) n) m ≡ some_below (λ k. b k && some_below (λ j. a j && f j k) m) n
some-swap a b f m n = same_test _ _ (across a b f m n) (across b a (λ k j. f j k) n m)
  where
    across : (a b : ℕ → Bool) (f : ℕ → ℕ → Bool) (m n : ℕ) → some_below (λ j. a j && some_below (λ k. b k && f j k) n) m ≡ true → some_below (λ k. b k && some_below (λ j. a j && f j k) m) n ≡ true
    across a b f m n e =
        let r = found_below (λ j. a j && some_below (λ k. b k && f j k) n) m e in
        let t = found_below (λ k. b k && f r.0 k) n (and_right (a r.0) _ r.2) in
        some_at (λ k. b k && some_below (λ j. a j && f j k) m) n t.0 t.1
        (both (and_left (b t.0) _ t.2)
        (some_at (λ j. a j && f j t.0) m r.0 r.1 (both (and_left (a r.0) _ r.2) (and_right (b t.0) _ t.2))))

-- ---- `packed` of a test and of two

pub packed-same : (f g : ℕ → Bool) (n : ℕ) → ((k : ℕ) → k < n → f k ≡ g k) → packed f n ≡ packed g n
packed-same f g n e = packed-of g n (packed f n) (packed_lt f n) (λ k h. bit-packed f n k h ∙ e k h)

pub packed-or : (f g : ℕ → Bool) (n : ℕ) → bit_or (packed f n) (packed g n) ≡ packed (λ k. f k || g k) n
packed-or f g n =
    packed-of (λ k. f k || g k) n (bit_or (packed f n) (packed g n)) (or_lt n (packed f n) (packed g n) (packed_lt f n) (packed_lt g n))
    (λ k h. bit-or (packed f n) (packed g n) k ∙ ap₂ (λ (a b : Bool). a || b) (bit-packed f n k h) (bit-packed g n k h))

pub packed-and : (f g : ℕ → Bool) (n : ℕ) → bit_and (packed f n) (packed g n) ≡ packed (λ k. f k && g k) n
packed-and f g n =
    packed-of (λ k. f k && g k) n (bit_and (packed f n) (packed g n)) (and_lt n (packed f n) (packed g n) (packed_lt f n) (packed_lt g n))
    (λ k h. bit-and (packed f n) (packed g n) k ∙ ap₂ (λ (a b : Bool). a && b) (bit-packed f n k h) (bit-packed g n k h))

-- ---- `listed`

pub listed_at : (f : ℕ → ℕ) (n k : ℕ) → k < n → get_or (listed f n) k 0 ≡ f k
unfolding listed
listed_at f zero k h = absurd (not-suc-le-zero h)
listed_at f (suc n) zero h = refl
listed_at f (suc n) (suc k) h = listed_at (λ j. f (suc j)) n k (omega arith)

pub length-listed : (f : ℕ → ℕ) (n : ℕ) → length (listed f n) ≡ n
unfolding listed
length-listed f zero = refl
length-listed f (suc n) = ap suc (length-listed (λ k. f (suc k)) n)

pub listed_of : (f : ℕ → ℕ) (n : ℕ) (l : List ℕ) → length l ≡ n → ((k : ℕ) → k < n → get_or l k 0 ≡ f k) → l ≡ listed f n
listed_of f n l e g =
    ext_get_or 0 l (listed f n) (e ∙ sym (length-listed f n)) (λ k h. g k (omega arith) ∙ sym (listed_at f n k (omega arith)))

pub listed_same : (f g : ℕ → ℕ) (n : ℕ) → ((k : ℕ) → k < n → f k ≡ g k) → listed f n ≡ listed g n
listed_same f g n e = listed_of g n (listed f n) (length-listed f n) (λ k h. listed_at f n k h ∙ e k h)
