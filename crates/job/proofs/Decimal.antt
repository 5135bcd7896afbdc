-- A decimal goes by its last digit, is what std prints of a number, and has few digits.
use Prim.Native.Nat.{ℕ, zero, suc, ◌+◌, ◌/◌, ◌%◌, ◌^◌, ◌≤◌, ◌<◌}
use mathlib.Core.Path.{◌≡◌, refl, sym, ap, ◌∙◌, subst}
use mathlib.Core.Bool.{Bool, true, false}
use mathlib.Core.List.{List, [], ◌∷◌, ◌++◌}
use native.Mathlib.Omega.{arith}
use native.Mathlib.Nat.{div-lt_self, div-lt_iff_lt-mul, pow-suc}
use borrow.Author.Tests.{ltb-true, ltb-false, lt-ltb, le-ltb}
use lib.Dec.{ltb}
use lib.ListN.{length, length-append}
use Rattle.std.specs.Fmt.{decimal as printed}
use Rattle.std.proofs.lemmas.Fmt.{AppendsLastDigit, decimal_from_appends, length-decimal-le, length-decimal-le_succ}
use Rattle.job.specs.Sizes.{FIELD_BYTES, NUMBER_BYTES}
use Rattle.job.specs.Lines.{DIGIT_ZERO, SPACE, digits, decimal}

last_digit : AppendsLastDigit digits
unfolding digits
last_digit = record { one = λ k n h. simp (lt-ltb n 10 h); more = λ k n h. simp (le-ltb n 10 h) }

abbrev last : ℕ → List ℕ
last n = (DIGIT_ZERO + n % 10) ∷ []

tenth-less : (n f : ℕ) → 10 ≤ n → n < suc f → n / 10 < f
tenth-less n f h l = let below : n / 10 < n = div-lt_self (omega arith) (omega arith) in omega arith

-- a test that is passed, or failed
split : {P : Type 0} (n : ℕ) → (n < 10 → P) → (10 ≤ n → P) → P
split {P} n small more = go (ltb n 10) refl
  where
    go : (b : Bool) → ltb n 10 ≡ b → P
    go true e = small (ltb-true n 10 e)
    go false e = more (ltb-false n 10 e)

-- enough turns give the same digits
same_digits : (f g n : ℕ) → n < f → n < g → digits f n ≡ digits g n
same_digits zero g n hf hg = absurd (omega arith)
same_digits (suc f) zero n hf hg = absurd (omega arith)
same_digits (suc f) (suc g) n hf hg =
    split n (λ h. last_digit.one f n h ∙ sym (last_digit.one g n h))
    (λ h.
    last_digit.more f n h
    ∙ ap (λ l. l ++ last n) (same_digits f g (n / 10) (tenth-less n f h hf) (tenth-less n g h hg))
    ∙ sym (last_digit.more g n h))

pub decimal-one : (n : ℕ) → n < 10 → decimal n ≡ (DIGIT_ZERO + n) ∷ []
unfolding decimal
decimal-one n h = last_digit.one n n h

pub decimal-more : (n : ℕ) → 10 ≤ n → decimal n ≡ decimal (n / 10) ++ last n
unfolding decimal
decimal-more n h = last_digit.more n n h ∙ ap (λ l. l ++ last n) (same_digits n (suc (n / 10)) (n / 10) (tenth-less n n h (omega arith)) (omega arith))

pub length-one : (n : ℕ) → n < 10 → length (decimal n) ≡ 1
length-one n h = ap length (decimal-one n h)

pub length_more : (n : ℕ) → 10 ≤ n → length (decimal n) ≡ length (decimal (n / 10)) + 1
length_more n h = ap length (decimal-more n h) ∙ length-append (decimal (n / 10)) (last n)

pub tenth : (n : ℕ) → 10 ≤ n → n / 10 < n
tenth n h = tenth-less n n h (omega arith)

-- a number below a power of ten has at most as many digits
pub decimal-length : (k n : ℕ) → n < 10 ^ suc k → length (decimal n) ≤ suc k
decimal-length zero n h = rw (decimal-one n h) (omega arith)
decimal-length (suc k) n h =
    split n (λ l. rw (decimal-one n l) (omega arith))
    (λ m. rw (decimal-more n m, length-append) (omega (arith, decimal-length k (n / 10) ((div-lt_iff_lt-mul {k = 10} (omega arith)).1 (rw (pow-suc 10 (suc k)) at h)))))

pub printed_is : (n : ℕ) → n < 2 ^ 64 → printed n ≡ decimal n
unfolding decimal
printed_is n h = sym (decimal_from_appends digits last_digit (suc n) n h (omega (arith, length-decimal-le_succ n h)))

-- the most bytes of a space and a 16-bit number, and of a space and a 32-bit number
pub number_short : (n : ℕ) → n < 65_536 → length (SPACE ∷ decimal n) ≤ NUMBER_BYTES
number_short n h = subst (λ l. length (SPACE ∷ l) ≤ NUMBER_BYTES) (printed_is n (omega arith)) (omega (arith, length-decimal-le 5 n (omega arith) (omega arith) (omega arith)))

pub word_short : (n : ℕ) → n < 4_294_967_296 → length (SPACE ∷ decimal n) ≤ FIELD_BYTES
word_short n h = subst (λ l. length (SPACE ∷ l) ≤ FIELD_BYTES) (printed_is n (omega arith)) (omega (arith, length-decimal-le 10 n (omega arith) (omega arith) (omega arith)))
