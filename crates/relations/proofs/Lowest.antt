-- The ones of a word: where they lie, the lowest, and what is left without it.
use mathlib.Core.Bool.{Bool, true, false, cond}
use mathlib.Core.List.{List, [], ◌∷◌, ◌++◌, map}
use mathlib.Core.Logic.{◌≢◌}
use mathlib.Core.Path.{◌≡◌, refl, sym, ap, ◌∙◌, subst}
use Rattle.std.specs.List.{All}
use Rattle.std.proofs.lemmas.List.Elements.{All-nil, All-cons}
use Prim.Native.Nat.{ℕ, zero, suc, ◌+◌, ◌-◌, ◌*◌, ◌/◌, ◌%◌, ◌^◌, ◌≤◌, ◌<◌}
use native.Mathlib.Nat.{add-suc, one-mul, pow-suc, mod-eq_of_lt}
use native.Mathlib.Omega.{arith}
use lib.Arith.{lt-one}
use lib.Pow.{pow-lt, pow_pos}
use lib.Count.{count_trailing_zeros, under}
use Rattle.relations.specs.Sets.{bit, ones_from}
use Rattle.relations.proofs.Bits.{bit-zero, bit-none}

pub even : (n : ℕ) → n % 2 ≡ 0 → bit n 0 ≡ false
even n e = bit-zero n ∙ rw e

pub odd : (n : ℕ) → n % 2 ≡ 1 → bit n 0 ≡ true
odd n e = bit-zero n ∙ rw e

-- a word of k bits with one of them set
pub one_shifted : (k j : ℕ) → j < k → 1 * 2 ^ j % 2 ^ k ≡ 2 ^ j
one_shifted k j l = rw one-mul (mod-eq_of_lt (pow-lt l))

pub ones_none : (b k : ℕ) → ones_from b k 0 ≡ []
unfolding ones_from
ones_none b zero = refl
ones_none b (suc k) = rw (bit-none 0) (ones_none (suc b) k)

-- the places lie in the k that are looked at
pub ones_below : (b k top n : ℕ) → b + k ≤ top → All (λ t. t < top) (ones_from b k n)
unfolding ones_from
ones_below b zero top n l = All-nil _
ones_below b (suc k) top n l = go (bit n 0) (ones_below (suc b) k top (n / 2) (omega arith))
  where
    go : (c : Bool) → All (λ t. t < top) (ones_from (suc b) k (n / 2)) → All (λ t. t < top) (cond c (b ∷ []) [] ++ ones_from (suc b) k (n / 2))
    go true rest = All-cons (λ t. t < top) b _ (omega arith) rest
    go false rest = rest

-- counted from b + c they are b more than counted from c
pub ones_moved : (b c k n : ℕ) → ones_from (b + c) k n ≡ map (λ t. b + t) (ones_from c k n)
unfolding ones_from
ones_moved b c zero n = refl
ones_moved b c (suc k) n =
    go (bit n 0) (ap (λ (m : ℕ). ones_from m k (n / 2)) (sym (add-suc b c)) ∙ ones_moved b (suc c) k (n / 2))
  where
    go : (d : Bool) → ones_from (suc (b + c)) k (n / 2) ≡ map (λ t. b + t) (ones_from (suc c) k (n / 2))
        → cond d ((b + c) ∷ []) [] ++ ones_from (suc (b + c)) k (n / 2) ≡ map (λ t. b + t) (cond d (c ∷ []) [] ++ ones_from (suc c) k (n / 2))
    go true rest = ap (λ (ts : List ℕ). (b + c) ∷ ts) rest
    go false rest = rest

-- a word of j bits has none from place j on
pub ones_short : (b j k n : ℕ) → n < 2 ^ j → ones_from b (j + k) n ≡ ones_from b j n
unfolding ones_from
ones_short b zero k n l = ap (ones_from b (0 + k)) (lt-one l) ∙ ones_none b (0 + k)
ones_short b (suc j) k n l =
    let e : suc j + k ≡ suc (j + k) = omega arith in
    ap (λ (m : ℕ). ones_from b m n) e ∙ ap (λ (ts : List ℕ). cond (bit n 0) (b ∷ []) [] ++ ts) (ones_short (suc b) j k (n / 2) (omega (arith, pow-suc 2 j)))

abbrev Lowest-at : ℕ → ℕ → ℕ → Type 0
Lowest-at k n t = (t < k) × (2 ^ t ≤ n) × ((b : ℕ) → ones_from b k n ≡ (b + t) ∷ ones_from b k (n - 2 ^ t))

lowest-odd : (k n : ℕ) → n % 2 ≡ 1 → Lowest-at (suc k) n 0
unfolding ones_from
lowest-odd k n e =
    let h : (n - 1) / 2 ≡ n / 2 = omega arith in
    let z : bit (n - 1) 0 ≡ false = even (n - 1) (omega arith) in
    (omega arith, omega arith, λ b. let p : b + 0 ≡ b = omega arith in rw (odd n e, z, h, p))

lowest-even : (k n t : ℕ) → n % 2 ≡ 0 → Lowest-at k (n / 2) t → Lowest-at (suc k) n (suc t)
unfolding ones_from
lowest-even k n t e r =
    let p : 2 ^ suc t ≡ 2 ^ t * 2 = pow-suc 2 t in
    let h : (n - 2 ^ suc t) / 2 ≡ n / 2 - 2 ^ t = omega (arith, r.1) in
    let z : bit (n - 2 ^ suc t) 0 ≡ false = even (n - 2 ^ suc t) (omega (arith, r.1)) in
    (omega (arith, r.0), omega (arith, r.1), λ b. let q : b + suc t ≡ suc b + t = omega arith in rw (even n e, z, h, q) (r.2 (suc b)))

lowest-at : (k n : ℕ) → n ≢ 0 → n < 2 ^ k → Lowest-at k n (count_trailing_zeros k n)
unfolding count_trailing_zeros
lowest-at zero n z l = absurd (z (lt-one l))
lowest-at (suc k) n z l = go (n % 2) refl (λ y. lowest-at k (n / 2) y (omega (arith, pow-suc 2 k)))
  where
    go : (d : ℕ) → n % 2 ≡ d → (n / 2 ≢ 0 → Lowest-at k (n / 2) (count_trailing_zeros k (n / 2))) → Lowest-at (suc k) n (under d (count_trailing_zeros k (n / 2)))
    go zero e r = lowest-even k n (count_trailing_zeros k (n / 2)) e (r (λ y. z (omega arith)))
    go (suc zero) e r = lowest-odd k n e
    go (suc (suc d)) e r = absurd (omega arith)

-- the lowest one alone, as the sources make it
abbrev pub lowest_one : ℕ → ℕ → ℕ
lowest_one k n = 1 * 2 ^ count_trailing_zeros k n % 2 ^ k

-- of a word of k bits that is not 0
pub record Lowest (k n : ℕ) : Type 0 where
  pub place : count_trailing_zeros k n < k
  pub small : lowest_one k n ≤ n
  pub less : n - lowest_one k n < n
  pub first : (b : ℕ) → ones_from b k n ≡ (b + count_trailing_zeros k n) ∷ ones_from b k (n - lowest_one k n)

pub lowest : (k n : ℕ) → n ≢ 0 → n < 2 ^ k → Lowest k n
lowest k n z l =
    let r = lowest-at k n z l in
    let e = one_shifted k (count_trailing_zeros k n) r.0 in
    record {
      place = r.0;
      small = omega (arith, e, r.1);
      less = omega (arith, e, r.1, pow_pos (count_trailing_zeros k n));
      first = λ b. r.2 b ∙ rw e;
    }

-- the ones of a number of j bits lie below j
pub places_of : (j k n : ℕ) → n < 2 ^ j → All (λ t. t < j) (ones_from 0 (j + k) n)
places_of j k n l = subst (All (λ t. t < j)) (sym (ones_short 0 j k n l)) (ones_below 0 j j n (omega arith))
