-- What is marked is what was marked before or stands in the list, and its word is named; the marked numbers, word by word.
use Prim.Native.Nat.{ℕ, zero, suc, ◌+◌, ◌*◌, ◌/◌, ◌%◌, ◌^◌, ◌≤◌, ◌<◌}
use native.Mathlib.Omega.{arith}
use native.Mathlib.Nat.{add-zero, pow-suc}
use native.Mathlib.Decide.{ℕ_discrete}
use mathlib.Core.Path.{◌≡◌, refl, sym, ap, ◌∙◌}
use mathlib.Core.Bool.{Bool, true, false, ◌||◌, cond, or-true, or-false, or_assoc}
use mathlib.Core.List.{List, map, [], ◌∷◌, ◌++◌, append-nil, append_assoc}
use lib.ListN.{length, get_or, set, length-set, length-replicate, length-append}
use lib.Seq.{get_or-set_same, get_or-set_other, sets, length-sets}
use lib.Bits.{bit_or, or_lt}
use lib.Pow.{pow-lt}
use lib.Dec.{ltb, eqb, eqb-zero-suc, eqb-suc-zero, eqb-suc-suc}
use borrow.Author.Tests.{lt-ltb, eq-eqb, ne_eqb}
use Rattle.relations.specs.Sets.{bit, ones_from}
use Rattle.relations.proofs.Bits.{bit-half, bit-none, bit-or}
use Rattle.relations.proofs.Lowest.{even, odd, one_shifted, ones_none}
use Rattle.pages.specs.Sizes.{PIECES}
use Rattle.pages.specs.Lists.{one, concat_map, Every, times}
use Rattle.pages.proofs.Lists.{not-both, concat-append}
use Rattle.pages.proofs.Zeros.{zero-at}
use Rattle.query.specs.Listing.{rising}
use Rattle.query.specs.Marks.{MARK_BITS, MARK_WORDS, is_marked, with_mark, marked, no_marks, Summed, numbers_in, marked_numbers}
use Rattle.query.proofs.Concat.{sets-append}

-- a power of two has one bit
pub bit-pow : (j i : ℕ) → bit (2 ^ j) i ≡ eqb i j
bit-pow zero zero = odd 1 refl
bit-pow zero (suc i) = bit-half 1 i ∙ (bit-none i ∙ sym (eqb-suc-zero i))
bit-pow (suc j) zero = even (2 ^ suc j) (omega (arith, pow-suc 2 j)) ∙ sym (eqb-zero-suc j)
bit-pow (suc j) (suc i) =
    let h : 2 ^ suc j / 2 ≡ 2 ^ j = omega (arith, pow-suc 2 j) in
    bit-half (2 ^ suc j) i ∙ (ap (λ x. bit x i) h ∙ (bit-pow j i ∙ sym (eqb-suc-suc i j)))

-- one bit, as the source makes it
abbrev one_bit : ℕ → ℕ
one_bit j = 1 * 2 ^ j % 2 ^ 64

or-one : (n j : ℕ) → j < 64 → bit_or n (one_bit j) ≡ bit_or n (2 ^ j)
or-one n j l = ap (bit_or n) (one_shifted 64 j l)

abbrev words_with : List ℕ → ℕ → List ℕ
words_with m r = set m (r / MARK_BITS) (bit_or (get_or m (r / MARK_BITS) 0) (one_bit (r % MARK_BITS)))

pub mark-made : (m : List ℕ) (r : ℕ) → words_with m r ≡ with_mark m r
unfolding with_mark
mark-made m r = ap (set m (r / 64)) (or-one (get_or m (r / 64) 0) (r % 64) (omega arith))

-- a mark names its word
pub mark-summed : (m : List ℕ) (n r : ℕ) → r < PIECES → Summed m n → Summed (words_with m r) (bit_or n (one_bit (r / MARK_BITS)))
unfolding with_mark
mark-summed m n r l s =
    let h : r / 64 < 16 = omega arith in
    rw (mark-made m r, or-one n (r / 64) (omega arith)) (record { small = or_lt 16 n (2 ^ (r / 64)) s.small (pow-lt h); unnamed = λ w z. other w z (ℕ_discrete w (r / 64)) })
  where
    other : (w : ℕ) → bit (bit_or n (2 ^ (r / 64))) w ≡ false → Dec (w ≡ r / 64) → get_or (with_mark m r) w 0 ≡ 0
    other w z (yes e) = absurd (not-both (bit (bit_or n (2 ^ (r / 64))) w) (rw (bit-or, bit-pow, eq-eqb w (r / 64) e, or-true)) z)
    other w z (no e) =
        get_or-set_other m (r / 64) w _ 0 e ∙ s.unnamed w (sym (or-false (bit n w)) ∙ (rw (bit-or, bit-pow, ne_eqb w (r / 64) e) at z))

pub mark-at : (m : List ℕ) (r c : ℕ) → length m ≡ MARK_WORDS → c < PIECES → is_marked (with_mark m r) c ≡ (is_marked m c || eqb r c)
unfolding is_marked with_mark
mark-at m r c k l = go (ℕ_discrete (c / 64) (r / 64))
  where
    go : Dec (c / 64 ≡ r / 64) → bit (get_or (with_mark m r) (c / 64) 0) (c % 64) ≡ (bit (get_or m (c / 64) 0) (c % 64) || eqb r c)
    go (yes e) =
        let h : r / 64 < length m = omega arith in
        rw (e, get_or-set_same m (r / 64) (bit_or (get_or m (r / 64) 0) (2 ^ (r % 64))) 0 h, bit-or, bit-pow)
        (ap (λ b. bit (get_or m (r / 64) 0) (c % 64) || b) (same (ℕ_discrete r c)))
      where
        same : Dec (r ≡ c) → eqb (c % 64) (r % 64) ≡ eqb r c
        same (yes d) = rw (eq-eqb r c d) (eq-eqb (c % 64) (r % 64) (omega arith))
        same (no d) = rw (ne_eqb r c d) (ne_eqb (c % 64) (r % 64) (λ z. d (omega arith)))
    go (no e) =
        rw (get_or-set_other m (r / 64) (c / 64) (bit_or (get_or m (r / 64) 0) (2 ^ (r % 64))) 0 e, ne_eqb r c (λ d. e (omega arith)))
        (sym (or-false (bit (get_or m (c / 64) 0) (c % 64))))

mark-length : (m : List ℕ) (r : ℕ) → length (with_mark m r) ≡ length m
unfolding with_mark
mark-length m r = simp length-set

some_more : (b : Bool) (n : ℕ) → ltb 0 (one b + n) ≡ (b || ltb 0 n)
some_more true n = lt-ltb 0 (1 + n) (omega arith)
some_more false n = let e : 0 + n ≡ n = omega arith in rw e

pub marked-is : (m xs : List ℕ) (c : ℕ) → length m ≡ MARK_WORDS → c < PIECES → is_marked (marked m xs) c ≡ (is_marked m c || ltb 0 (times c xs))
unfolding marked
marked-is m [] c k l = sym (or-false (is_marked m c))
marked-is m (x ∷ xs) c k l =
    marked-is (with_mark m x) xs c (mark-length m x ∙ k) l
    ∙ (ap (λ b. b || ltb 0 (times c xs)) (mark-at m x c k l)
    ∙ (or_assoc (is_marked m c) (eqb x c) (ltb 0 (times c xs)) ∙ ap (λ b. is_marked m c || b) (sym (some_more (eqb x c) (times c xs)))))

pub marked-new : (xs : List ℕ) (c : ℕ) → c < PIECES → is_marked (marked no_marks xs) c ≡ ltb 0 (times c xs)
unfolding is_marked
marked-new xs c l =
    marked-is no_marks xs c (length-replicate {A = ℕ} 16 0) l
    ∙ ap (λ b. b || ltb 0 (times c xs)) (ap (λ x. bit x (c % 64)) (zero-at 16 (c / 64)) ∙ bit-none (c % 64))

pub rising-same : (n : ℕ) (p q : ℕ → Bool) → ((c : ℕ) → c < n → p c ≡ q c) → rising n p ≡ rising n q
rising-same zero p q h = refl
rising-same (suc n) p q h = rw (h n (omega arith), rising-same n p q (λ c l. h c (omega arith)))

-- the numbers from b on that are ones of n
rising-ones : (p : ℕ → Bool) (k b n : ℕ) → ((j : ℕ) → j < k → p (b + j) ≡ bit n j) → rising (b + k) p ≡ rising b p ++ ones_from b k n
unfolding ones_from
rising-ones p zero b n h =
    let e : b + 0 ≡ b = omega arith in
    rw e (sym (append-nil (rising b p)))
rising-ones p (suc k) b n h =
    let e : b + suc k ≡ suc b + k = omega arith in
    let z : p b ≡ bit n 0 = ap p (sym (add-zero b)) ∙ h 0 (omega arith) in
    ap (λ x. rising x p) e
    ∙ (rising-ones p k (suc b) (n / 2) (λ j l. ap p (omega arith) ∙ (h (suc j) (omega arith) ∙ bit-half n j))
    ∙ (append_assoc (rising b p) (cond (p b) (b ∷ []) []) (ones_from (suc b) k (n / 2)) ∙ ap (λ x. rising b p ++ (cond x (b ∷ []) [] ++ ones_from (suc b) k (n / 2))) z))

-- one word more
rising_word : (m : List ℕ) (w : ℕ) → rising (MARK_BITS * suc w) (is_marked m) ≡ rising (MARK_BITS * w) (is_marked m) ++ numbers_in m w
unfolding is_marked
rising_word m w =
    let e : MARK_BITS * suc w ≡ MARK_BITS * w + 64 = omega arith in
    ap (λ x. rising x (is_marked m)) e
    ∙ rising-ones (is_marked m) 64 (MARK_BITS * w) (get_or m w 0)
    (λ j l. let a : (64 * w + j) / 64 ≡ w = omega arith in let b : (64 * w + j) % 64 ≡ j = omega arith in rw (a, b))

module _ (m : List ℕ) (n : ℕ) (s : Summed m n) where
  -- the words that are not named list nothing
  rising-words : (k : ℕ) → rising (MARK_BITS * k) (is_marked m) ≡ concat_map (numbers_in m) (rising k (bit n))
  rising-words zero = refl
  rising-words (suc k) =
      rising_word m k
      ∙ (ap (λ x. x ++ numbers_in m k) (rising-words k)
      ∙ (ap (λ x. concat_map (numbers_in m) (rising k (bit n)) ++ x) (go (bit n k) refl) ∙ sym (concat-append (numbers_in m) (rising k (bit n)) (cond (bit n k) (k ∷ []) []))))
    where
      go : (b : Bool) → bit n k ≡ b → numbers_in m k ≡ concat_map (numbers_in m) (cond b (k ∷ []) [])
      go true e = sym (append-nil (numbers_in m k))
      go false e = ap (ones_from (MARK_BITS * k) MARK_BITS) (s.unnamed k e) ∙ ones_none (MARK_BITS * k) MARK_BITS

  pub named-all : concat_map (numbers_in m) (ones_from 0 MARK_WORDS n) ≡ marked_numbers m
  unfolding marked_numbers
  named-all =
      ap (concat_map (numbers_in m)) (sym (rising-ones (bit n) MARK_WORDS 0 n (λ j l. ap (bit n) (omega arith))))
      ∙ sym (rising-words MARK_WORDS)

-- the ones of a word, counted from elsewhere
pub ones-shift : (b a k n : ℕ) → map (λ j. b + j) (ones_from a k n) ≡ ones_from (b + a) k n
unfolding ones_from
ones-shift b a zero n = refl
ones-shift b a (suc k) n = go (bit n 0) (ones-shift b (suc a) k (n / 2) ∙ ap (λ x. ones_from x k (n / 2)) (omega arith))
  where
    go : (t : Bool) → map (λ j. b + j) (ones_from (suc a) k (n / 2)) ≡ ones_from (suc (b + a)) k (n / 2)
        → map (λ j. b + j) (cond t (a ∷ []) [] ++ ones_from (suc a) k (n / 2)) ≡ cond t ((b + a) ∷ []) [] ++ ones_from (suc (b + a)) k (n / 2)
    go true e = ap (λ x. (b + a) ∷ x) e
    go false e = e

-- they lie in the word
ones-below : (b k m n : ℕ) → b + k ≤ m → Every (λ j. j < m) (ones_from b k n)
unfolding ones_from
ones-below b zero m n h = tt
ones-below b (suc k) m n h = go (bit n 0) (ones-below (suc b) k m (n / 2) (omega arith))
  where
    go : (t : Bool) → Every (λ j. j < m) (ones_from (suc b) k (n / 2)) → Every (λ j. j < m) (cond t (b ∷ []) [] ++ ones_from (suc b) k (n / 2))
    go true e = (omega arith, e)
    go false e = e

-- a small word has its ones in the lower places
ones-low : (b k m n : ℕ) → n < 2 ^ k → ones_from b (k + m) n ≡ ones_from b k n
unfolding ones_from
ones-low b zero m n h =
    let e : n ≡ 0 = omega arith in
    let z : 0 + m ≡ m = omega arith in
    rw (e, z) (ones_none b m)
ones-low b (suc k) m n h =
    let e : suc k + m ≡ suc (k + m) = omega arith in
    rw e (ap (λ x. cond (bit n 0) (b ∷ []) [] ++ x) (ones-low (suc b) k m (n / 2) (omega (arith, pow-suc 2 k))))

-- what is still to be written, from place `next` on, makes the whole
pub record Writing (all rest : List ℕ) (next : ℕ) (o₀ o : List ℕ) : Type 0 where
  pub count : next + length rest ≡ length all
  pub words : sets o next rest ≡ sets o₀ 0 all
  pub size : length o ≡ length o₀

pub writing-all : (all rest o : List ℕ) → rest ≡ all → Writing all rest 0 o o
writing-all all rest o e = record { count = omega (arith, ap length e); words = ap (sets o 0) e; size = refl }

-- one list of what is left is written
pub writing-more : (all rest xs ys : List ℕ) (next : ℕ) (o₀ o o' : List ℕ) (r : ℕ) → Writing all rest next o₀ o → rest ≡ xs ++ ys → r ≡ next + length xs → o' ≡ sets o next xs
    → Writing all ys r o₀ o'
writing-more all rest xs ys next o₀ o o' r w e n h = record {
  count = omega (arith, w.count, ap length e, length-append xs ys);
  words = rw (h, n) (sym (sets-append o next xs ys) ∙ (ap (sets o next) (sym e) ∙ w.words));
  size = ap length h ∙ (simp length-sets w.size);
}

-- what is left has room
pub writing-room : (all rest xs ys : List ℕ) (next : ℕ) (o₀ o : List ℕ) → Writing all rest next o₀ o → rest ≡ xs ++ ys → next + length xs ≤ length all
writing-room all rest xs ys next o₀ o w e = omega (arith, w.count, ap length e, length-append xs ys)

-- the places that are left of word w, each below 64, and its numbers
abbrev pub numbers_at : ℕ → List ℕ → List ℕ
numbers_at w places = map (λ j. MARK_BITS * w + j) places

pub word-numbers : (m : List ℕ) (w : ℕ) → numbers_at w (ones_from 0 64 (get_or m w 0)) ≡ numbers_in m w
word-numbers m w = ones-shift (64 * w) 0 64 (get_or m w 0) ∙ ap (λ b. ones_from b 64 (get_or m w 0)) (add-zero (64 * w))

pub places-below : (n : ℕ) → Every (λ j. j < 64) (ones_from 0 64 n)
places-below n = ones-below 0 64 64 n (omega arith)

module _ (m : List ℕ) (n : ℕ) (s : Summed m n) where
  pub named-below : Every (λ w. w < MARK_WORDS) (ones_from 0 64 n)
  named-below = rw (ones-low 0 16 48 n s.small) (ones-below 0 16 16 n (omega arith))

  pub named-numbers : concat_map (numbers_in m) (ones_from 0 64 n) ≡ marked_numbers m
  named-numbers = ap (concat_map (numbers_in m)) (ones-low 0 16 48 n s.small) ∙ named-all m n s
