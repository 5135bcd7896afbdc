-- A number stands exactly when some page holds it; a page whose eight places do not have it does not hold it.
use Prim.Native.Nat.{ℕ, zero, suc, ◌+◌, ◌-◌, ◌≤◌, ◌<◌}
use native.Mathlib.Omega.{arith}
use native.Mathlib.Nat.{add-zero, zero-add, add-suc}
use mathlib.Core.Path.{◌≡◌, refl, sym, ap, subst, ◌∙◌}
use mathlib.Core.Bool.{Bool, true, false, ◌&&◌, ◌||◌, cond}
use mathlib.Core.List.{List, [], ◌∷◌}
use lib.ListN.{length, get_or}
use lib.Dec.{ltb, eqb}
use borrow.Author.Tests.{ltb-true, ltb-false, lt-ltb}
use Rattle.pages.specs.Sizes.{FANOUT}
use Rattle.pages.specs.Lists.{one, sum, sum_below}
use Rattle.pages.specs.Layout.{page_words}
use Rattle.pages.specs.Sound.{is}
use Rattle.pages.specs.Readers.{entry_in, entries_in}
use Rattle.pages.proofs.Lists.{sum-append}
use Rattle.pages.proofs.Below.{below-same, below-const, below_at}
use Rattle.std.specs.Bool.{MatchBool}
use Rattle.std.specs.List.{list_any, range_with_len, HoldsAt, AllWithin}
use Rattle.std.proofs.lemmas.List.FromFn.{length-range_with_len, get_or-range_with_len}
use Rattle.pages.specs.declared.Entry.{Entry}
use Rattle.placing.specs.Steps.{count_in, held_in, held_below}

held-last : (w : List ℕ) (c n : ℕ) → sum (is c) (entries_in w (suc n)) ≡ sum (is c) (entries_in w n) + is c (entry_in w n)
unfolding entries_in
held-last w c n = omega (arith, sum-append (is c) (entries_in w n) (entry_in w n ∷ []))

-- `any` over entries: whether one has the r c
pub ref-any : (c : ℕ) (es : List Entry) → list_any (λ e. eqb e.r c) es ≡ ltb 0 (sum (is c) es)
ref-any c [] = refl
ref-any c (e ∷ es) = go (eqb e.r c) (ref-any c es)
  where
    go : (b : Bool) → list_any (λ e. eqb e.r c) es ≡ ltb 0 (sum (is c) es) → (b || list_any (λ e. eqb e.r c) es) ≡ ltb 0 (one b + sum (is c) es)
    go true p = sym (lt-ltb 0 (1 + sum (is c) es) (omega arith))
    go false p = p ∙ ap (ltb 0) (sym (zero-add (sum (is c) es)))

-- `any` over the numbers below n says whether some summand is above 0
module _ (n : ℕ) (f : ℕ → ℕ) (Yes No : ℕ → Type 0) (yes : (i : ℕ) → Yes i → 0 < f i) (no : (i : ℕ) → No i → f i ≡ 0) where
  abbrev ns : List ℕ
  ns = range_with_len 0 n

  at : (i : ℕ) → i < n → get_or ns i 0 ≡ i
  at i l = omega (arith, get_or-range_with_len 0 n i 0 l)

  some : (i : ℕ) → i < n → Yes i → 0 < sum_below n f
  some i l h = omega (arith, below_at n f i l, yes i h)

  none : ((i : ℕ) → i < n → No i) → sum_below n f ≡ 0
  none h = omega (arith, below-same n f (λ i. 0) (λ i l. no i (h i l)), below-const n 0)

  any-below : (r : Bool) → MatchBool r ((k : ℕ) × (k < length ns) × HoldsAt Yes ns k) (AllWithin No ns 0 (length ns)) → r ≡ ltb 0 (sum_below n f)
  any-below true (k, l, h) =
      let m : k < n = omega (arith, length-range_with_len 0 n) in
      sym (lt-ltb 0 (sum_below n f) (some k m (subst Yes (at k m) (h 0))))
  any-below false h = rw (none (λ i l. subst No (at i l) (h i 0 (omega arith) (omega (arith, length-range_with_len 0 n)))))

-- of the pages
pub held-any : (t : List ℕ) (c k : ℕ) (r : Bool) → MatchBool r ((p : ℕ) × (p < length (range_with_len 0 k)) × HoldsAt (λ p. ltb 0 (held_in (page_words t p) c) ≡ true) (range_with_len 0 k) p)
    (AllWithin (λ p. ltb 0 (held_in (page_words t p) c) ≡ false) (range_with_len 0 k) 0 (length (range_with_len 0 k))) → r ≡ ltb 0 (held_below t c k)
unfolding held_below
held-any t c k = any-below k (λ p. held_in (page_words t p) c) (λ p. ltb 0 (held_in (page_words t p) c) ≡ true) (λ p. ltb 0 (held_in (page_words t p) c) ≡ false)
    (λ p. ltb-true 0 (held_in (page_words t p) c)) (λ p h. omega (arith, ltb-false 0 (held_in (page_words t p) c) h))

held-front : (w : List ℕ) (c n m : ℕ) → sum (is c) (entries_in w n) ≤ sum (is c) (entries_in w (n + m))
held-front w c n zero = omega (arith, ap (λ k. sum (is c) (entries_in w k)) (add-zero n))
held-front w c n (suc m) = omega (arith, ap (λ k. sum (is c) (entries_in w k)) (add-suc n m), held-last w c (n + m), held-front w c n m)

-- of a leaf; without a match at eight places there is none among the entries
pub held_leaf : (w : List ℕ) (c : ℕ) → ltb 0 (held_in w c) ≡ (eqb (get_or w 0 0) 0 && ltb 0 (sum (is c) (entries_in w FANOUT))) && ltb 0 (sum (is c) (entries_in w (count_in w)))
unfolding held_in
held_leaf w c = go (eqb (get_or w 0 0) 0) (ltb 0 (sum (is c) (entries_in w FANOUT))) refl
  where
    few : sum (is c) (entries_in w (count_in w)) ≤ sum (is c) (entries_in w FANOUT)
    few =
        let m : count_in w + (FANOUT - count_in w) ≡ FANOUT = omega arith in
        omega (arith, held-front w c (count_in w) (FANOUT - count_in w), ap (λ k. sum (is c) (entries_in w k)) m)

    go : (a b : Bool) → ltb 0 (sum (is c) (entries_in w FANOUT)) ≡ b → ltb 0 (cond a (sum (is c) (entries_in w (count_in w))) 0) ≡ (a && b) && ltb 0 (sum (is c) (entries_in w (count_in w)))
    go false b h = refl
    go true true h = refl
    go true false h =
        let none : sum (is c) (entries_in w (count_in w)) ≡ 0 = omega (arith, few, ltb-false 0 (sum (is c) (entries_in w FANOUT)) h) in
        rw none

pub some-held : (b : Bool) (n : ℕ) → b ≡ ltb 0 n → b ≡ true → n ≡ 0 → ⊥
some-held b n p q e = omega (arith, ltb-true 0 n (sym p ∙ q))

pub none-held : (b : Bool) (n : ℕ) → b ≡ ltb 0 n → b ≡ false → n ≡ 0
none-held b n p q = omega (arith, ltb-false 0 n (sym p ∙ q))
