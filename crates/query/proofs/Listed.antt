-- The walk from the root marks the listing: what it passes over holds no admitted piece. The listing is no longer than the piece count.
use Prim.Native.Nat.{ℕ, zero, suc, ◌≤◌, ◌<◌}
use native.Mathlib.Omega.{arith}
use native.Mathlib.Nat.{le_trans, le_of_eq, add-zero}
use mathlib.Core.Path.{◌≡◌, refl, sym, ap, ◌∙◌}
use mathlib.Core.Bool.{Bool, true, false, cond}
use mathlib.Core.List.{List, [], ◌∷◌}
use lib.ListN.{length, length-append}
use lib.Dec.{T, ltb, eqb}
use Rattle.pages.specs.declared.Rect.{Rect}
use Rattle.pages.specs.declared.Entry.{Entry}
use Rattle.pages.specs.Sizes.{PIECES}
use Rattle.pages.specs.Lists.{one, sum, sum_below, concat_map, Every, times}
use Rattle.pages.specs.Rectangles.{valid}
use Rattle.pages.specs.Layout.{Table, no_page, page}
use Rattle.pages.specs.Sound.{piece_entries, is, stored, pieces}
use Rattle.pages.proofs.Entries.{Fits, fits-above}
use Rattle.pages.proofs.Lists.{at_every, every_map, sum_same, sum-le, sum-cond, sum-concat, every_one}
use Rattle.pages.proofs.Below.{below-le, cond-le}
use Rattle.pages.proofs.Facts.{Facts}
use Rattle.pages.proofs.Counting.{stored-sum}
use Rattle.pages.proofs.Walk.{walked, Within, walk-finds}
use Rattle.query.specs.Listing.{rising, admitted_as, listing}
use Rattle.query.specs.Opening.{opened_under, opened_pages}
use Rattle.query.specs.Steps.{admitted_r, hits_on}
use Rattle.query.specs.Marks.{is_marked, marked, no_marks, marked_numbers}
use Rattle.query.proofs.Walking.{hits-leaf, hits-above}
use Rattle.query.proofs.Marks.{marked-new, rising-same}

-- 1 for an admitted entry with the r c
abbrev weight : (Rect → Bool) → ℕ → Entry → ℕ
weight admit c e = cond (admit e.rect) (is c e) 0

module _ (t : Table) (F : Facts t) (admit opens : Rect → Bool) (c : ℕ) where
  hit-times : (e : Entry) → times c (admitted_r admit e) ≡ weight admit c e
  hit-times e = sum-cond (λ x. one (eqb x c)) (admit e.rect) (e.r ∷ []) ∙ ap (λ n. cond (admit e.rect) n 0) (add-zero (is c e))

  -- how often a page has c, and those that a walk opens from it
  on : ℕ → ℕ
  on q = times c (hits_on admit t q)

  -- how often the walk meets c
  opened-times : (l p : ℕ) → p < length t.pages → (page t p).level ≡ l → sum on (opened_under opens t.pages l p) ≡ walked opens (weight admit c) t.pages l p
  unfolding opened_under walked on
  opened-times zero p pl e =
      add-zero (on p)
      ∙ (ap (times c) (hits-leaf admit t p e)
      ∙ (sum-concat (λ x. one (eqb x c)) (admitted_r admit) (page t p).entries
      ∙ sum_same (λ x. times c (admitted_r admit x)) (weight admit c) (page t p).entries (every_one _ hit-times (page t p).entries)))
  opened-times (suc l) p pl e =
      let z : on p ≡ 0 = ap (times c) (hits-above admit t p (λ y. omega arith)) in
      let child : (x : Entry) → Fits t.pages (suc l) x → sum on (cond (opens x.rect) (opened_under opens t.pages l x.r) []) ≡ cond (opens x.rect) (walked opens (weight admit c) t.pages l x.r) 0
      = λ x f. sum-cond on (opens x.rect) (opened_under opens t.pages l x.r) ∙ ap (λ n. cond (opens x.rect) n 0) (opened-times l x.r f.inside (omega (arith, f.lower))) in
      omega (
        arith,
        z,
        sum-concat on (λ x. cond (opens x.rect) (opened_under opens t.pages l x.r) []) (page t p).entries,
        sum_same (λ x. sum on (cond (opens x.rect) (opened_under opens t.pages l x.r) [])) (λ x. cond (opens x.rect) (walked opens (weight admit c) t.pages l x.r) 0) (page t p).entries
            (every_map (Fits t.pages (suc l)) _ child (page t p).entries (fits-above t F l p pl e)),
      )

shut : (admit : Rect → Bool) (c : ℕ) (e : Entry) → (T (admit e.rect) → ⊥) → weight admit c e ≡ 0
shut admit c e = go (admit e.rect)
  where
    go : (b : Bool) → (T b → ⊥) → cond b (is c e) 0 ≡ 0
    go true h = absurd (h tt)
    go false h = refl

module _ (t : Table) (F : Facts t) (admit opens : Rect → Bool) (reaches : (r s : Rect) → T (valid r) → Within r s → T (admit r) → T (opens s)) where
  -- the admitted pieces on the opened pages
  abbrev pub hits : List ℕ
  hits = concat_map (hits_on admit t) (opened_pages opens t)

  met : (c : ℕ) → times c hits ≡ admitted_as admit t c
  unfolding opened_pages on
  met c =
      sum-concat (λ x. one (eqb x c)) (hits_on admit t) (opened_pages opens t)
      ∙ (opened-times t F admit opens c (page t t.root).level t.root F.top refl
      ∙ walk-finds t F admit opens reaches (weight admit c) (shut admit c))

  -- the marked numbers are the listing
  pub found : marked_numbers (marked no_marks hits) ≡ listing admit t
  unfolding marked_numbers listing
  found =
      rising-same PIECES (is_marked (marked no_marks hits)) (λ c. ltb 0 (admitted_as admit t c))
      (λ c l. marked-new hits c l ∙ ap (ltb 0) (met c))

-- ---- how long the listing is

length-rising : (n : ℕ) (p : ℕ → Bool) → length (rising n p) ≡ sum_below n (λ c. one (p c))
length-rising zero p = refl
length-rising (suc n) p = omega (arith, length-append (rising n p) (cond (p n) (n ∷ []) []), length-rising n p, go (p n))
  where
    go : (b : Bool) → length {A = ℕ} (cond b (n ∷ []) []) ≡ one b
    go true = refl
    go false = refl

some_one : (m : ℕ) → one (ltb 0 m) ≤ m
some_one zero = omega arith
some_one (suc m) = go (ltb 0 (suc m))
  where
    go : (b : Bool) → one b ≤ suc m
    go true = omega arith
    go false = omega arith

module _ (t : Table) (admit : Rect → Bool) where
  pub admitted-le : (c : ℕ) → admitted_as admit t c ≤ stored t c
  admitted-le c =
      sum-le (λ p. sum (weight admit c) (piece_entries p)) (λ p. sum (is c) (piece_entries p)) t.pages
      (at_every (λ p. sum (weight admit c) (piece_entries p) ≤ sum (is c) (piece_entries p)) t.pages no_page
      (λ i l. sum-le (weight admit c) (is c) (piece_entries (page t i)) (every_one _ (λ e. cond-le (admit e.rect) (is c e)) (piece_entries (page t i)))))

  listed-few : (n : ℕ) → ((p : ℕ) → p < length t.pages → Every (λ e. e.r < n) (piece_entries (page t p))) → length (rising n (λ c. ltb 0 (admitted_as admit t c))) ≤ pieces t
  listed-few n small =
      omega (
        arith,
        length-rising n (λ c. ltb 0 (admitted_as admit t c)),
        below-le n (λ c. one (ltb 0 (admitted_as admit t c))) (stored t) (λ c l. le_trans (some_one (admitted_as admit t c)) (admitted-le c)),
        stored-sum t n small,
      )

  pub listing-few : Facts t → length (listing admit t) ≤ t.count
  unfolding listing
  listing-few F = le_trans (listed-few PIECES F.numbers) (le_of_eq (sym F.counted))
