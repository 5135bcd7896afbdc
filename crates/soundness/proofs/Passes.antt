-- A sound table passes each test of the walk.
use Prim.Native.Nat.{ℕ, zero, suc, ◌+◌, ◌*◌, ◌≤◌, ◌<◌}
use native.Mathlib.Omega.{arith}
use native.Mathlib.Decide.{dec_lt}
use mathlib.Core.Path.{◌≡◌, sym, ap, subst, ◌∙◌}
use mathlib.Core.Bool.{Bool}
use mathlib.Core.List.{List}
use lib.ListN.{length, get_or, take, drop}
use lib.Dec.{T, eqb}
use borrow.Author.Tests.{eq-eqb, ne_eqb}
use Rattle.pages.specs.Under.{under, seen}
use Rattle.pages.specs.declared.Entry.{Entry}
use Rattle.pages.specs.Sizes.{PIECES, PAGE_HEAD, ENTRY_WORDS, PAGE_WORDS, TABLE_HEAD, PAGES, TABLE_WORDS, FEWEST}
use Rattle.pages.specs.Lists.{one, sum_below}
use Rattle.pages.specs.Rectangles.{valid}
use Rattle.pages.specs.Layout.{page, page_words, table_in}
use Rattle.pages.specs.Sound.{piece_entries, is, stored, fewest, sound_table, zeros, sound_blank, sound}
use Rattle.pages.proofs.Lists.{both, Holds, holds, all-below, every_map, every-both}
use Rattle.pages.proofs.Below.{below-same, below-const, below_none, below_one}
use Rattle.pages.proofs.Facts.{Facts}
use Rattle.pages.proofs.Whole.{sound-in}
use Rattle.pages.proofs.Counting.{stored-sum, highest}
use Rattle.pages.proofs.Entries.{Fits, leaf-pieces, fits-above}
use Rattle.pages.proofs.Walk.{under-root}
use Rattle.pages.proofs.Visit.{seen-root}
use Rattle.soundness.specs.Steps.{mark_of, Adds, Room, total_of, visits, stores, IsPiece, Head, Tree, root_fewest, Rooted}
use Rattle.soundness.proofs.Words.{first_word, pages-word, pieces-word, tail-words}
use Rattle.soundness.proofs.Walks.{Child}

module _ (w : List ℕ) (long : TABLE_WORDS ≤ length w) (s : T (sound w)) where
  F : Facts (table_in w)
  F = sound-in w s

  blanks : Holds (sound_blank (take TABLE_WORDS w))
  unfolding sound
  blanks = holds (sound_blank (take TABLE_WORDS w)) (both (sound_table (table_in w)) _ s).1

  page-tail : (p : ℕ) → p < length (table_in w).pages → T (zeros (drop (PAGE_HEAD + ENTRY_WORDS * length (page (table_in w) p).entries) (page_words w p)))
  unfolding sound_blank
  page-tail p pl = subst T (tail-words w long p pl F.most) (all-below (get_or (take TABLE_WORDS w) 0 0) _ blanks.0 p (omega (arith, pl, pages-word w long, first_word w)))

  pub rest-zero : T (zeros (drop (TABLE_HEAD + PAGE_WORDS * length (table_in w).pages) (take TABLE_WORDS w)))
  unfolding sound_blank
  rest-zero = subst (λ n. T (zeros (drop (TABLE_HEAD + PAGE_WORDS * n) (take TABLE_WORDS w)))) (first_word w ∙ sym (pages-word w long)) blanks.1.0

  sound-head : (l p : ℕ) → p < length (table_in w).pages → (page (table_in w) p).level ≡ l → Head w l (fewest (table_in w) p) p
  sound-head l p pl e = record { inside = pl; level = e; enough = F.enough p pl; eight = F.eight p pl; blank = page-tail p pl }

  -- a page below another one is not the root
  not_root : (l p q : ℕ) → p < length (table_in w).pages → (page (table_in w) p).level ≡ suc l → (page (table_in w) q).level ≡ l → fewest (table_in w) q ≡ FEWEST
  unfolding fewest
  not_root l p q pl a b = rw (ne_eqb q (table_in w).root (λ e. omega (arith, a, b, highest (table_in w) F p pl, ap (λ x. (page (table_in w) x).level) e)))

  sound-tree : (l p : ℕ) → p < length (table_in w).pages → (page (table_in w) p).level ≡ l → Tree w l (fewest (table_in w) p) p
  unfolding Tree
  sound-tree zero p pl e = (
    sound-head 0 p pl e,
    rw (← leaf-pieces (page (table_in w) p) e)
        (every-both (λ x. T (valid x.rect)) (λ x. x.r < PIECES) IsPiece (λ x a b. (a, b)) (piece_entries (page (table_in w) p)) (F.valids p pl) (F.numbers p pl)),
  )
  sound-tree (suc l) p pl e = (
    sound-head (suc l) p pl e,
    every_map (Fits (table_in w).pages (suc l)) (Child w l) (λ x f. child x f (omega (arith, f.lower)) (sound-tree l x.r f.inside)) (page (table_in w) p).entries
        (fits-above (table_in w) F l p pl e),
  )
    where
      child : (x : Entry) → Fits (table_in w).pages (suc l) x → (page (table_in w) x.r).level ≡ l
          → ((page (table_in w) x.r).level ≡ l → Tree w l (fewest (table_in w) x.r) x.r) → Child w l x
      child x f b r = (subst (λ m. Tree w l m x.r) (not_root l p x.r pl e b) (r b), f.exact)

module _ (w : List ℕ) (k root h : ℕ) (R : Rooted w k root h) (long : TABLE_WORDS ≤ length w) (s : T (sound w)) where
  pub root-tree : Tree w h (root_fewest h) root
  unfolding fewest
  root-tree =
      let e : fewest (table_in w) root ≡ root_fewest h = rw (eq-eqb root (table_in w).root R.is, ← R.at) in
      subst (λ m. Tree w h m root) e (sound-tree w long s h root (omega (arith, R.below, R.count)) (sym R.at))

  -- what holds of the table's root, by the words
  from-root : (P : ℕ → ℕ → Type 0) → P (page (table_in w) (table_in w).root).level (table_in w).root → P h root
  from-root P x = subst (λ l. P l root) (sym R.at) (subst (λ p. P (page (table_in w) p).level p) (sym R.is) x)

  visits-are : (q : ℕ) → visits w h root q ≡ sum_below (length (table_in w).pages) (λ x. one (eqb x q))
  visits-are q =
      from-root (λ l p. seen (λ x. one (eqb x q)) (table_in w).pages l p ≡ sum_below (length (table_in w).pages) (λ x. one (eqb x q)))
      (seen-root (table_in w) (F w long s) (λ x. one (eqb x q)))

  visits-one : (q : ℕ) → q < k → visits w h root q ≡ 1
  visits-one q ql = visits-are q ∙ below_one (length (table_in w).pages) q (λ x. 1) (omega (arith, R.count))

  visits-few : (q : ℕ) → visits w h root q ≤ 1
  visits-few q = go (dec_lt q k)
    where
      go : Dec (q < k) → visits w h root q ≤ 1
      go (yes a) = omega (arith, visits-one q a)
      go (no a) = omega (arith, visits-are q, below_none (length (table_in w).pages) q (λ x. 1) (omega (arith, R.count)))

  stores-are : (c : ℕ) → stores w h root c ≡ stored (table_in w) c
  stores-are c = from-root (λ l p. under (is c) (table_in w).pages l p ≡ stored (table_in w) c) (under-root (table_in w) (F w long s) (is c))

  module _ (m₀ : List Bool) (none : (q : ℕ) → mark_of m₀ q ≡ 0) where
    pub room-pages : Room PAGES m₀ (visits w h root)
    room-pages q l = omega (arith, none q, visits-few q)

    pub room-pieces : Room PIECES m₀ (stores w h root)
    room-pieces c l = omega (arith, none c, stores-are c, (F w long s).distinct c l)

    one-mark : (m₁ : List Bool) (q : ℕ) → Adds PAGES m₀ m₁ (visits w h root) → q < k → mark_of m₁ q ≡ 1
    one-mark m₁ q a l = omega (arith, none q, visits-one q l, a q (omega (arith, R.most)))

    -- each page is visited, and the pieces are counted
    pub pages-total : (m₁ : List Bool) → Adds PAGES m₀ m₁ (visits w h root) → total_of m₁ k ≡ k
    unfolding total_of
    pages-total m₁ a = below-same k (mark_of m₁) (λ q. 1) (λ q l. one-mark m₁ q a l) ∙ (below-const k 1 ∙ times-one k)
      where
        times-one : (n : ℕ) → n * 1 ≡ n
        times-one n = omega arith

    number-mark : (m₁ : List Bool) (c : ℕ) → Adds PIECES m₀ m₁ (stores w h root) → c < PIECES → mark_of m₁ c ≡ stored (table_in w) c
    number-mark m₁ c a l = omega (arith, none c, stores-are c, a c l)

    pub pieces-total : (m₁ : List Bool) → Adds PIECES m₀ m₁ (stores w h root) → total_of m₁ PIECES ≡ get_or w 2 0
    unfolding total_of
    pieces-total m₁ a = below-same PIECES (mark_of m₁) (stored (table_in w)) (λ c l. number-mark m₁ c a l)
        ∙ (stored-sum (table_in w) PIECES (F w long s).numbers ∙ (sym (F w long s).counted ∙ pieces-word w long))
