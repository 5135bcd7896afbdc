-- The walk from the root and what it leaves decide whether the words are sound.
use Prim.Native.Nat.{ℕ, ◌+◌, ◌-◌, ◌*◌, ◌≤◌, ◌<◌}
use native.Mathlib.Omega.{arith}
use mathlib.Core.Path.{◌≡◌, sym, ap, subst, ◌∙◌}
use mathlib.Core.Bool.{Bool, true, false}
use mathlib.Core.List.{List, ◌++◌}
use lib.ListN.{length, get_or, take, drop, length-take, length-drop, take-append-drop}
use lib.Seq.{take_at, drop-append-le}
use lib.Dec.{T}
use Rattle.pages.specs.Sizes.{PIECES, PAGE_WORDS, TABLE_HEAD, PAGES, TABLE_WORDS, TOP_LEVEL}
use Rattle.pages.specs.Layout.{page, page_words, table_in}
use Rattle.pages.specs.Sound.{zeros, sound}
use Rattle.pages.proofs.Lists.{true-T, T_true, false-T, T_false}
use Rattle.pages.proofs.Below.{below-same}
use Rattle.pages.proofs.Whole.{sound-in}
use Rattle.std.specs.Prelude.{Option, is_some}
use Rattle.pages.specs.declared.Rect.{Rect}
use Rattle.soundness.specs.Steps.{mark_of, total_of, visits, stores, Visited, Complete, root_fewest, Rooted}
use Rattle.soundness.proofs.Words.{pages-word, root-word, pieces-word, level-word}
use Rattle.soundness.proofs.Marks.{one-most}
use Rattle.soundness.proofs.Counts.{all_one}
use Rattle.soundness.proofs.Trees.{tree-sound}
use Rattle.soundness.proofs.Passes.{rest-zero, root-tree, room-pages, room-pieces, pages-total, pieces-total}

-- the words from a on, of the first n
front-part : (w : List ℕ) (n a : ℕ) → n ≤ length w → a ≤ n → take (n - a) (drop a w) ≡ drop a (take n w)
front-part w n a l k =
    let x : List ℕ = take n w in
    let xl : length x ≡ n = omega (arith, length-take n w) in
    let e : drop a w ≡ drop a x ++ drop n w = ap (drop a) (sym (take-append-drop n w)) ∙ drop-append-le a x (drop n w) (omega arith) in
    ap (take (n - a)) e ∙ take_at (drop a x) (drop n w) (n - a) (omega (arith, length-drop a x))

module _ {w : List ℕ} {k root h : ℕ} (R : Rooted w k root h) (size : length w ≡ TABLE_WORDS) {s₀ n₀ s₁ n₁ : List Bool} {v : Option Rect}
    (sz : (q : ℕ) → mark_of s₀ q ≡ 0) (nz : (c : ℕ) → mark_of n₀ c ≡ 0) {m : ℕ} (me : m ≡ root_fewest h) (y : Visited w h m root s₀ n₀ v s₁ n₁) where
  long : TABLE_WORDS ≤ length w
  long = omega (arith, size)

  x : Visited w h (root_fewest h) root s₀ n₀ v s₁ n₁
  x = subst (λ a. Visited w h a root s₀ n₀ v s₁ n₁) me y

  pub walk_refuses : is_some v ≡ false → false ≡ sound w
  walk_refuses f = sym (T_false (sound w) (λ s. x.no f (root-tree w k root h R long s) (room-pages w k root h R long s s₀ sz) (room-pieces w k root h R long s n₀ nz)))

  -- the walk has the table and its count of pages to the end
  module _ (good : is_some v ≡ true) {w' : List ℕ} (same : w' ≡ w) {k' : ℕ} (count : k' ≡ length (table_in w').pages) where
    k-same : k' ≡ k
    k-same = count ∙ (ap (λ a. length (table_in a).pages) same ∙ sym R.count)

    pub marks_refuse : (Complete w' k' s₁ n₁ → ⊥) → false ≡ sound w
    marks_refuse f = sym (T_false (sound w) (λ s. f (
      subst (λ a. total_of s₁ a ≡ a) (sym k-same) (pages-total w k root h R long s s₀ sz s₁ (x.yes good).1),
      pieces-total w k root h R long s n₀ nz n₁ (x.yes good).2 ∙ ap (λ a. get_or a 2 0) (sym same),
    )))

    visits-mark : (q : ℕ) → q < length (table_in w).pages → mark_of s₁ q ≡ 1 → visits w h root q ≡ 1
    visits-mark q l e = omega (arith, sz q, e, (x.yes good).1 q (omega (arith, R.count, R.most)))

    once : total_of s₁ k ≡ k → (q : ℕ) → q < length (table_in w).pages → visits w h root q ≡ 1
    unfolding total_of
    once t q l = visits-mark q l (all_one k (mark_of s₁) (λ a _. one-most (get_or s₁ a false)) t q (subst (λ m. q < m) (sym R.count) l))

    stores-mark : (c : ℕ) → c < PIECES → mark_of n₁ c ≡ stores w h root c
    stores-mark c l = omega (arith, nz c, (x.yes good).2 c l)

    stores-few : (c : ℕ) → c < PIECES → stores w h root c ≤ 1
    stores-few c l = omega (arith, nz c, (x.yes good).2 c l, one-most (get_or n₁ c false))

    pub rest_decides : Complete w' k' s₁ n₁ → {b : Bool}
        → b ≡ zeros (take (TABLE_WORDS - (TABLE_HEAD + PAGE_WORDS * k)) (drop (TABLE_HEAD + PAGE_WORDS * k) w)) → b ≡ sound w
    unfolding total_of
    rest_decides t {b} e = go b (e ∙ ap zeros (front-part w TABLE_WORDS (TABLE_HEAD + PAGE_WORDS * k) long (omega (arith, R.most))))
      where
        go : (b : Bool) → b ≡ zeros (drop (TABLE_HEAD + PAGE_WORDS * k) (take TABLE_WORDS w)) → b ≡ sound w
        go true z = sym (T_true (sound w) (tree-sound w k root h R long (x.yes good).0 (once (subst (λ a. total_of s₁ a ≡ a) k-same t.0)) stores-few
            (pieces-word w long ∙ (ap (λ a. get_or a 2 0) (sym same) ∙ (sym t.1 ∙ below-same PIECES (mark_of n₁) (stores w h root) stores-mark))) (true-T _ (sym z))))
        go false z = sym (T_false (sound w) (λ s. false-T _ (sym z) (subst (λ n. T (zeros (drop (TABLE_HEAD + PAGE_WORDS * n) (take TABLE_WORDS w)))) (sym R.count) (rest-zero w long s))))

-- the tests before the walk
module _ (w : List ℕ) (long : TABLE_WORDS ≤ length w) where
  pub count_refuses : PAGES < get_or w 0 0 → false ≡ sound w
  count_refuses f = sym (T_false (sound w) (λ s. omega (arith, f, pages-word w long, (sound-in w s).most)))

  pub root_refuses : get_or w 0 0 ≤ get_or w 1 0 → false ≡ sound w
  root_refuses f = sym (T_false (sound w) (λ s. omega (arith, f, pages-word w long, root-word w long, (sound-in w s).top)))

  module _ (pg : List ℕ) (most : get_or w 0 0 ≤ PAGES) (below : get_or w 1 0 < get_or w 0 0) (is : pg ≡ page_words w (get_or w 1 0)) where
    root-level : (page (table_in w) (get_or w 1 0)).level ≡ get_or pg 0 0
    root-level = level-word w long (get_or w 1 0) (omega (arith, pages-word w long)) (omega (arith, pages-word w long)) ∙ ap (λ x. get_or x 0 0) (sym is)

    pub level_refuses : TOP_LEVEL < get_or pg 0 0 → false ≡ sound w
    level_refuses f = sym (T_false (sound w) (λ s. omega (arith, f, root-level, (sound-in w s).levels (get_or w 1 0) (omega (arith, pages-word w long)))))

    pub rooted : get_or pg 0 0 ≤ TOP_LEVEL → Rooted w (get_or w 0 0) (get_or w 1 0) (get_or pg 0 0)
    rooted f = record { count = sym (pages-word w long); most = most; is = sym (root-word w long); below = below; at = sym root-level; low = f }
