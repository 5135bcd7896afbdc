-- Where the walk is good and comes to each page one time, the table has all that soundness asks.
use Prim.Native.Nat.{ℕ, zero, suc, ◌+◌, ◌*◌, ◌≤◌, ◌<◌}
use native.Mathlib.Omega.{arith}
use native.Mathlib.Decide.{ℕ_discrete, dec_lt}
use mathlib.Core.Path.{◌≡◌, refl, sym, ap, subst, ◌∙◌}
use mathlib.Core.Logic.{◌≢◌}
use mathlib.Core.List.{List, [], ◌∷◌}
use lib.ListN.{length, get_or, take, drop}
use lib.Dec.{T, eqb}
use borrow.Author.Tests.{eq-eqb, ne_eqb}
use Rattle.pages.specs.Under.{seen}
use Rattle.pages.specs.declared.Entry.{Entry}
use Rattle.pages.specs.Sizes.{PIECES, PAGE_WORDS, TABLE_HEAD, PAGES, TABLE_WORDS, TOP_LEVEL, FEWEST}
use Rattle.pages.specs.Lists.{one, all_of, sum, sum_below, Every}
use Rattle.pages.specs.Rectangles.{valid, bounds}
use Rattle.pages.specs.Layout.{no_page, page, table_in}
use Rattle.pages.specs.Sound.{child_entries, piece_entries, is, stored, fewest, sound_table, zeros, sound_blank, sound}
use Rattle.pages.proofs.Lists.{and, all-of, below_all, every_map}
use Rattle.pages.proofs.Below.{below-same, sum-places}
use Rattle.pages.proofs.Facts.{Facts, sound-of}
use Rattle.pages.proofs.Counting.{stored-sum}
use Rattle.pages.proofs.Entries.{leaf-children, leaf-pieces, above-children, above-pieces}
use Rattle.pages.proofs.Visit.{seen_all, named-once}
use Rattle.soundness.specs.Steps.{visits, stores, IsPiece, Head, Tree, root_fewest, Rooted}
use Rattle.soundness.proofs.Words.{first_word, pages-word, tail-words}
use Rattle.soundness.proofs.Walks.{Child, tree-head}
use Rattle.soundness.proofs.Counts.{under-seen}

-- a tree with page q at its top
record Found (w : List ℕ) (m q : ℕ) : Type 0 where
  l : ℕ
  tree : Tree w l m q
  low : l ≤ TOP_LEVEL

module _ (w : List ℕ) where
  -- one of the entries leads to it
  some-entry : (l : ℕ) (f : Entry → ℕ) (R : Type 0) (es : List Entry) → Every (Child w l) es → 1 ≤ sum f es → ((e : Entry) → Child w l e → 1 ≤ f e → R) → R
  some-entry l f R [] c s k = absurd (omega arith)
  some-entry l f R (e ∷ es) c s k = go (dec_lt 0 (f e)) (some-entry l f R es c.1)
    where
      go : Dec (0 < f e) → (1 ≤ sum f es → ((e : Entry) → Child w l e → 1 ≤ f e → R) → R) → R
      go (yes a) r = k e c.0 a
      go (no a) r = r (omega arith) k

  -- a page that the walk comes to, but the first, is the top of a good tree
  tree-found : (l m p q : ℕ) → Tree w l m p → l ≤ TOP_LEVEL → q ≢ p → 1 ≤ visits w l p q → Found w FEWEST q
  unfolding Tree seen
  tree-found zero m p q t low n v = absurd (omega (arith, v, ap one (ne_eqb p q (λ e. n (sym e)))))
  tree-found (suc l) m p q t low n v =
      let s : 1 ≤ sum (λ e. visits w l e.r q) (page (table_in w) p).entries = omega (arith, v, ap one (ne_eqb p q (λ e. n (sym e)))) in
      some-entry l (λ e. visits w l e.r q) (Found w FEWEST q) (page (table_in w) p).entries t.1 s
      (λ e c k. go e.r (ℕ_discrete q e.r) c.0 (λ d. tree-found l FEWEST e.r q c.0 (omega arith) d k))
    where
      go : (r : ℕ) → Dec (q ≡ r) → Tree w l FEWEST r → (q ≢ r → Found w FEWEST q) → Found w FEWEST q
      go r (yes e) c k = record { l = l; tree = subst (Tree w l FEWEST) (sym e) c; low = omega arith }
      go r (no e) c k = k e

  -- what a tree says of its first page
  module _ (p : ℕ) where
    tree-children : (P : Entry → Type 0) (l m : ℕ) → Tree w l m p → ((k : ℕ) → l ≡ suc k → (e : Entry) → Child w k e → P e) → Every P (child_entries (page (table_in w) p))
    unfolding Tree
    tree-children P zero m t f = rw (leaf-children (page (table_in w) p) t.0.level) tt
    tree-children P (suc l) m t f = rw (above-children (page (table_in w) p) l t.0.level) (every_map (Child w l) P (f l refl) (page (table_in w) p).entries t.1)

    tree-lower : (l m : ℕ) → Tree w l m p → Every (λ e. (page (table_in w) p).level ≡ suc (page (table_in w) e.r).level) (child_entries (page (table_in w) p))
    tree-lower l m t = tree-children (λ e. (page (table_in w) p).level ≡ suc (page (table_in w) e.r).level) l m t
        (λ k z e c. (tree-head w l m p t).level ∙ (z ∙ ap suc (sym (tree-head w k FEWEST e.r c.0).level)))

    tree-inside : (l m : ℕ) → Tree w l m p → Every (λ e. e.r < length (table_in w).pages) (child_entries (page (table_in w) p))
    tree-inside l m t = tree-children (λ e. e.r < length (table_in w).pages) l m t (λ k z e c. (tree-head w k FEWEST e.r c.0).inside)

    tree-exact : (l m : ℕ) → Tree w l m p → Every (λ e. e.rect ≡ bounds (page (table_in w) e.r).entries) (child_entries (page (table_in w) p))
    tree-exact l m t = tree-children (λ e. e.rect ≡ bounds (page (table_in w) e.r).entries) l m t (λ k z e c. c.1)

    tree-pieces : (l m : ℕ) → Tree w l m p → Every IsPiece (piece_entries (page (table_in w) p))
    unfolding Tree
    tree-pieces zero m t = rw (leaf-pieces (page (table_in w) p) t.0.level) t.1
    tree-pieces (suc l) m t = rw (above-pieces (page (table_in w) p) l t.0.level) tt

-- a good tree with page q at its top, which has as many entries as its place asks
record Good (w : List ℕ) (q : ℕ) : Type 0 where
  l : ℕ
  m : ℕ
  tree : Tree w l m q
  low : l ≤ TOP_LEVEL
  enough : fewest (table_in w) q ≤ length (page (table_in w) q).entries

module _ (w : List ℕ) (k root h : ℕ) (R : Rooted w k root h) (long : TABLE_WORDS ≤ length w)
    (t : Tree w h (root_fewest h) root) (once : (q : ℕ) → q < length (table_in w).pages → visits w h root q ≡ 1) where
  good-root : Good w root
  unfolding fewest
  good-root = record {
    l = h;
    m = root_fewest h;
    tree = t;
    low = R.low;
    enough = rw (eq-eqb root (table_in w).root R.is, ← R.at) (tree-head w h (root_fewest h) root t).enough;
  }

  good-page : (q : ℕ) → q < length (table_in w).pages → Good w q
  unfolding fewest
  good-page q ql = go (ℕ_discrete q root)
    where
      other : q ≢ root → Found w FEWEST q → Good w q
      other n f = record {
        l = f.l;
        m = FEWEST;
        tree = f.tree;
        low = f.low;
        enough = rw (ne_eqb q (table_in w).root (λ e. n (e ∙ sym R.is))) (tree-head w f.l FEWEST q f.tree).enough;
      }

      go : Dec (q ≡ root) → Good w q
      go (yes e) = subst (Good w) (sym e) good-root
      go (no n) = other n (tree-found w h (root_fewest h) root q t R.low n (omega (arith, once q ql)))

  head : (q : ℕ) (ql : q < length (table_in w).pages) → Head w (good-page q ql).l (good-page q ql).m q
  head q ql = tree-head w (good-page q ql).l (good-page q ql).m q (good-page q ql).tree

  lower : (q : ℕ) → q < length (table_in w).pages → Every (λ e. (page (table_in w) q).level ≡ suc (page (table_in w) e.r).level) (child_entries (page (table_in w) q))
  lower q ql = tree-lower w q (good-page q ql).l (good-page q ql).m (good-page q ql).tree

  inside : (q : ℕ) → q < length (table_in w).pages → Every (λ e. e.r < length (table_in w).pages) (child_entries (page (table_in w) q))
  inside q ql = tree-inside w q (good-page q ql).l (good-page q ql).m (good-page q ql).tree

  pieces-good : (q : ℕ) → q < length (table_in w).pages → Every IsPiece (piece_entries (page (table_in w) q))
  pieces-good q ql = tree-pieces w q (good-page q ql).l (good-page q ql).m (good-page q ql).tree

  numbers : (q : ℕ) → q < length (table_in w).pages → Every (λ e. e.r < PIECES) (piece_entries (page (table_in w) q))
  numbers q ql = every_map IsPiece (λ e. e.r < PIECES) (λ e z. z.1) (piece_entries (page (table_in w) q)) (pieces-good q ql)

  top : (table_in w).root < length (table_in w).pages
  top = omega (arith, R.below, R.count, R.is)

  stored_is : (c : ℕ) → stored (table_in w) c ≡ stores w h root c
  stored_is c =
      let r : Head w h (root_fewest h) root = tree-head w h (root_fewest h) root t in
      sum-places (λ g. sum (is c) (piece_entries g)) (table_in w).pages no_page
      ∙ (sym (seen_all (table_in w) top lower inside (λ q. sum (is c) (piece_entries (page (table_in w) q))) h root r.inside r.level once) ∙ sym (under-seen w (is c) h (root_fewest h) root t))

  below : (q : ℕ) → q < get_or (take TABLE_WORDS w) 0 0 → q < length (table_in w).pages
  below q ql = omega (arith, ql, pages-word w long, first_word w)

  most : length (table_in w).pages ≤ PAGES
  most = omega (arith, R.most, R.count)

  levels : (q : ℕ) → q < length (table_in w).pages → (page (table_in w) q).level ≤ 4
  levels q ql = omega (arith, (head q ql).level, (good-page q ql).low)

  single : ((c : ℕ) → c < PIECES → stores w h root c ≤ 1) → (c : ℕ) → c < PIECES → stored (table_in w) c ≤ 1
  single s c l = omega (arith, stored_is c, s c l)

  -- the facts
  tree-facts : ((c : ℕ) → c < PIECES → stores w h root c ≤ 1) → (table_in w).count ≡ sum_below PIECES (stores w h root) → Facts (table_in w)
  tree-facts one_each count = record {
    most = most;
    top = top;
    levels = levels;
    lower = lower;
    once = named-once (table_in w) top lower inside
        (λ q ql. subst (λ d. seen (λ x. one (eqb x q)) (table_in w).pages (page (table_in w) d).level d ≡ 1) R.is
        (subst (λ l. seen (λ x. one (eqb x q)) (table_in w).pages l root ≡ 1) R.at (once q ql)));
    inside = inside;
    enough = λ q ql. (good-page q ql).enough;
    eight = λ q ql. (head q ql).eight;
    exact = λ q ql. tree-exact w q (good-page q ql).l (good-page q ql).m (good-page q ql).tree;
    valids = λ q ql. every_map IsPiece (λ e. T (valid e.rect)) (λ e z. z.0) (piece_entries (page (table_in w) q)) (pieces-good q ql);
    numbers = numbers;
    distinct = single one_each;
    counted = count ∙ (below-same PIECES (stores w h root) (stored (table_in w)) (λ c l. sym (stored_is c)) ∙ stored-sum (table_in w) PIECES numbers);
  }

  -- and so the words are sound, where the tails and the rest are zero
  pub tree-sound : ((c : ℕ) → c < PIECES → stores w h root c ≤ 1) → (table_in w).count ≡ sum_below PIECES (stores w h root)
      → T (zeros (drop (TABLE_HEAD + PAGE_WORDS * k) (take TABLE_WORDS w))) → T (sound w)
  unfolding sound sound_blank
  tree-sound one_each count rest =
      and (sound_table (table_in w)) (all_of (sound_blank (take TABLE_WORDS w))) (sound-of (table_in w) (tree-facts one_each count))
      (all-of (sound_blank (take TABLE_WORDS w)) (
        below_all (get_or (take TABLE_WORDS w) 0 0) _ (λ q ql. subst T (sym (tail-words w long q (below q ql) most)) (head q (below q ql)).blank),
        (subst (λ n. T (zeros (drop (TABLE_HEAD + PAGE_WORDS * n) (take TABLE_WORDS w)))) (R.count ∙ (pages-word w long ∙ sym (first_word w))) rest, tt),
      ))
