-- The walk from the root meets each piece one time, and a walk that passes over pages in which nothing is wanted misses nothing.
use Prim.Native.Nat.{ℕ, zero, suc, ◌*◌, ◌≤◌, ◌<◌, ◌-◌}
use native.Mathlib.Omega.{arith}
use native.Mathlib.Decide.{ℕ_discrete}
use mathlib.Core.Path.{◌≡◌, refl, sym, ap, ◌∙◌}
use mathlib.Core.Logic.{◌≢◌}
use mathlib.Core.Bool.{Bool, true, false, cond}
use mathlib.Core.List.{List, [], ◌∷◌}
use lib.ListN.{length}
use lib.Dec.{T, eqb}
use borrow.Author.Tests.{eq-eqb, ne_eqb}
use Rattle.pages.specs.declared.Rect.{Rect}
use Rattle.pages.specs.declared.Entry.{Entry}
use Rattle.pages.specs.Lists.{one, sum, sum_below, Every}
use Rattle.pages.specs.Rectangles.{valid, widen, widen_all, bounds}
use Rattle.pages.specs.Layout.{Page, Table, no_page, page_at, page}
use Rattle.pages.specs.Sound.{leaf, piece_entries, is}
use Rattle.pages.specs.Under.{under}
use Rattle.pages.proofs.Lists.{at_every, every_map, every-both, sum_same, sum-cond, sum-below}
use Rattle.pages.proofs.Below.{below-same, below-times, below_one, sum-places, is-times, below-chosen, sum-nothing, below_at}
use Rattle.pages.proofs.Facts.{Facts}
use Rattle.pages.proofs.Counting.{other, others, named-from, none_above}
use Rattle.pages.proofs.Entries.{Fits, leaves, leaf-pieces, above-children, fits-above}

-- the weight under a page, of a walk that goes to a child only where its rectangle passes a test
unfoldable pub walked : (Rect → Bool) → (Entry → ℕ) → List Page → ℕ → ℕ → ℕ
walked o f ps zero p = sum f (page_at ps p).entries
walked o f ps (suc l) p = sum (λ e. cond (o e.rect) (walked o f ps l e.r) 0) (page_at ps p).entries

pub sum-times : {A : Type 0} (f : A → ℕ) (c : ℕ) (xs : List A) → sum (λ x. f x * c) xs ≡ sum f xs * c
sum-times f c [] = omega arith
sum-times f c (x ∷ xs) = omega (arith, sum-times f c xs)

module _ (t : Table) (F : Facts t) where
  abbrev pub k : ℕ
  k = length t.pages

  abbrev pub h : ℕ
  h = (page t t.root).level

  -- a weight of pages, summed over the pages at a level
  abbrev pub at_level : ℕ → (ℕ → ℕ) → ℕ
  at_level l G = sum_below k (λ q. cond (eqb (page t q).level l) (G q) 0)

  one-page : (l : ℕ) (G : ℕ → ℕ) (p : ℕ) → p < k
      → cond (eqb (page t p).level (suc l)) (sum (λ e. G e.r) (page t p).entries) 0 ≡ sum_below k (λ q. cond (eqb (page t p).level (suc l)) (sum (is q) (page t p).entries) 0 * G q)
  one-page l G p pl = go (ℕ_discrete (page t p).level (suc l))
    where
      go : Dec ((page t p).level ≡ suc l)
          → cond (eqb (page t p).level (suc l)) (sum (λ e. G e.r) (page t p).entries) 0 ≡ sum_below k (λ q. cond (eqb (page t p).level (suc l)) (sum (is q) (page t p).entries) 0 * G q)
      go (yes a) =
          let ins : Every (λ e. e.r < k) (page t p).entries = rw (above-children (page t p) l a) at (F.inside p pl) in
          rw (eq-eqb (page t p).level (suc l) a)
          (sum_same (λ e. G e.r) (λ e. sum_below k (λ q. is q e * G q)) (page t p).entries (every_map (λ e. e.r < k) _ (λ e z. below-chosen k G e.r z) (page t p).entries ins)
          ∙ (sym (sum-below (λ q e. is q e * G q) k (page t p).entries) ∙ below-same k _ _ (λ q ql. sum-times (is q) (G q) (page t p).entries)))
      go (no a) = rw (ne_eqb (page t p).level (suc l) a) (omega (arith, below-times k 0 G))

  -- over the children of the pages at a level: over the pages of the level below, but the root
  others_below : (l : ℕ) (G : ℕ → ℕ) → at_level (suc l) (λ q. sum (λ e. G e.r) (page t q).entries) ≡ sum_below k (λ q. other t l q * G q)
  others_below l G =
      sym (sum-places (λ p. cond (eqb p.level (suc l)) (sum (λ e. G e.r) p.entries) 0) t.pages no_page)
      ∙ (sum_same (λ p. cond (eqb p.level (suc l)) (sum (λ e. G e.r) p.entries) 0) (λ p. sum_below k (λ q. cond (eqb p.level (suc l)) (sum (is q) p.entries) 0 * G q)) t.pages
      (at_every (λ p. cond (eqb p.level (suc l)) (sum (λ e. G e.r) p.entries) 0 ≡ sum_below k (λ q. cond (eqb p.level (suc l)) (sum (is q) p.entries) 0 * G q)) t.pages no_page (one-page l G))
      ∙ (sym (sum-below (λ q p. cond (eqb p.level (suc l)) (sum (is q) p.entries) 0 * G q) k t.pages)
      ∙ below-same k _ (λ q. other t l q * G q) (λ q ql. sum-times (λ p. cond (eqb p.level (suc l)) (sum (is q) p.entries) 0) (G q) t.pages ∙ ap (λ n. n * G q) (named-from t F l q ql))))

  -- below the root's level every page is a child
  pub not_top : (l : ℕ) → l < h → (q : ℕ) → other t l q ≡ one (eqb (page t q).level l)
  not_top l lh q = go (ℕ_discrete q t.root)
    where
      go : Dec (q ≡ t.root) → other t l q ≡ one (eqb (page t q).level l)
      go (yes z) = rw (eq-eqb q t.root z) (sym (ap one (ne_eqb (page t q).level l (λ w. omega (arith, w, ap (λ x. (page t x).level) z)))))
      go (no z) = rw (ne_eqb q t.root z)

  pub children : (l : ℕ) → l < h → (G : ℕ → ℕ) → at_level (suc l) (λ q. sum (λ e. G e.r) (page t q).entries) ≡ at_level l G
  children l lh G =
      others_below l G
      ∙ below-same k (λ q. other t l q * G q) (λ q. cond (eqb (page t q).level l) (G q) 0)
      (λ q ql. ap (λ n. n * G q) (not_top l lh q) ∙ sym (is-times (eqb (page t q).level l) (G q)))

  -- so each level's sum is the same
  pub all_under : (f : Entry → ℕ) (l : ℕ) → l ≤ h → at_level l (under f t.pages l) ≡ leaves f t.pages
  unfolding under
  all_under f zero lh =
      sym (sum-places (λ p. cond (eqb p.level 0) (sum f p.entries) 0) t.pages no_page)
      ∙ sum_same (λ p. cond (eqb p.level 0) (sum f p.entries) 0) (λ p. sum f (piece_entries p)) t.pages
      (at_every (λ p. cond (eqb p.level 0) (sum f p.entries) 0 ≡ sum f (piece_entries p)) t.pages no_page (λ p l. sym (sum-cond f (leaf (page t p)) (page t p).entries)))
  all_under f (suc l) lh =
      children l lh (under f t.pages l) ∙ all_under f l (omega arith)

  -- the root alone is at its level
  pub top_one : (q : ℕ) → q < k → q ≢ t.root → (page t q).level ≢ h
  top_one q ql n z =
      let a : others t h ≡ 0 = none_above t F (4 - h) h (omega (arith, F.levels t.root F.top)) (omega arith) in
      let b : other t h q ≡ 1 = rw (ne_eqb q t.root n, eq-eqb (page t q).level h z) in
      omega (arith, a, b, below_at k (other t h) q ql)

  -- so the sum over its level is its own weight
  pub root-level : (G : ℕ → ℕ) → G t.root ≡ at_level h G
  root-level G =
      sym (below_one k t.root G F.top)
      ∙ below-same k _ (λ q. cond (eqb (page t q).level h) (G q) 0) (λ q ql. ap (λ b. cond b (G q) 0) (go q ql (ℕ_discrete q t.root)))
    where
      go : (q : ℕ) → q < k → Dec (q ≡ t.root) → eqb q t.root ≡ eqb (page t q).level h
      go q ql (yes z) = eq-eqb q t.root z ∙ sym (eq-eqb (page t q).level h (ap (λ x. (page t x).level) z))
      go q ql (no z) = ne_eqb q t.root z ∙ sym (ne_eqb (page t q).level h (top_one q ql z))

  -- what is under the root is all there is
  pub under-root : (f : Entry → ℕ) → under f t.pages h t.root ≡ leaves f t.pages
  under-root f = root-level (under f t.pages h) ∙ all_under f h (omega arith)

-- one rectangle lies in another
pub record Within (r s : Rect) : Type 0 where
  pub left : s.x1 ≤ r.x1
  pub right : r.x2 ≤ s.x2
  pub bottom : s.y1 ≤ r.y1
  pub head : r.y2 ≤ s.y2

within-self : (r : Rect) → Within r r
within-self r = omega arith

within-trans : (a b c : Rect) → Within a b → Within b c → Within a c
within-trans a b c p q = omega arith

within-left : (a b : Rect) → Within a (widen a b)
unfolding widen
within-left a b = omega arith

within-right : (a b : Rect) → Within b (widen a b)
unfolding widen
within-right a b = omega arith

widen-first : (r : Rect) (es : List Entry) → Within r (widen_all r es)
unfolding widen_all
widen-first r [] = within-self r
widen-first r (e ∷ es) = within-trans _ _ _ (within-left r e.rect) (widen-first (widen r e.rect) es)

widen-each : (r : Rect) (es : List Entry) → Every (λ e. Within e.rect (widen_all r es)) es
unfolding widen_all
widen-each r [] = tt
widen-each r (e ∷ es) = (within-trans _ _ _ (within-right r e.rect) (widen-first (widen r e.rect) es), widen-each (widen r e.rect) es)

pub bounds-each : (es : List Entry) → Every (λ e. Within e.rect (bounds es)) es
unfolding bounds
bounds-each [] = tt
bounds-each (e ∷ es) = (widen-first e.rect es, widen-each e.rect es)

-- what is wanted, and where it may lie
module _ (t : Table) (F : Facts t) (admit opens : Rect → Bool) (reaches : (r s : Rect) → T (valid r) → Within r s → T (admit r) → T (opens s))
    (f : Entry → ℕ) (wanted : (x : Entry) → (T (admit x.rect) → ⊥) → f x ≡ 0) where
  hidden : (l q : ℕ) (s : Rect) → q < length t.pages → (page t q).level ≡ l → (T (opens s) → ⊥) → Within (bounds (page t q).entries) s → under f t.pages l q ≡ 0
  unfolding under
  hidden zero q s ql lv no-s w = sum-nothing f (page t q).entries
      (every-both (λ x. Within x.rect (bounds (page t q).entries)) (λ x. T (valid x.rect)) (λ x. f x ≡ 0)
      (λ x a v. wanted x (λ ad. no-s (reaches x.rect s v (within-trans _ _ _ a w) ad))) (page t q).entries (bounds-each (page t q).entries)
      (rw (leaf-pieces (page t q) lv) at (F.valids q ql)))
  hidden (suc l) q s ql lv no-s w = sum-nothing (λ e. under f t.pages l e.r) (page t q).entries
      (every-both (λ x. Within x.rect (bounds (page t q).entries)) (Fits t.pages (suc l)) (λ e. under f t.pages l e.r ≡ 0)
      (λ x a g. hidden l x.r s g.inside (omega (arith, g.lower)) no-s (rw (← g.exact) (within-trans _ _ _ a w)))
      (page t q).entries (bounds-each (page t q).entries) (fits-above t F l q ql lv))

  misses-none : (l q : ℕ) → q < length t.pages → (page t q).level ≡ l → walked opens f t.pages l q ≡ under f t.pages l q
  unfolding walked under
  misses-none zero q ql lv = refl
  misses-none (suc l) q ql lv = sum_same (λ e. cond (opens e.rect) (walked opens f t.pages l e.r) 0) (λ e. under f t.pages l e.r) (page t q).entries
      (every_map (Fits t.pages (suc l)) _
      (λ x g. go x g (opens x.rect) refl (misses-none l x.r g.inside (omega (arith, g.lower)))) (page t q).entries (fits-above t F l q ql lv))
    where
      go : (x : Entry) → Fits t.pages (suc l) x → (b : Bool) → opens x.rect ≡ b → walked opens f t.pages l x.r ≡ under f t.pages l x.r
          → cond b (walked opens f t.pages l x.r) 0 ≡ under f t.pages l x.r
      go x g true e r = r
      go x g false e r = sym (hidden l x.r x.rect g.inside (omega (arith, g.lower)) (λ z. rw e at z) (rw (← g.exact) (within-self x.rect)))

  -- the walk finds what is wanted, each one time
  pub walk-finds : walked opens f t.pages (page t t.root).level t.root ≡ leaves f t.pages
  walk-finds = misses-none (page t t.root).level t.root F.top refl ∙ under-root t F f
