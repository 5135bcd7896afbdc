-- The walk opens each page at most one time, and so at most k pages; the walk from the root.
use Prim.Native.Nat.{ℕ, zero, suc, ◌+◌, ◌≤◌, ◌<◌}
use native.Mathlib.Omega.{arith}
use mathlib.Core.Path.{◌≡◌, ap, ap₂, ◌∙◌}
use mathlib.Core.Bool.{Bool, cond}
use mathlib.Core.List.{List, []}
use lib.ListN.{length}
use lib.Dec.{T, eqb}
use Rattle.pages.specs.Under.{seen}
use Rattle.pages.specs.declared.Rect.{Rect}
use Rattle.pages.specs.Sizes.{TABLE_WORDS, PAGES}
use Rattle.pages.specs.Lists.{one, sum, times}
use Rattle.pages.specs.Layout.{Page, Table, page_at, page, table_in}
use Rattle.pages.specs.Sound.{sound}
use Rattle.pages.proofs.Lists.{sum-le, sum-length, sum-cond, sum-concat, every_one}
use Rattle.pages.proofs.Below.{below-const, cond-le}
use Rattle.pages.proofs.Facts.{Facts}
use Rattle.pages.proofs.Whole.{sound-in}
use Rattle.pages.proofs.Visit.{seen-root, seen-once}
use Rattle.query.specs.Opening.{opened_under, opened_pages}
use Rattle.query.specs.Steps.{SoundPage}
use Rattle.query.proofs.Reading.{own-page}

opened-seen : (o : Rect → Bool) (g : ℕ → ℕ) (ps : List Page) (l p : ℕ) → sum g (opened_under o ps l p) ≤ seen g ps l p
unfolding opened_under seen
opened-seen o g ps zero p = omega arith
opened-seen o g ps (suc l) p =
    let a = sum-concat g (λ e. cond (o e.rect) (opened_under o ps l e.r) []) (page_at ps p).entries in
    let b = sum-le (λ e. sum g (cond (o e.rect) (opened_under o ps l e.r) [])) (λ e. seen g ps l e.r) (page_at ps p).entries
    (every_one _ (λ e. omega (arith, sum-cond g (o e.rect) (opened_under o ps l e.r), cond-le (o e.rect) (sum g (opened_under o ps l e.r)), opened-seen o g ps l e.r)) (page_at ps p).entries) in
    omega (arith, a, b)

module _ (t : Table) (F : Facts t) (o : Rect → Bool) where
  pub opened-once : (q : ℕ) → q < length t.pages → times q (opened_pages o t) ≤ 1
  unfolding opened_pages
  opened-once q l = omega (arith, opened-seen o (λ x. one (eqb x q)) t.pages (page t t.root).level t.root, seen-once t F q l)

  pub opened-few : length (opened_pages o t) ≤ length t.pages
  unfolding opened_pages
  opened-few =
      omega (
        arith,
        sum-length (opened_under o t.pages (page t t.root).level t.root),
        opened-seen o (λ x. 1) t.pages (page t t.root).level t.root,
        seen-root t F (λ x. 1),
        below-const (length t.pages) 1,
      )

-- a page number and a level that are the root's
module _ (t : Table) (r l : ℕ) (root : r ≡ t.root) (level : l ≡ (page t r).level) where
  level-is : l ≡ (page t t.root).level
  level-is = level ∙ ap (λ x. (page t x).level) root

  pub opened-from : (o : Rect → Bool) → opened_under o t.pages l r ≡ opened_pages o t
  unfolding opened_pages
  opened-from o = ap₂ (opened_under o t.pages) level-is root

module _ (w : List ℕ) (words : TABLE_WORDS ≤ length w) (holds : T (sound w)) (r l : ℕ) (root : r ≡ (table_in w).root) where
  pub root-inside : r < length (table_in w).pages
  root-inside = omega (arith, root, (sound-in w holds).top)

  pub root-page : l ≡ (page (table_in w) r).level → SoundPage w r l
  root-page level = rw level (own-page w words holds r root-inside)

  -- the walk from the root opens at most k pages
  pub root-room : (o : Rect → Bool) → l ≡ (page (table_in w) r).level → 0 + length (opened_under o (table_in w).pages l r) ≤ length (table_in w).pages
  root-room o level = omega (arith, ap length (opened-from (table_in w) r l root level o), opened-few (table_in w) (sound-in w holds) o)

  pub root-few : (o : Rect → Bool) → l ≡ (page (table_in w) r).level → length (opened_under o (table_in w).pages l r) ≤ PAGES
  root-few o level = omega (arith, root-room o level, (sound-in w holds).most)
