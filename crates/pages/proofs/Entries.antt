-- An entry above the leaves and its child, the entries in the leaves.
use Prim.Native.Nat.{ℕ, suc, ◌≤◌, ◌<◌}
use native.Mathlib.Omega.{arith}
use mathlib.Core.Path.{◌≡◌, refl, sym, ap, ◌∙◌}
use mathlib.Core.List.{List, []}
use mathlib.Core.Logic.{◌≢◌}
use mathlib.Core.Bool.{cond}
use lib.ListN.{length}
use borrow.Author.Tests.{eq-eqb, ne_eqb}
use Rattle.pages.specs.declared.Entry.{Entry}
use Rattle.pages.specs.Lists.{sum, Every}
use Rattle.pages.specs.Rectangles.{bounds}
use Rattle.pages.specs.Layout.{Page, Table, no_page, page_at, page}
use Rattle.pages.specs.Sound.{child_entries, piece_entries, is}
use Rattle.pages.proofs.Lists.{at_every, every_map, every-both, sum-at, sum_same, sum-zero, sum-length}
use Rattle.pages.proofs.Facts.{Facts}

pub record Fits (ps : List Page) (l : ℕ) (e : Entry) : Type 0 where
  pub inside : e.r < length ps
  pub lower : l ≡ suc (page_at ps e.r).level
  pub exact : e.rect ≡ bounds (page_at ps e.r).entries

-- the same of a list of pages in which its child is the same
pub refit : (ps qs : List Page) (l : ℕ) (e : Entry) → length ps ≤ length qs → page_at qs e.r ≡ page_at ps e.r → Fits ps l e → Fits qs l e
refit ps qs l e k s f = record {
  inside = omega (arith, f.inside);
  lower = f.lower ∙ ap (λ x. suc x.level) (sym s);
  exact = f.exact ∙ ap (λ x. bounds x.entries) (sym s);
}

-- whether q is the r of an entry
pub is-not : (q : ℕ) (e : Entry) → e.r ≢ q → is q e ≡ 0
is-not q e n = rw (ne_eqb e.r q n)

pub is_none : (q : ℕ) (e : Entry) → is q e ≡ 0 → e.r ≢ q
is_none q e h r =
    let a : is q e ≡ 1 = rw (eq-eqb e.r q r) in
    omega (arith, a, h)

pub unnamed : (q : ℕ) (es : List Entry) → sum (is q) es ≡ 0 → Every (λ x. x.r ≢ q) es
unnamed q es h = every_map (λ x. is q x ≡ 0) (λ x. x.r ≢ q) (is_none q) es (sum-zero (is q) es h)

-- how many entries above the leaves name q
abbrev pub names : List Page → ℕ → ℕ
names ps q = sum (λ p. sum (is q) (child_entries p)) ps

abbrev pub leaves : (Entry → ℕ) → List Page → ℕ
leaves f ps = sum (λ p. sum f (piece_entries p)) ps

pub leaf-children : (p : Page) → p.level ≡ 0 → child_entries p ≡ []
leaf-children p e = rw (eq-eqb p.level 0 e)

pub leaf-pieces : (p : Page) → p.level ≡ 0 → piece_entries p ≡ p.entries
leaf-pieces p e = rw (eq-eqb p.level 0 e)

pub above-children : (p : Page) (l : ℕ) → p.level ≡ suc l → child_entries p ≡ p.entries
above-children p l e = rw (ne_eqb p.level 0 (omega arith))

pub above-pieces : (p : Page) (l : ℕ) → p.level ≡ suc l → piece_entries p ≡ []
above-pieces p l e = rw (ne_eqb p.level 0 (omega arith))

module _ (t : Table) (F : Facts t) where
  pub fits_all : (q : ℕ) → q < length t.pages → Every (Fits t.pages (page_at t.pages q).level) (child_entries (page_at t.pages q))
  fits_all q l =
      let P : Entry → Type 0 = λ x. (page t q).level ≡ suc (page t x.r).level in
      let Q : Entry → Type 0 = λ x. x.r < length t.pages in
      let R : Entry → Type 0 = λ x. x.rect ≡ bounds (page t x.r).entries in
      every-both (λ x. P x × Q x) R (Fits t.pages (page_at t.pages q).level) (λ x a b. record { inside = a.1; lower = a.0; exact = b }) (child_entries (page_at t.pages q))
      (every-both P Q (λ x. P x × Q x) (λ x a b. (a, b)) (child_entries (page_at t.pages q)) (F.lower q l) (F.inside q l)) (F.exact q l)

  -- of a page above the leaves, all its entries
  pub fits-above : (l q : ℕ) → q < length t.pages → (page t q).level ≡ suc l → Every (Fits t.pages (suc l)) (page t q).entries
  fits-above l q ql lv = rw (← above-children (page t q) l lv, ← lv) (fits_all q ql)

  -- nothing names the root
  pub root-free : (p : ℕ) → p < length t.pages → Every (λ x. x.r ≢ t.root) (child_entries (page t p))
  root-free p l =
      let z : names t.pages t.root ≡ 0 = F.once t.root F.top ∙ ap (λ b. cond b 0 1) (eq-eqb t.root t.root refl) in
      unnamed t.root (child_entries (page t p)) (omega (arith, z, sum-at (λ x. sum (is t.root) (child_entries x)) t.pages p no_page l))

pub pieces-leaves : (ps : List Page) → sum (λ p. length (piece_entries p)) ps ≡ leaves (λ x. 1) ps
pieces-leaves ps =
    sum_same (λ p. length (piece_entries p)) (λ p. sum (λ x. 1) (piece_entries p)) ps
    (at_every (λ p. length (piece_entries p) ≡ sum (λ x. 1) (piece_entries p)) ps no_page (λ i k. sym (sum-length (piece_entries (page_at ps i)))))
