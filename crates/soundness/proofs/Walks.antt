-- The children of a page, one before the others.
use Prim.Native.Nat.{ℕ, zero, suc, ◌-◌, ◌≤◌}
use native.Mathlib.Omega.{arith}
use native.Mathlib.Numerals.{sub-one}
use mathlib.Core.Path.{◌≡◌, refl, sym, ap, subst, ◌∙◌}
use mathlib.Core.Bool.{Bool, true, false, ◌&&◌, not}
use Rattle.std.specs.Prelude.{Option, Some, None}
use mathlib.Core.List.{List, [], ◌∷◌}
use lib.Dec.{T, eqb}
use borrow.Author.Tests.{not-true, not-false}
use Rattle.pages.specs.Under.{under, seen}
use Rattle.pages.specs.declared.Rect.{Rect}
use Rattle.pages.specs.declared.Entry.{Entry}
use Rattle.pages.specs.Sizes.{PIECES, PAGES, FEWEST}
use Rattle.pages.specs.Lists.{one, sum, Every}
use Rattle.pages.specs.Rectangles.{same_rect, bounds}
use Rattle.pages.specs.Layout.{page, table_in}
use Rattle.pages.proofs.Lists.{not-both, true-T, false-T}
use Rattle.pages.proofs.Facts.{same-rect, rect-same}
use Rattle.pages.proofs.Rectangles.{equal_rects}
use Rattle.soundness.specs.Steps.{Adds, Room, visits, stores, Head, Tree, Tested, LeafTested, Visited}
use Rattle.soundness.proofs.Marks.{adds_none, adds-more, room-left}

-- what is asked of an entry above the leaves
abbrev pub Child : List ℕ → ℕ → Entry → Type 0
Child w l e = Tree w l FEWEST e.r × (e.rect ≡ bounds (page (table_in w) e.r).entries)

pub tree-head : (w : List ℕ) (l m p : ℕ) → Tree w l m p → Head w l m p
unfolding Tree
tree-head w zero m p t = t.0
tree-head w (suc l) m p t = t.0

-- the walk over the entries of a page above the leaves, one before the others: the marks before and after it
pub record Below (w : List ℕ) (l : ℕ) (es : List Entry) (h g : List Bool) (r : Bool) (h' g' : List Bool) : Type 0 where
  pub yes : r ≡ true → Every (Child w l) es × Adds PAGES h h' (λ q. sum (λ e. visits w l e.r q) es) × Adds PIECES g g' (λ c. sum (λ e. stores w l e.r c) es)
  pub no : r ≡ false → Every (Child w l) es → Room PAGES h (λ q. sum (λ e. visits w l e.r q) es) → Room PIECES g (λ c. sum (λ e. stores w l e.r c) es) → ⊥

pub below_none : {w : List ℕ} {l : ℕ} {xs : List Entry} {h g : List Bool} → xs ≡ [] → Below w l xs h g true h g
below_none {h = h} {g = g} e = rw e (record { yes = λ _. (tt, adds_none PAGES h, adds_none PIECES g); no = λ f _ _ _. not-both true refl f })

-- the first entry: its child is not good, has other bounds than the entry, or is good; u is the table as the walk has it
module _ {w u : List ℕ} {l : ℕ} {e : Entry} {es xs : List Entry} (same : u ≡ w) (is_first : xs ≡ e ∷ es) where
  here : (h g : List Bool) (r : Bool) (h' g' : List Bool) → Below w l (e ∷ es) h g r h' g' → Below w l xs h g r h' g'
  here h g r h' g' = subst (λ k. Below w l k h g r h' g') (sym is_first)

  there : (h g : List Bool) (v : Option Rect) (h' g' : List Bool) → Visited u l FEWEST e.r h g v h' g' → Visited w l FEWEST e.r h g v h' g'
  there h g v h' g' = subst (λ t. Visited t l FEWEST e.r h g v h' g') same

  pub below_stop : {h g h₁ g₁ : List Bool} → Visited u l FEWEST e.r h g None h₁ g₁ → Below w l xs h g false h₁ g₁
  below_stop {h} {g} {h₁} {g₁} y =
      let x = there h g None h₁ g₁ y in here h g false h₁ g₁ (record {
        yes = λ t. absurd (not-both false t refl);
        no = λ _ cs rh rg. x.no refl cs.0.0 (λ q k. omega (arith, rh q k)) (λ c k. omega (arith, rg c k));
      })

  pub below_other : {b : Rect} {h g h₁ g₁ : List Bool} → Visited u l FEWEST e.r h g (Some b) h₁ g₁ → (b ≡ e.rect → ⊥) → Below w l xs h g false h₁ g₁
  below_other {b} {h} {g} {h₁} {g₁} y n =
      let x = there h g (Some b) h₁ g₁ y in here h g false h₁ g₁ (record {
        yes = λ t. absurd (not-both false t refl);
        no = λ _ cs _ _. n (x.exact ∙ sym cs.0.1);
      })

  pub below_go : {b : Rect} {h g h₁ g₁ h' g' : List Bool} {r : Bool} → Visited u l FEWEST e.r h g (Some b) h₁ g₁ → b ≡ e.rect → Below w l es h₁ g₁ r h' g' → Below w l xs h g r h' g'
  below_go {b} {h} {g} {h₁} {g₁} {h'} {g'} {r} y s t =
      let x = there h g (Some b) h₁ g₁ y in
      let a = x.yes refl in here h g r h' g' (record {
        yes = λ v. (
          ((a.0, sym s ∙ x.exact), (t.yes v).0),
          adds-more PAGES h h₁ h' (visits w l e.r) (λ q. sum (λ k. visits w l k.r q) es) (λ q. sum (λ k. visits w l k.r q) (e ∷ es)) a.1 (t.yes v).1 (λ q. refl),
          adds-more PIECES g g₁ g' (stores w l e.r) (λ c. sum (λ k. stores w l k.r c) es) (λ c. sum (λ k. stores w l k.r c) (e ∷ es)) a.2 (t.yes v).2 (λ c. refl),
        );
        no = λ v cs rh rg. t.no v cs.1
            (room-left PAGES h h₁ (visits w l e.r) (λ q. sum (λ k. visits w l k.r q) es) (λ q. sum (λ k. visits w l k.r q) (e ∷ es)) a.1 (λ q. omega arith) rh)
            (room-left PIECES g g₁ (stores w l e.r) (λ c. sum (λ k. stores w l k.r c) es) (λ c. sum (λ k. stores w l k.r c) (e ∷ es)) a.2 (λ c. omega arith) rg);
      })

-- `!=` of rectangles
unequal : (a b : Rect) → not (eqb a.x1 b.x1 && (eqb a.y1 b.y1 && (eqb a.x2 b.x2 && eqb a.y2 b.y2))) ≡ not (same_rect a b)
unequal a b = ap not (equal_rects a b)

module _ {a b : Rect} {t : Bool} (e : t ≡ not (eqb a.x1 b.x1 && (eqb a.y1 b.y1 && (eqb a.x2 b.x2 && eqb a.y2 b.y2)))) where
  pub alike : t ≡ false → a ≡ b
  alike f = same-rect a b (true-T _ (not-false _ (sym (unequal a b) ∙ (sym e ∙ f))))

  pub differ : t ≡ true → a ≡ b → ⊥
  differ f d = false-T _ (not-true _ (sym (unequal a b) ∙ (sym e ∙ f))) (subst (λ x. T (same_rect a x)) d (rect-same a))

-- a page is visited where the walk begins
self : (w : List ℕ) (l p q : ℕ) → one (eqb p q) ≤ visits w l p q
unfolding seen
self w zero p q = omega arith
self w (suc l) p q = omega arith

pub walk-not : {w : List ℕ} {l m p : ℕ} {h h₁ g g₁ : List Bool} → g₁ ≡ g → Tested PAGES (Head w l m p) (λ q. one (eqb p q)) h false h₁ → Visited w l m p h g None h₁ g₁
walk-not {w} {l} {m} {p} e x = record {
  yes = λ z. absurd (not-both false z refl);
  no = λ _ t rh _. x.no refl (tree-head w l m p t) (λ q k. omega (arith, rh q k, self w l p q));
  exact = tt;
}

-- the walk below page p, whose own tests are passed, by the entries that its words have
module _ (w : List ℕ) (m p : ℕ) (h h₁ g : List Bool) (es : List Entry) (ent : (page (table_in w) p).entries ≡ es) where
  leaf-at : (v : Option Rect) (g' : List Bool) → Tested PAGES (Head w 0 m p) (λ q. one (eqb p q)) h true h₁ → LeafTested es g v g' → Visited w 0 m p h g v h₁ g'
  unfolding Tree seen under
  leaf-at v g' x y =
      let f = subst (λ k. LeafTested k g v g') (sym ent) y in record {
        yes = λ u. (((x.yes refl).0, (f.tested.yes u).0), (x.yes refl).1, (f.tested.yes u).1);
        no = λ u t _ rg. f.tested.no u t.1 rg;
        exact = f.exact;
      }

  module _ (l : ℕ) (h' g' : List Bool) (x : Tested PAGES (Head w (suc l) m p) (λ q. one (eqb p q)) h true h₁) where
    -- how often page q is visited below
    abbrev below : ℕ → ℕ
    below q = sum (λ e. visits w l e.r q) (page (table_in w) p).entries

    good-at : (b : Rect) → b ≡ bounds es → Below w l es h₁ g true h' g' → Visited w (suc l) m p h g (Some b) h' g'
    unfolding Tree seen under
    good-at b z y =
        let k = (subst (λ k. Below w l k h₁ g true h' g') (sym ent) y).yes refl in record {
          yes = λ _. (((x.yes refl).0, k.0), adds-more PAGES h h₁ h' (λ q. one (eqb p q)) below (visits w (suc l) p) (x.yes refl).1 k.1 (λ q. refl), k.2);
          no = λ f _ _ _. not-both true refl f;
          exact = z ∙ ap bounds (sym ent);
        }

    bad-at : Below w l es h₁ g false h' g' → Visited w (suc l) m p h g None h' g'
    unfolding Tree seen under
    bad-at y =
        let k = subst (λ k. Below w l k h₁ g false h' g') (sym ent) y in record {
          yes = λ t. absurd (not-both false t refl);
          no = λ _ t rh rg. k.no refl t.1 (room-left PAGES h h₁ (λ q. one (eqb p q)) below (visits w (suc l) p) (x.yes refl).1 (λ q. omega arith) rh) rg;
          exact = tt;
        }

-- the same with the level above 0 itself
up : (l : ℕ) → (l ≡ 0 → ⊥) → suc (l - 1) ≡ l
up zero f = absurd (f refl)
up (suc l) f = rw sub-one

-- the same by the entries that the page's own tests gave; the marks are those after these tests
module _ {w : List ℕ} {l m p : ℕ} {h h₁ g g₁ : List Bool} {es : List Entry}
    (x : Tested PAGES (Head w l m p) (λ q. one (eqb p q)) h true h₁) (same : g₁ ≡ g) (items : es ≡ (page (table_in w) p).entries) where
  from : (v : Option Rect) (h' g' : List Bool) → Visited w l m p h g₁ v h' g' → Visited w l m p h g v h' g'
  from v h' g' = subst (λ y. Visited w l m p h y v h' g') same

  pub walk-leaf : l ≡ 0 → {v : Option Rect} {g' : List Bool} → LeafTested es g₁ v g' → Visited w l m p h g v h₁ g'
  walk-leaf z {v} {g'} y =
      from v h₁ g' (subst (λ d. Tested PAGES (Head w d m p) (λ q. one (eqb p q)) h true h₁ → Visited w d m p h g₁ v h₁ g') (sym z) (λ t. leaf-at w m p h h₁ g₁ es (sym items) v g' t y) x)

  module _ (above : l ≡ 0 → ⊥) where
    entered : Tested PAGES (Head w (suc (l - 1)) m p) (λ q. one (eqb p q)) h true h₁
    entered = subst (λ d. Tested PAGES (Head w d m p) (λ q. one (eqb p q)) h true h₁) (sym (up l above)) x

    pub walk-good : {h' g' : List Bool} {b : Rect} → b ≡ bounds es → Below w (l - 1) es h₁ g₁ true h' g' → Visited w l m p h g (Some b) h' g'
    walk-good {h'} {g'} {b} z y = from (Some b) h' g' (subst (λ d. Visited w d m p h g₁ (Some b) h' g') (up l above) (good-at w m p h h₁ g₁ es (sym items) (l - 1) h' g' entered b z y))

    pub walk-bad : {h' g' : List Bool} → Below w (l - 1) es h₁ g₁ false h' g' → Visited w l m p h g None h' g'
    walk-bad {h'} {g'} y = from None h' g' (subst (λ d. Visited w d m p h g₁ None h' g') (up l above) (bad-at w m p h h₁ g₁ es (sym items) (l - 1) h' g' entered y))
