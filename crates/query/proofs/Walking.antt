-- A walk over a page's entries, one entry more at a time; a page above the leaves and a leaf.
use Prim.Native.Nat.{ℕ, zero, suc, ◌+◌, ◌-◌, ◌≤◌}
use native.Mathlib.Omega.{arith}
use native.Mathlib.Nat.{add-zero}
use native.Mathlib.Numerals.{sub-one, add-one}
use mathlib.Core.Path.{◌≡◌, refl, sym, ap, ◌∙◌}
use mathlib.Core.Logic.{◌≢◌}
use mathlib.Core.Bool.{Bool, true, false, cond}
use mathlib.Core.List.{List, [], ◌∷◌, ◌++◌}
use lib.ListN.{length, set}
use lib.Seq.{sets}
use borrow.Author.Tests.{ne_eqb}
use Rattle.pages.specs.Lists.{concat_map}
use Rattle.pages.specs.declared.Rect.{Rect}
use Rattle.pages.specs.declared.Entry.{Entry}
use Rattle.pages.specs.Layout.{Page, Table, page_at, page}
use Rattle.pages.proofs.Entries.{leaf-pieces}
use Rattle.query.specs.Opening.{opened_under}
use Rattle.query.specs.Steps.{admitted_r, hits_on}
use Rattle.query.specs.Marks.{marked}
use Rattle.query.specs.Visits.{VisitsAll}
use Rattle.query.proofs.Concat.{marked_append}

-- the admitted pieces on a leaf and above
module _ (admit : Rect → Bool) (t : Table) (p : ℕ) where
  pub hits-leaf : (page t p).level ≡ 0 → hits_on admit t p ≡ concat_map (admitted_r admit) (page t p).entries
  unfolding hits_on
  hits-leaf z = ap (concat_map (admitted_r admit)) (leaf-pieces (page t p) z)

  pub hits-above : (page t p).level ≢ 0 → hits_on admit t p ≡ []
  unfolding hits_on
  hits-above n = ap (λ b. concat_map (admitted_r admit) (cond b (page t p).entries [])) (ne_eqb (page t p).level 0 n)

-- visits one after the other
module _ {V : Type 0} (R : V → ℕ → ℕ → V → Type 0) where
  pub visit_one : (u v : V) (n p : ℕ) → R u n p v → VisitsAll R u n (p ∷ []) v
  unfolding VisitsAll
  visit_one u v n p r = (v, r, refl)

  pub visit-first : (ps : List ℕ) (u v w : V) (n p : ℕ) → R u n p v → VisitsAll R v (n + 1) ps w → VisitsAll R u n (p ∷ ps) w
  unfolding VisitsAll
  visit-first ps u v w n p r a = (v, r, rw add-one at a)

  pub visit_none : (u v : V) (n : ℕ) → v ≡ u → VisitsAll R u n [] v
  unfolding VisitsAll
  visit_none u v n e = e

  pub VisitsAll-append : (ps qs : List ℕ) (u v w : V) (n : ℕ) → VisitsAll R u n ps v → VisitsAll R v (n + length ps) qs w → VisitsAll R u n (ps ++ qs) w
  unfolding VisitsAll
  VisitsAll-append [] qs u v w n a b = rw (a, add-zero n) at b
  VisitsAll-append (p ∷ ps) qs u v w n a b =
      let e : n + suc (length ps) ≡ suc n + length ps = omega arith in
      (a.0, a.1, VisitsAll-append ps qs a.0 v w (suc n) a.2 (rw e at b))

-- pieces marked page by page, numbers written one after the other
pub pieces-marked : (admit : Rect → Bool) (t : Table) (ps : List ℕ) (u v : List ℕ) (n : ℕ)
    → VisitsAll (λ x k p y. y ≡ marked x (hits_on admit t p)) u n ps v → v ≡ marked u (concat_map (hits_on admit t) ps)
unfolding VisitsAll marked
pieces-marked admit t [] u v n a = a
pieces-marked admit t (p ∷ ps) u v n a =
    pieces-marked admit t ps a.0 v (suc n) a.2 ∙ (ap (λ m. marked m (concat_map (hits_on admit t) ps)) a.1 ∙ sym (marked_append u (hits_on admit t p) (concat_map (hits_on admit t) ps)))

module _ {V : Type 0} (words : V → List ℕ) (name : V → ℕ) where
  abbrev pub WritesNumber : V → ℕ → ℕ → V → Type 0
  WritesNumber u n p v = (name v ≡ name u) × (words v ≡ set (words u) n p)

  pub numbers-written : (ps : List ℕ) (u v : V) (n : ℕ) → VisitsAll WritesNumber u n ps v → (name v ≡ name u) × (words v ≡ sets (words u) n ps)
  unfolding VisitsAll
  numbers-written [] u v n a = (ap name a, ap words a)
  numbers-written (p ∷ ps) u v n a =
      let r = numbers-written ps a.0 v (suc n) a.2 in
      (r.0 ∙ a.1.0, r.1 ∙ ap (λ o. sets o (suc n) ps) a.1.1)

module _ (opens : Rect → Bool) (ps : List Page) where
  -- the pages that an entry above the leaves opens
  abbrev pub open_each : ℕ → Entry → List ℕ
  open_each l e = cond (opens e.rect) (opened_under opens ps l e.r) []

  pub opened-leaf : (l p : ℕ) → l ≡ 0 → opened_under opens ps l p ≡ p ∷ []
  unfolding opened_under
  opened-leaf l p z = rw z

  pub opened-above : (l p : ℕ) → l ≢ 0 → opened_under opens ps l p ≡ p ∷ concat_map (open_each (l - 1)) (page_at ps p).entries
  unfolding opened_under
  opened-above zero p z = absurd (z refl)
  opened-above (suc l) p z = rw sub-one

  pub opened_one : (l p : ℕ) → 1 ≤ length (opened_under opens ps l p)
  unfolding opened_under
  opened_one zero p = omega arith
  opened_one (suc l) p = omega arith

  -- an entry is opened, or passed over, and what is left after it
  module _ (l : ℕ) (es rest : List Entry) (e : Entry) (s : es ≡ e ∷ rest) where
    pub open-step : opens e.rect ≡ true → concat_map (open_each l) es ≡ opened_under opens ps l e.r ++ concat_map (open_each l) rest
    open-step y = ap (concat_map (open_each l)) s ∙ ap (λ b. cond b (opened_under opens ps l e.r) [] ++ concat_map (open_each l) rest) y

    pub shut-step : opens e.rect ≡ false → concat_map (open_each l) es ≡ concat_map (open_each l) rest
    shut-step y = ap (concat_map (open_each l)) s ∙ ap (λ b. cond b (opened_under opens ps l e.r) [] ++ concat_map (open_each l) rest) y
