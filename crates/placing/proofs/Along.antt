-- The path leads from the root to a leaf, by one child at each level.
use Prim.Native.Nat.{ℕ, zero, suc, ◌+◌, ◌<◌}
use native.Mathlib.Omega.{arith}
use native.Mathlib.Nat.{le_of_suc-le-suc, not-suc-le-zero}
use mathlib.Core.Path.{◌≡◌, refl, ap}
use mathlib.Core.List.{List, [], ◌∷◌}
use lib.ListN.{length, get_or}
use Rattle.pages.specs.declared.Rect.{Rect}
use Rattle.pages.specs.Layout.{Page, Table, page_at, page}
use Rattle.pages.proofs.Facts.{Facts}
use Rattle.placing.specs.Place.{choose, path_from, path}
use Rattle.placing.specs.Claims.{Path}
use Rattle.placing.proofs.Fill.{choose-below}
use Rattle.placing.proofs.Keeps.{Before, child, child-in, child-level}
use Rattle.placing.proofs.Placed.{before}

-- of each page on the path, by its place, and of each with the next one
module _ (p : ℕ) (qs : List ℕ) where
  each : (Q : ℕ → ℕ → Type 0) → Q 0 p → ((i : ℕ) → i < length qs → Q (suc i) (get_or qs i 0)) → (i : ℕ) → i < length (p ∷ qs) → Q i (get_or (p ∷ qs) i 0)
  each Q a b zero h = a
  each Q a b (suc i) h = b i (le_of_suc-le-suc h)

  steps : (Q : ℕ → ℕ → Type 0) → Q p (get_or qs 0 0) → ((i : ℕ) → suc i < length qs → Q (get_or qs i 0) (get_or qs (suc i) 0))
      → (i : ℕ) → suc i < length (p ∷ qs) → Q (get_or (p ∷ qs) i 0) (get_or (p ∷ qs) (suc i) 0)
  steps Q a b zero h = a
  steps Q a b (suc i) h = b i (le_of_suc-le-suc h)

module _ (ps : List Page) (B : Before ps) (new : Rect) where
  abbrev goes : ℕ → ℕ
  goes p = choose new (page_at ps p).entries

  path-from : (l p : ℕ) → p < length ps → (page_at ps p).level ≡ l → Path ps new l p (path_from l p new ps)
  unfolding path_from
  path-from zero p pl lv = record {
    long = refl;
    first = refl;
    inside = each p [] (λ i x. x < length ps) pl (λ i h. absurd (not-suc-le-zero h));
    lower = each p [] (λ i x. (page_at ps x).level + i ≡ 0) (omega arith) (λ i h. absurd (not-suc-le-zero h));
    chosen = λ i h. absurd (not-suc-le-zero (le_of_suc-le-suc h));
    next = λ i h. absurd (not-suc-le-zero (le_of_suc-le-suc h));
  }
  path-from (suc l) p pl lv =
      let il : goes p < length (page_at ps p).entries = choose-below new (page_at ps p).entries (B.some p pl (omega arith)) in
      let q : ℕ = child ps p (goes p) in
      let qs : List ℕ = path_from l q new ps in
      let P : Path ps new l q qs = path-from l q (child-in ps B l p (goes p) pl lv il) (child-level ps B l p (goes p) pl lv il) in
      record {
        long = ap suc P.long;
        first = refl;
        inside = each p qs (λ i x. x < length ps) pl P.inside;
        lower = each p qs (λ i x. (page_at ps x).level + i ≡ suc l) (omega arith) (λ i h. omega (arith, P.lower i h));
        chosen = steps p qs (λ x y. goes x < length (page_at ps x).entries) il P.chosen;
        next = steps p qs (λ x y. y ≡ child ps x (goes x)) P.first P.next;
      }

pub path-along : (t : Table) → Facts t → (r : Rect) → Path t.pages r (page t t.root).level t.root (path t r)
path-along t F r = path-from t.pages (before t F) r (page t t.root).level t.root F.top refl
