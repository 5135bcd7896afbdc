-- No edge on a page of a sound table exceeds 1,000,000: pieces are valid, and bounds reach no further than what they bound.
use Prim.Native.Nat.{ℕ, zero, suc, ◌<◌}
use native.Mathlib.Omega.{arith}
use mathlib.Core.Path.{◌≡◌}
use mathlib.Core.List.{List, [], ◌∷◌}
use lib.ListN.{length}
use lib.Dec.{T}
use Rattle.pages.specs.declared.Rect.{Rect}
use Rattle.pages.specs.declared.Entry.{Entry}
use Rattle.pages.specs.Lists.{Every}
use Rattle.pages.specs.Rectangles.{valid, Small, widen, widen_all, bounds}
use Rattle.pages.specs.Layout.{Table, page}
use Rattle.pages.proofs.Lists.{every_map}
use Rattle.pages.proofs.Valid.{small}
use Rattle.pages.proofs.Facts.{Facts}
use Rattle.pages.proofs.Entries.{Fits, leaf-pieces, fits-above}

widen-small : (a b : Rect) → Small a → Small b → Small (widen a b)
unfolding widen
widen-small a b s t = record {
  x-start = omega (arith, s.x-start);
  y-start = omega (arith, s.y-start);
  x-end = omega (arith, s.x-end, t.x-end);
  y-end = omega (arith, s.y-end, t.y-end);
}

widen-all : (r : Rect) (es : List Entry) → Small r → Every (λ e. Small e.rect) es → Small (widen_all r es)
unfolding widen_all
widen-all r [] s h = s
widen-all r (e ∷ es) s h = widen-all (widen r e.rect) es (widen-small r e.rect s h.0) h.1

bounds-small : (es : List Entry) → Every (λ e. Small e.rect) es → Small (bounds es)
unfolding bounds
bounds-small [] h = record { x-start = omega arith; y-start = omega arith; x-end = omega arith; y-end = omega arith }
bounds-small (e ∷ es) h = widen-all e.rect es h.0 h.1

pub entries-small : (t : Table) → Facts t → (l q : ℕ) → q < length t.pages → (page t q).level ≡ l → Every (λ e. Small e.rect) (page t q).entries
entries-small t F zero q ql lv =
    every_map (λ e. T (valid e.rect)) (λ e. Small e.rect) (λ e. small e.rect) (page t q).entries (rw (leaf-pieces (page t q) lv) at (F.valids q ql))
entries-small t F (suc l) q ql lv =
    every_map (Fits t.pages (suc l)) (λ e. Small e.rect) (λ e f. rw f.exact (bounds-small (page t e.r).entries (entries-small t F l e.r f.inside (omega (arith, f.lower))))) (page t q).entries
    (fits-above t F l q ql lv)
