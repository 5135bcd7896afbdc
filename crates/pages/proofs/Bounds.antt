-- The bounds of one entry more, and of a page's first entries.
use Prim.Native.Nat.{ℕ, zero, suc, ◌<◌}
use native.Mathlib.Omega.{arith}
use native.Mathlib.Nat.{not-suc-le-zero}
use mathlib.Core.Path.{◌≡◌, refl, sym, ap, ◌∙◌}
use mathlib.Core.List.{List, [], ◌∷◌, ◌++◌}
use Rattle.std.specs.List.{fold}
use lib.ListN.{length, length-append}
use Rattle.pages.specs.declared.Rect.{Rect}
use Rattle.pages.specs.declared.Entry.{Entry}
use Rattle.pages.specs.Rectangles.{rect_of, widen, widen_all, bounds}
use Rattle.pages.specs.Readers.{entry_in, entries_in}

pub widen-last : (r : Rect) (es : List Entry) (e : Entry) → widen_all r (es ++ (e ∷ [])) ≡ widen (widen_all r es) e.rect
unfolding widen_all
widen-last r [] e = refl
widen-last r (x ∷ es) e = widen-last (widen r x.rect) es e

widen_fold : (r : Rect) (es : List Entry) → widen_all r es ≡ fold (λ b e. widen b e.rect) r es
unfolding widen_all
widen_fold r [] = refl
widen_fold r (e ∷ es) = widen_fold (widen r e.rect) es

pub bounds_none : (es : List Entry) → es ≡ [] → rect_of 0 0 0 0 ≡ bounds es
unfolding bounds
bounds_none es h = sym (ap bounds h)

pub bounds-folded : (es rest : List Entry) (e : Entry) → es ≡ e ∷ rest → fold (λ b x. widen b x.rect) e.rect rest ≡ bounds es
unfolding bounds
bounds-folded es rest e h = sym (ap bounds h ∙ widen_fold e.rect rest)

pub bounds-last : (es : List Entry) (e : Entry) → 0 < length es → bounds (es ++ (e ∷ [])) ≡ widen (bounds es) e.rect
unfolding bounds
bounds-last [] e h = absurd (not-suc-le-zero h)
bounds-last (x ∷ es) e h = widen-last x.rect es e

pub length-entries : (w : List ℕ) (n : ℕ) → length (entries_in w n) ≡ n
unfolding entries_in
length-entries w zero = refl
length-entries w (suc n) = omega (arith, length-append (entries_in w n) (entry_in w n ∷ []), length-entries w n)
