-- Rectangles and entries.
use Rattle.std.specs.Prelude.{ℕ, ◌≤◌, min, max, Bool, List, [], ◌∷◌, leb, ltb, eqb}
use Rattle.pages.specs.declared.Rect.{Rect}
use Rattle.pages.specs.declared.Entry.{Entry}
use Rattle.pages.specs.Sizes.{EDGE}
use Rattle.pages.specs.Lists.{all_of}

abbrev pub rect_of : ℕ → ℕ → ℕ → ℕ → Rect
rect_of a b c d = record { x1 = a; y1 = b; x2 = c; y2 = d }

abbrev pub entry_of : Rect → ℕ → Entry
entry_of r n = record { rect = r; r = n }

-- "It is valid when x1 < x2, y1 < y2 and none exceeds 1,000,000"
unfoldable pub valid : Rect → Bool
valid r =
    all_of
    (ltb r.x1 r.x2
    ∷ ltb r.y1 r.y2
    ∷ leb r.x1 EDGE
    ∷ leb r.y1 EDGE
    ∷ leb r.x2 EDGE
    ∷ leb r.y2 EDGE
    ∷ [])

-- "none exceeds 1,000,000", of any rectangle
pub record Small (r : Rect) : Type 0 where
  pub x-start : r.x1 ≤ EDGE
  pub y-start : r.y1 ≤ EDGE
  pub x-end : r.x2 ≤ EDGE
  pub y-end : r.y2 ≤ EDGE

unfoldable pub same_rect : Rect → Rect → Bool
same_rect a b = all_of (eqb a.x1 b.x1 ∷ eqb a.y1 b.y1 ∷ eqb a.x2 b.x2 ∷ eqb a.y2 b.y2 ∷ [])

-- the smallest rectangle around both
unfoldable pub widen : Rect → Rect → Rect
widen a b = rect_of (min a.x1 b.x1) (min a.y1 b.y1) (max a.x2 b.x2) (max a.y2 b.y2)

unfoldable pub widen_all : Rect → List Entry → Rect
unfolding widen
widen_all r [] = r
widen_all r (e ∷ es) = widen_all (widen r e.rect) es

-- the bounding rectangle of entries; of none, zeros
unfoldable pub bounds : List Entry → Rect
unfolding widen_all
bounds [] = rect_of 0 0 0 0
bounds (e ∷ es) = widen_all e.rect es
