-- A valid rectangle begins at its south-west corner and has a width and a height, so the laws of `outline` on such rectangles hold of it.
use Prim.Native.Nat.{ℕ, ◌+◌, ◌*◌, ◌-◌, ◌≤◌, ◌<◌}
use mathlib.Core.Path.{◌≡◌, ap, ap₂, subst, ◌∙◌}
use native.Mathlib.Omega.{arith}
use lib.Dec.{T}
use lib.IntN.{pos}
use Rattle.pages.specs.declared.Rect.{Rect}
use Rattle.pages.specs.Sizes.{EDGE}
use Rattle.pages.specs.Rectangles.{rect_of, valid}
use Rattle.placing.specs.Place.{area}
use Rattle.pages.proofs.Valid.{small}
use Rattle.query.proofs.Tests.{proper}
use Rattle.outline.specs.Place.{number_of}
use Rattle.outline.specs.Calls.{area_call, point_call}
use Rattle.outline.specs.Claims.{words_of, area_of, located_of, place_in}
use Rattle.outline.proofs.Figures.{rectangle-area}
use Rattle.outline.proofs.Rectangles.{rectangle-place}
use Rattle.finder_c.specs.Claims.{corners}

abbrev sized : ℕ → ℕ → ℕ → ℕ → Rect
sized x y w h = rect_of x y (x + w) (y + h)

module _ (x y w h : ℕ) (east : x + w ≤ EDGE) (north : y + h ≤ EDGE) where
  sized-area : area_call (corners (sized x y w h)) ≡ area_of 0 (pos (2 * area (sized x y w h)))
  unfolding words_of area
  sized-area =
      let sides : w * h ≡ (x + w - x) * (y + h - y) = ap₂ ◌*◌ (omega arith) (omega arith) in
      rectangle-area x y w h east north ∙ ap (λ (n : ℕ). area_of 0 (pos (2 * n))) sides

  sized-point : (px py : ℕ) → 0 < w → 0 < h → px ≤ EDGE → py ≤ EDGE
      → point_call (corners (sized x y w h)) px py ≡ located_of 0 (number_of (place_in x y (x + w) (y + h) px py))
  unfolding words_of
  sized-point px py wide high near-x near-y = rectangle-place x y w h px py wide high east north near-x near-y

-- a width and a height of a valid rectangle
record Sides (r : Rect) : Type 0 where
  w : ℕ
  h : ℕ
  wide : 0 < w
  high : 0 < h
  x2 : r.x1 + w ≡ r.x2
  y2 : r.y1 + h ≡ r.y2
  east : r.x1 + w ≤ EDGE
  north : r.y1 + h ≤ EDGE

sides : (r : Rect) → T (valid r) → Sides r
sides r v =
    let p = proper r v in
    let s = small r v in
    record {
      w = r.x2 - r.x1;
      h = r.y2 - r.y1;
      wide = omega arith;
      high = omega arith;
      x2 = omega arith;
      y2 = omega arith;
      east = omega arith;
      north = omega arith;
    }

as-sized : (r : Rect) (s : Sides r) (P : Rect → Type 0) → P (sized r.x1 r.y1 s.w s.h) → P r
as-sized r s P q = subst (λ (n : ℕ). P (rect_of r.x1 r.y1 r.x2 n)) s.y2 (subst (λ (n : ℕ). P (rect_of r.x1 r.y1 n (r.y1 + s.h))) s.x2 q)

pub corner-area : (r : Rect) → T (valid r) → area_call (corners r) ≡ area_of 0 (pos (2 * area r))
corner-area r v =
    let s = sides r v in
    as-sized r s (λ q. area_call (corners q) ≡ area_of 0 (pos (2 * area q))) (sized-area r.x1 r.y1 s.w s.h s.east s.north)

pub corner-point : (r : Rect) (x y : ℕ) → T (valid r) → x ≤ EDGE → y ≤ EDGE → point_call (corners r) x y ≡ located_of 0 (number_of (place_in r.x1 r.y1 r.x2 r.y2 x y))
corner-point r x y v near-x near-y =
    let s = sides r v in
    as-sized r s (λ q. point_call (corners q) x y ≡ located_of 0 (number_of (place_in q.x1 q.y1 q.x2 q.y2 x y)))
    (sized-point r.x1 r.y1 s.w s.h s.east s.north x y s.wide s.high near-x near-y)
