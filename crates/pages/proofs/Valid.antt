-- What a valid rectangle's edges are: in order, and none too large.
use Prim.Native.Nat.{◌≤◌, ◌<◌}
use native.Mathlib.Omega.{arith}
use mathlib.Core.Path.{◌≡◌}
use mathlib.Core.List.{[], ◌∷◌}
use lib.Dec.{T, leb, ltb, leb→le, ltb→lt}
use Rattle.std.proofs.lemmas.Grind.{common_steps}
use Rattle.pages.specs.declared.Rect.{Rect}
use Rattle.pages.specs.Sizes.{EDGE}
use Rattle.pages.specs.Rectangles.{valid, Small}
use Rattle.pages.proofs.Lists.{holds}

pub record Edges (r : Rect) : Type 0 where
  pub on-x : r.x1 < r.x2
  pub on-y : r.y1 < r.y2
  pub x-start : r.x1 ≤ EDGE
  pub y-start : r.y1 ≤ EDGE
  pub x-end : r.x2 ≤ EDGE
  pub y-end : r.y2 ≤ EDGE

pub edges : (r : Rect) → T (valid r) → Edges r
unfolding valid
edges r v =
    let (p, (q, (a, (b, (c, (d, _)))))) = holds (ltb r.x1 r.x2 ∷ ltb r.y1 r.y2 ∷ leb r.x1 EDGE ∷ leb r.y1 EDGE ∷ leb r.x2 EDGE ∷ leb r.y2 EDGE ∷ []) v in
    record { on-x = ltb→lt _ _ p; on-y = ltb→lt _ _ q; x-start = leb→le _ _ a; y-start = leb→le _ _ b; x-end = leb→le _ _ c; y-end = leb→le _ _ d }

pub small : (r : Rect) → T (valid r) → Small r
small r v =
    let e = edges r v in
    record { x-start = e.x-start; y-start = e.y-start; x-end = e.x-end; y-end = e.y-end }

-- where the edges are in order and the east is within the limit, the north decides
pub valid_north : (r : Rect) → r.x1 < r.x2 → r.y1 < r.y2 → r.x2 ≤ EDGE → leb r.y2 EDGE ≡ valid r
unfolding valid
valid_north r x y east = grind (arith, common_steps)
