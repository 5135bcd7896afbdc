-- What ties the calls that know no table to the rectangles of pieces: the outline of a rectangle's four corners, and its shares.
use Rattle.std.specs.Prelude.{ℕ, ◌*◌, ◌≤◌, ◌≡◌, List, [], ◌∷◌, T, pos}
use Rattle.pages.specs.declared.Rect.{Rect}
use Rattle.pages.specs.Sizes.{EDGE}
use Rattle.pages.specs.Rectangles.{valid}
use Rattle.placing.specs.Place.{area}
use Rattle.outline.specs.Place.{number_of}
use Rattle.outline.specs.Calls.{area_call, point_call}
use Rattle.outline.specs.Claims.{place_in}
use Rattle.tiles.specs.Calls.{shares_call}
use Rattle.tiles.specs.Claims.{added}

-- from the south-west one, counter-clockwise
abbrev pub corners : Rect → List ℕ
corners r = r.x1 ∷ r.y1 ∷ r.x2 ∷ r.y1 ∷ r.x2 ∷ r.y2 ∷ r.x1 ∷ r.y2 ∷ []

pub record Claims : Type 0 where
  -- twice the area by which a place call chooses
  pub corner-area : (r : Rect) → T (valid r) → area_call (corners r) ≡ record { refusal = 0; twice_area = pos (2 * area r) }
  pub corner-point : (r : Rect) (x y : ℕ) → T (valid r) → x ≤ EDGE → y ≤ EDGE
      → point_call (corners r) x y ≡ record { refusal = 0; place = number_of (place_in r.x1 r.y1 r.x2 r.y2 x y) }
  -- the area that is shared among the tiles is the one by which a place call chooses
  pub tile-area : (piece reference : Rect) → T (valid piece) → T (valid reference) → added (shares_call piece reference).areas ≡ area piece
