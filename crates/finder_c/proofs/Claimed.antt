-- The claims about the calls of different crates hold.
use mathlib.Core.Path.{◌≡◌, ◌∙◌}
use lib.Dec.{T}
use Rattle.pages.specs.declared.Rect.{Rect}
use Rattle.pages.specs.Rectangles.{valid}
use Rattle.placing.specs.Place.{area}
use Rattle.tiles.specs.Calls.{shares_call}
use Rattle.tiles.specs.Claims.{added}
use Rattle.tiles.proofs.Areas.{area-whole}
use Rattle.tiles.proofs.Adding.{areas}
use Rattle.finder_c.specs.Claims.{Claims}
use Rattle.finder_c.proofs.Corners.{corner-area, corner-point}

-- both are the width times the height
tile-area : (p q : Rect) → T (valid p) → T (valid q) → added (shares_call p q).areas ≡ area p
unfolding area
tile-area p q v w = areas p q v w ∙ area-whole p

pub claimed : Claims
claimed = record { corner-area = corner-area; corner-point = corner-point; tile-area = tile-area }
