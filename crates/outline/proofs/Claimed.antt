-- The claims about outlines hold.
use mathlib.Core.List.{reverse}
use Rattle.outline.specs.Outline.{point}
use Rattle.outline.specs.Claims.{Claims, begun_at}
use Rattle.outline.proofs.Same.{begun-alike, reversed-alike, same_area, negative-area, same_place, area-begun, area-reversed, place-begun, place-reversed}
use Rattle.outline.proofs.Means.{on-iff, crosses-iff}
use Rattle.outline.proofs.Saying.{says_on, says-inside, says-outside}
use Rattle.outline.proofs.Rectangles.{rectangle-place}
use Rattle.outline.proofs.Figures.{words-points, rectangle-area, triangle-area}
use Rattle.outline.proofs.Parity.{same-west, same-upper}
use Rattle.outline.proofs.Examples.{known-areas, known-places}

pub claimed : Claims
claimed = record {
  words = words-points;
  area-begun = λ ps k. same_area (begun_at k ps) ps (begun-alike ps k) (area-begun ps k);
  area-reversed = λ ps. negative-area (reverse ps) ps (reversed-alike ps) (area-reversed ps);
  area-rectangles = rectangle-area;
  area-triangles = λ x y w h u east north apex. triangle-area x y w h east north u apex;
  on_edge = on-iff;
  crosses = crosses-iff;
  on = says_on;
  inside = says-inside;
  outside = says-outside;
  point-begun = λ ps k x y. same_place (begun_at k ps) ps (begun-alike ps k) x y (place-begun (point x y) ps k);
  point-reversed = λ ps x y. same_place (reverse ps) ps (reversed-alike ps) x y (place-reversed (point x y) ps);
  point-rectangles = rectangle-place;
  west = same-west;
  upper = same-upper;
  known-areas = known-areas;
  known-places = known-places;
}
