-- The claims about shares hold.
use Rattle.tiles.specs.Claims.{Claims}
use Rattle.tiles.proofs.Areas.{area-whole}
use Rattle.tiles.proofs.Adding.{areas, thousandths, divided, remainders}
use Rattle.tiles.proofs.Lengths.{lengths, single}
use Rattle.tiles.proofs.Held.{held}
use Rattle.tiles.proofs.Directions.{covered, sides, bounded, corners}
use Rattle.tiles.proofs.Examples.{shares-known}

pub claimed : Claims
claimed = record {
  areas = areas;
  whole = area-whole;
  thousandths = thousandths;
  divided = divided;
  remainders = remainders;
  lengths = lengths;
  single = single;
  held = held;
  covered = covered;
  sides = sides;
  bounded = bounded;
  corners = corners;
  shares-known = shares-known;
}
