-- The known shares, by counting unit squares.
use mathlib.Core.Path.{◌≡◌, refl}
use mathlib.Core.List.{map}
use Rattle.relations.specs.Sets.{listed}
use Rattle.pages.specs.Rectangles.{valid}
use Rattle.tiles.specs.Tiles.{area_of, area_in}
use Rattle.tiles.specs.Calls.{shares_in, no_shares, shares_call}
use Rattle.tiles.specs.Examples.{Known, known}

pub shares-known : map (λ (k : Known). shares_call k.piece k.reference) known ≡ map (λ (k : Known). k.shares) known
unfolding shares_call shares_in no_shares area_of area_in listed valid
shares-known = refl
