-- The nine pieces, by computing.
use mathlib.Core.Path.{refl}
use Rattle.pages.specs.Examples.{nine_pieces}
use Rattle.nearest.specs.Examples.{nine, NineKnown}

pub nine-known : NineKnown
unfolding nine nine_pieces
nine-known = record { between-pages = refl; spent = refl; at-corner = refl; north = refl }
