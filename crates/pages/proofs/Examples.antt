-- The nine pieces' table, computed.
use mathlib.Core.Path.{◌≡◌, refl}
use mathlib.Core.Bool.{true}
use Rattle.pages.specs.Layout.{encode, decode}
use Rattle.pages.specs.Sound.{sound}
use Rattle.pages.specs.Examples.{nine_pieces}

pub sound-nine : sound (encode nine_pieces) ≡ true
unfolding nine_pieces sound encode
sound-nine = refl

pub round-nine : decode (encode nine_pieces) ≡ nine_pieces
unfolding nine_pieces decode encode
round-nine = refl
