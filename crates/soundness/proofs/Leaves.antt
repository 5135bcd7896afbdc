-- An entry of a leaf.
use Prim.Native.Nat.{◌<◌}
use native.Mathlib.Omega.{arith}
use mathlib.Core.Path.{◌≡◌}
use mathlib.Core.Bool.{Bool, true, false, not}
use mathlib.Core.List.{List}
use lib.ListN.{length, get_or, set}
use Rattle.std.proofs.lemmas.Grind.{common_steps}
use Rattle.pages.specs.declared.Entry.{Entry}
use Rattle.pages.specs.Sizes.{PIECES}
use Rattle.pages.specs.Rectangles.{valid}
use Rattle.pages.specs.Sound.{is}
use Rattle.soundness.specs.Steps.{IsPiece, Tested}

-- of an entry that is valid and has a number of a piece the mark decides
pub piece_marked : (e : Entry) {g g' : List Bool} {b : Bool} → length g ≡ PIECES → e.r < PIECES → valid e.rect ≡ true
    → b ≡ not (get_or g e.r false) → g' ≡ set g e.r true → Tested PIECES (IsPiece e) (λ c. is c e) g b g'
piece_marked e {g} {g'} {b} n l v x y = grind (arith, common_steps)
