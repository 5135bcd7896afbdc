use Rattle.std.proofs.Common.{List, Bool}
use Rattle.pages.specs.declared.Entry.{Entry}
use Rattle.pages.specs.Sizes.{PIECES}
use Rattle.pages.specs.Lists.{sum, Every}
use Rattle.pages.specs.Left.{left}
use Rattle.pages.specs.Sound.{is}
use Rattle.soundness.specs.Steps.{IsPiece, Tested}
use Rattle.soundness.proofs.leaf.Given as goal

-- a test of all the entries
abbrev pub Pieces : List Entry → List Bool → Bool → List Bool → Type 0
Pieces es g r g' = Tested PIECES (Every IsPiece es) (λ c. sum (is c) es) g r g'

-- what the entries left come to decides of them all
abbrev pub invariant-loop-e : goal.invariant-loop-e
invariant-loop-e l = (r : Bool) (g : List Bool) → Pieces (left l.e-iterator) l.numbers r g → Pieces (left l.entries) l.initial.numbers r g
