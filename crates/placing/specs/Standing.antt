-- What a caller of `place_where` lends it: a closure that knows whether the piece's number stands.
use Rattle.std.specs.Prelude.{ℕ, ◌≡◌, ◌<◌, Bool, List, ltb}
use Rattle.std.specs.Fn.{Once}
use denote.Ref.{Bor}
use Rattle.pages.specs.Sizes.{PIECES}
use Rattle.pages.specs.Layout.{table_in}
use Rattle.pages.specs.Sound.{stored}

-- at the table w it may be called, and says whether the number n stands there, which a piece may have
abbrev pub KnowsStanding : {F : Type 0} → Once F (Bor (List ℕ) × Unit {0}) Bool → F → List ℕ → ℕ → Type 0
KnowsStanding g f w n =
    n < PIECES → (t : Bor (List ℕ)) → t.now ≡ w → g.pre f (t, tt) × ((b : Bool) → g.post f (t, tt) b → b ≡ ltb 0 (stored (table_in w) n))
