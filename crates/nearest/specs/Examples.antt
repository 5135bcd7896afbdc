-- The nine pieces of document 01, asked for the nearest: page 0 has pieces 0 to 3, page 1 pieces 4 to 8, and page 2 is the root.
use Rattle.std.specs.Prelude.{ℕ, ◌≡◌, Some, None}
use Rattle.pages.specs.Examples.{nine_pieces}
use Rattle.nearest.specs.declared.Nearest.{Nearest}
use Rattle.nearest.specs.Search.{near, opened_on}
use Rattle.nearest.specs.Calls.{found_on}

unfoldable pub nine : ℕ → ℕ → ℕ → Nearest
unfolding found_on opened_on
nine x y allowance = found_on x y nine_pieces (opened_on x y nine_pieces allowance)

pub record NineKnown : Type 0 where
  -- between pieces 3 and 4, and so between the pages: page 1 is farther than piece 3 and stays shut
  pub between-pages : nine 37 2 3 ≡ record { piece = Some (near 4 3); opened = 2; left = Some 9 }
  -- with the root alone
  pub spent : nine 37 2 1 ≡ record { piece = None; opened = 1; left = Some 4 }
  -- at a corner of piece 8
  pub at-corner : nine 80 0 3 ≡ record { piece = Some (near 0 8); opened = 2; left = Some 2_025 }
  -- north of all, as far from piece 3 as from its page
  pub north : nine 32 1_000_000 3 ≡ record { piece = Some (near 999_990_000_025 3); opened = 2; left = Some 999_990_000_089 }
