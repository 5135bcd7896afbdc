-- Pieces whose shares are known, for the computed table of `Claims`.
use Rattle.std.specs.Prelude.{ℕ, List, [], ◌∷◌, replicate}
use Rattle.pages.specs.declared.Rect.{Rect}
use Rattle.pages.specs.Rectangles.{rect_of}
use Rattle.tiles.specs.declared.Shares.{Shares}
use Rattle.tiles.specs.Tiles.{TILES}

pub record Known : Type 0 where
  pub piece : Rect
  pub reference : Rect
  pub shares : Shares

abbrev accepted : List ℕ → List ℕ → List ℕ → Shares
accepted areas thousandths remainders = record { refusal = 0; areas = areas; thousandths = thousandths; remainders = remainders }

abbrev refused : Shares
refused = record { refusal = 2; areas = replicate TILES 0; thousandths = replicate TILES 0; remainders = replicate TILES 0 }

-- nine unit squares about one: a ninth in each tile
abbrev around : Known
around = record {
  piece = rect_of 0 0 3 3;
  reference = rect_of 1 1 2 2;
  shares = accepted (replicate TILES 1) (replicate TILES 111) (replicate TILES 1);
}

-- 4 wide, half of that in the west, and 3 high, one of that in the south
abbrev south-west : Known
south-west = record {
  piece = rect_of 2 0 6 3;
  reference = rect_of 4 1 9 5;
  shares =
      accepted (2 ∷ 2 ∷ 0 ∷ 4 ∷ 4 ∷ 0 ∷ 0 ∷ 0 ∷ 0 ∷ []) (166 ∷ 166 ∷ 0 ∷ 333 ∷ 333 ∷ 0 ∷ 0 ∷ 0 ∷ 0 ∷ [])
      (8 ∷ 8 ∷ 0 ∷ 4 ∷ 4 ∷ 0 ∷ 0 ∷ 0 ∷ 0 ∷ []);
}

-- 3 by 3 on the reference's north line, one column of it beyond the east line
abbrev north-east : Known
north-east = record {
  piece = rect_of 2 7 5 10;
  reference = rect_of 1 2 4 7;
  shares =
      accepted (0 ∷ 0 ∷ 0 ∷ 0 ∷ 0 ∷ 0 ∷ 0 ∷ 6 ∷ 3 ∷ []) (0 ∷ 0 ∷ 0 ∷ 0 ∷ 0 ∷ 0 ∷ 0 ∷ 666 ∷ 333 ∷ [])
      (0 ∷ 0 ∷ 0 ∷ 0 ∷ 0 ∷ 0 ∷ 0 ∷ 6 ∷ 3 ∷ []);
}

-- at the reference's corner: all in the last tile
abbrev beside : Known
beside = record {
  piece = rect_of 7 8 9 9;
  reference = rect_of 4 1 7 8;
  shares =
      accepted (0 ∷ 0 ∷ 0 ∷ 0 ∷ 0 ∷ 0 ∷ 0 ∷ 0 ∷ 2 ∷ []) (0 ∷ 0 ∷ 0 ∷ 0 ∷ 0 ∷ 0 ∷ 0 ∷ 0 ∷ 1_000 ∷ [])
      (0 ∷ 0 ∷ 0 ∷ 0 ∷ 0 ∷ 0 ∷ 0 ∷ 0 ∷ 0 ∷ []);
}

-- a reference without height, and a piece too wide
abbrev flat : Known
flat = record { piece = rect_of 0 0 3 3; reference = rect_of 1 1 2 1; shares = refused }

abbrev too_wide : Known
too_wide = record { piece = rect_of 0 0 1_000_001 3; reference = rect_of 1 1 2 2; shares = refused }

abbrev pub known : List Known
known = around ∷ south-west ∷ north-east ∷ beside ∷ flat ∷ too_wide ∷ []
