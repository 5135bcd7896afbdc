-- The call: what it returns for two rectangles, whatever they are.
use Rattle.std.specs.Prelude.{ℕ, ◌*◌, ◌/◌, ◌%◌, ◌&&◌, cond, List, map, replicate, Result, Ok, Err}
use Rattle.refusals.specs.declared.Refusal.{Refusal}
use Rattle.refusals.specs.Numbers.{number_of}
use Rattle.relations.specs.Sets.{listed}
use Rattle.pages.specs.declared.Rect.{Rect}
use Rattle.pages.specs.Rectangles.{valid}
use Rattle.pages.specs.Refusals.{ACCEPTED, RECTANGLE_NOT_VALID}
use Rattle.tiles.specs.declared.Shares.{Shares}
use Rattle.tiles.specs.declared.TileShare.{TileShare}
use Rattle.tiles.specs.Tiles.{TILES, area_of, area_in}

abbrev pub THOUSAND : ℕ
THOUSAND = 1_000

-- "the whole per thousand of the piece's area"
abbrev pub thousandths_of : ℕ → ℕ → ℕ
thousandths_of area whole = THOUSAND * area / whole

-- "and the exact remainder of that division"
abbrev pub remainder_of : ℕ → ℕ → ℕ
remainder_of area whole = THOUSAND * area % whole

-- for tiles 0 to 8 with these areas, of a piece whose area is `whole`
unfoldable pub shares_in : (ℕ → ℕ) → ℕ → Shares
shares_in area whole = record {
  refusal = ACCEPTED;
  areas = listed area TILES;
  thousandths = listed (λ t. thousandths_of (area t) whole) TILES;
  remainders = listed (λ t. remainder_of (area t) whole) TILES;
}

-- "the refusal is 2, and all areas, quotients and remainders are zero"
unfoldable pub no_shares : Shares
no_shares = record {
  refusal = RECTANGLE_NOT_VALID;
  areas = replicate TILES 0;
  thousandths = replicate TILES 0;
  remainders = replicate TILES 0;
}

-- "For two valid rectangles .."; "If either rectangle is not valid .."
unfoldable pub shares_call : Rect → Rect → Shares
shares_call piece reference = cond (valid piece && valid reference) (shares_in (area_in piece reference) (area_of piece)) no_shares

-- what C gets of the call's answer
abbrev pub shares_from : Result (List TileShare) Refusal → Shares
shares_from (Ok tiles) = record {
  refusal = ACCEPTED;
  areas = map (λ s. s.area) tiles;
  thousandths = map (λ s. s.thousandths) tiles;
  remainders = map (λ s. s.remainder) tiles;
}
shares_from (Err refusal) = record no_shares { refusal = number_of refusal }
