-- What the inner functions are held to: a side of the piece cut at the reference's two edge lines, and areas from two such cuts.
use Rattle.std.specs.Prelude.{ℕ, ◌+◌, ◌-◌, ◌*◌, ◌/◌, ◌%◌, ◌≤◌, ◌<◌, List, map, eqb, get_or}
use Rattle.std.specs.List.{range_with_len}
use Rattle.relations.specs.Sets.{listed}
use Rattle.pages.specs.declared.Rect.{Rect}
use Rattle.pages.specs.Sizes.{EDGE}
use Rattle.pages.specs.Lists.{one, sum_below}
use Rattle.tiles.specs.declared.TileShare.{TileShare}
use Rattle.tiles.specs.Tiles.{STRIPS, TILES, strip, area_of, area_in}
use Rattle.tiles.specs.Calls.{thousandths_of, remainder_of}

-- how many units of [p1, p2] lie in strip s
unfoldable pub units_in : ℕ → ℕ → ℕ → ℕ → ℕ → ℕ
units_in p1 p2 q1 q2 s = sum_below (p2 - p1) (λ a. one (eqb (strip q1 q2 (p1 + a)) s))

-- before both lines, between them, after both
unfoldable pub cut_at : ℕ → ℕ → ℕ → ℕ → List ℕ
cut_at p1 p2 q1 q2 = listed (units_in p1 p2 q1 q2) STRIPS

-- the area in tile t, from the three heights and the three widths
unfoldable pub product : List ℕ → List ℕ → ℕ → ℕ
product heights widths t = get_or heights (t / STRIPS) 0 * get_or widths (t % STRIPS) 0

-- no part is longer than a valid side
abbrev pub Short : List ℕ → Type 0
Short parts = (s : ℕ) → s < STRIPS → get_or parts s 0 ≤ EDGE

-- the largest area of a tile
abbrev pub MOST_AREA : ℕ
MOST_AREA = EDGE * EDGE

-- what a tile has of a piece whose area is `whole`
abbrev pub share_of : ℕ → ℕ → TileShare
share_of area whole = record { area = area; thousandths = thousandths_of area whole; remainder = remainder_of area whole }

-- for tiles 0 to 8
unfoldable pub shares_in_tiles : Rect → Rect → List TileShare
shares_in_tiles piece reference = map (λ t. share_of (area_in piece reference t) (area_of piece)) (range_with_len 0 TILES)
