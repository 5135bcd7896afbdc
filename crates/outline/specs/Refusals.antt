-- "(New: 10, odd word count, or point count outside 3 to 64; 11, a coordinate of the outline or of the point above 1,000,000; tested
-- in that order.)" Zero means accepted.
use Rattle.std.specs.Prelude.{ℕ, ◌/◌, ◌%◌, Bool, true, ◌&&◌, ◌||◌, cond, List, [], ◌∷◌, leb, ltb, eqb, length}
use Rattle.outline.specs.Outline.{FEWEST_POINTS, MOST_POINTS, FARTHEST}

abbrev pub ACCEPTED : ℕ
ACCEPTED = 0

abbrev pub POINT_COUNT : ℕ
POINT_COUNT = 10

abbrev pub COORDINATE_TOO_LARGE : ℕ
COORDINATE_TOO_LARGE = 11

-- "odd word count, or point count outside 3 to 64"
unfoldable pub wrong_count : ℕ → Bool
wrong_count words = eqb (words % 2) 1 || (ltb (words / 2) FEWEST_POINTS || ltb MOST_POINTS (words / 2))

-- none "above 1,000,000"
unfoldable pub within : List ℕ → Bool
within [] = true
within (c ∷ cs) = leb c FARTHEST && within cs

-- of an outline's words, and all the coordinates that the call gets
unfoldable pub outline_refusal : List ℕ → List ℕ → ℕ
outline_refusal ws cs = cond (wrong_count (length ws)) POINT_COUNT (cond (within cs) ACCEPTED COORDINATE_TOO_LARGE)
