-- The place call: its refusals in order, and the words of the slice that it leaves.
use Rattle.std.specs.Prelude.{ℕ, not, cond, List, ◌++◌, length, drop, leb, ltb, eqb}
use Rattle.pages.specs.declared.Rect.{Rect}
use Rattle.pages.specs.Sizes.{PIECES, TABLE_WORDS}
use Rattle.pages.specs.Refusals.{ACCEPTED, TABLE_TOO_SHORT, RECTANGLE_NOT_VALID, NUMBER_TOO_LARGE, TABLE_NOT_SOUND, ALREADY_STANDING}
use Rattle.pages.specs.Rectangles.{valid}
use Rattle.pages.specs.Layout.{encode, table_in}
use Rattle.pages.specs.Sound.{stored, sound}
use Rattle.placing.specs.Place.{place}

-- "place 1, 6, 2, 3, 7": of a sound table, the last three
-- 7 "number already standing, which for a call means that it is the r of one of the n entries of a leaf in the table it works on"
unfoldable pub place_refusal : List ℕ → ℕ → Rect → ℕ
unfolding valid table_in
place_refusal w n r =
    cond (not (valid r)) RECTANGLE_NOT_VALID
    (cond (leb PIECES n) NUMBER_TOO_LARGE
    (cond (eqb (stored (table_in w) n) 0) ACCEPTED ALREADY_STANDING))

-- the words that an accepted call leaves
unfoldable pub placed_words : List ℕ → ℕ → Rect → List ℕ
unfolding place table_in encode
placed_words w n r = encode (place (table_in w) n r) ++ drop TABLE_WORDS w

-- a place call on a sound table
unfoldable pub place_sound : List ℕ → ℕ → Rect → ℕ × List ℕ
unfolding place_refusal placed_words
place_sound w n r = cond (eqb (place_refusal w n r) ACCEPTED) (ACCEPTED, placed_words w n r) (place_refusal w n r, w)

unfoldable pub place_call : List ℕ → ℕ → Rect → ℕ × List ℕ
unfolding place_sound sound
place_call w n r = cond (ltb (length w) TABLE_WORDS) (TABLE_TOO_SHORT, w) (cond (sound w) (place_sound w n r) (TABLE_NOT_SOUND, w))
