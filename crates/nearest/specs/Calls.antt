-- The nearest-piece call: refusals in order, and what it returns.
use Rattle.std.specs.Prelude.{ℕ, Bool, cond, ◌||◌, List, length, ltb, eqb, Option, Some, None, option_map, unwrap_or, Result, Ok, Err}
use Rattle.refusals.specs.declared.Refusal.{Refusal}
use Rattle.refusals.specs.Numbers.{number_of}
use Rattle.pages.specs.Sizes.{EDGE, PAGES, TABLE_WORDS}
use Rattle.pages.specs.Refusals.{ACCEPTED, TABLE_TOO_SHORT, TABLE_NOT_SOUND, OUT_OF_RANGE, NO_PIECES}
use Rattle.pages.specs.Layout.{Table, table_in}
use Rattle.pages.specs.Sound.{sound}
use Rattle.nearest.specs.declared.Nearest.{Nearest}
use Rattle.nearest.specs.declared.NearestAnswer.{NearestAnswer}
use Rattle.nearest.specs.Search.{nearest, waiting, best, opened_on}

-- "Return the best piece of the opened leaves .., its squared distance, how many pages were opened, and the least squared distance among
-- unopened reached pages"
unfoldable pub found_on : ℕ → ℕ → Table → List ℕ → Nearest
unfolding best waiting nearest
found_on x y t opened = record {
  piece = best x y t opened;
  opened = length opened;
  left = option_map (λ p. p.distance) (nearest (waiting x y t opened));
}

-- "An absent piece or page is reported as absent": 1 where it is there
abbrev pub is_there : {A : Type 0} → Option A → ℕ
is_there None = 0
is_there (Some a) = 1

-- what C gets of what is found: what belongs to an absent one is 0
abbrev pub answer_for : Nearest → NearestAnswer
answer_for a = record {
  refusal = ACCEPTED;
  found = is_there a.piece;
  number = unwrap_or (option_map (λ p. p.number) a.piece) 0;
  opened = a.opened;
  left = is_there a.left;
  distance = unwrap_or (option_map (λ p. p.distance) a.piece) 0;
  left_distance = unwrap_or a.left 0;
}

-- a refusal reports neither piece nor page, and none opened
abbrev pub no_nearest : ℕ → NearestAnswer
no_nearest refusal = record { refusal = refusal; found = 0; number = 0; opened = 0; left = 0; distance = 0; left_distance = 0 }

abbrev pub answer_from : Result Nearest Refusal → NearestAnswer
answer_from (Ok a) = answer_for a
answer_from (Err why) = no_nearest (number_of why)

-- 13, "point or allowance out of range": "a point, each coordinate at most 1,000,000, and an allowance of 1 to 341 pages"
unfoldable pub out_of_range : ℕ → ℕ → ℕ → Bool
out_of_range x y allowance = ltb EDGE x || (ltb EDGE y || (eqb allowance 0 || ltb PAGES allowance))

-- a call on a sound table, of which 13 and 14 are left to test
unfoldable pub nearest_sound : List ℕ → ℕ → ℕ → ℕ → NearestAnswer
unfolding out_of_range found_on opened_on table_in
nearest_sound w x y allowance =
    let t : Table = table_in w in
    cond (out_of_range x y allowance) (no_nearest OUT_OF_RANGE)
    (cond (eqb t.count 0) (no_nearest NO_PIECES) (answer_for (found_on x y t (opened_on x y t allowance))))

-- "Order is 1, 6, 13, 14"
unfoldable pub nearest_call : List ℕ → ℕ → ℕ → ℕ → NearestAnswer
unfolding nearest_sound sound
nearest_call w x y allowance =
    cond (ltb (length w) TABLE_WORDS) (no_nearest TABLE_TOO_SHORT)
    (cond (sound w) (nearest_sound w x y allowance) (no_nearest TABLE_NOT_SOUND))
