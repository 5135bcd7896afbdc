-- Place calls given as words: what `replay` leaves and returns.
use Rattle.std.specs.Prelude.{ℕ, ◌/◌, ◌<◌, ◌≡◌, Bool, false, cond, List, [], ◌∷◌, ◌++◌, length, get_or, drop, ltb}
use Rattle.pages.specs.Sizes.{PIECES, TABLE_WORDS}
use Rattle.pages.specs.Lists.{one}
use Rattle.pages.specs.Rectangles.{rect_of}
use Rattle.pages.specs.Layout.{unpack, table_in}
use Rattle.pages.specs.Sound.{stored}
use Rattle.pages.specs.Refusals.{ACCEPTED, TABLE_TOO_SHORT, ANSWER_TOO_SHORT}
use Rattle.pages.specs.Calls.{empty_call}
use Rattle.placing.specs.Calls.{place_call}
use Rattle.history.specs.Book.{Call}
use Rattle.history.specs.History.{table_after}

-- "number, x1, y1, x2, y2"
abbrev pub CALL_WORDS : ℕ
CALL_WORDS = 5

unfoldable pub call_in : List ℕ → Call
call_in w = record { number = get_or w 0 0; rect = rect_of (get_or w 1 0) (get_or w 2 0) (get_or w 3 0) (get_or w 4 0) }

-- the calls of the whole groups of five words; up to four words after them are no call
unfoldable pub calls_of : List ℕ → List Call
unfolding call_in
calls_of words = unpack call_in CALL_WORDS (length words / CALL_WORDS) words

-- what each call of a list returns
unfoldable pub refusals_from : List ℕ → List Call → List ℕ
unfolding place_call
refusals_from words [] = []
refusals_from words (c ∷ cs) = (place_call words c.number c.rect).0 ∷ refusals_from (place_call words c.number c.rect).1 cs

unfoldable pub refusals_after : List ℕ → List Call → List ℕ
unfolding refusals_from empty_call
refusals_after slice calls = refusals_from (empty_call slice).1 calls

-- 1 for a short table, then 8 for fewer refusal words than calls; the table and the refusal words that are left
unfoldable pub replayed : List ℕ → List Call → List ℕ → ℕ × List ℕ × List ℕ
unfolding table_after refusals_after
replayed table calls refusals =
    cond (ltb (length table) TABLE_WORDS) (TABLE_TOO_SHORT, table, refusals)
    (cond (ltb (length refusals) (length calls)) (ANSWER_TOO_SHORT, table, refusals)
    (ACCEPTED, table_after table calls, refusals_after table calls ++ drop (length calls) refusals))

unfoldable pub replay_call : List ℕ → List ℕ → List ℕ → ℕ × List ℕ × List ℕ
unfolding replayed calls_of
replay_call table words refusals = replayed table (calls_of words) refusals

-- the mark of each number says whether it stands: how often the leaves hold it
abbrev pub Marked : List ℕ → List Bool → Type 0
Marked words marks = (c : ℕ) → c < PIECES → one (get_or marks c false) ≡ stored (table_in words) c
