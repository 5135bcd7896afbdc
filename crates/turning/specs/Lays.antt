-- "Turned lays. A marker may be spread along the cloth or across it. Show that a quarter turn keeps the answer." `empty_call`,
-- `place_call` and `query_call` are what the contracts of `empty`, `place` and `query` equate the code with. Nothing is assumed of the
-- tables in between, nor of the slices but their lengths.
use Rattle.std.specs.Prelude.{ℕ, ◌≤◌, ◌≡◌, List, length}
use Rattle.pages.specs.declared.Rect.{Rect}
use Rattle.pages.specs.Sizes.{TABLE_WORDS, PIECES}
use Rattle.pages.specs.Lists.{Every}
use Rattle.pages.specs.Refusals.{ACCEPTED}
use Rattle.query.specs.Calls.{query_call}
use Rattle.history.specs.Book.{Call}
use Rattle.history.specs.History.{table_after, SameListing}
use Rattle.history.specs.Demand3.{Asked}
use Rattle.history.specs.Replay.{refusals_after}
use Rattle.turning.specs.Turn.{turn_rect, turn_query, turn_calls, turned_calls}

-- "accepted place calls from the empty table"
abbrev pub AllAccepted : List ℕ → List Call → Type 0
AllAccepted slice calls = Every (λ refusal. refusal ≡ ACCEPTED) (refusals_after slice calls)

-- "the turned query .. lists the same numbers": both are accepted, their hits are equal, and so are that many words of the answers
pub record SameTurned (table turnedTable clauses : List ℕ) (reference : Rect) (answer turnedAnswer : List ℕ) : Type 0 where
  pub accepted : (query_call table reference clauses answer).0.refusal ≡ ACCEPTED
  pub turned-accepted : (query_call turnedTable (turn_rect reference) (turn_query clauses) turnedAnswer).0.refusal ≡ ACCEPTED
  pub listing : SameListing (query_call table reference clauses answer)
      (query_call turnedTable (turn_rect reference) (turn_query clauses) turnedAnswer)

-- "any valid query with a valid reference, and 1,024 or more answer words"
abbrev pub SameAnswers : (table turnedTable : List ℕ) → Type 0
SameAnswers table turnedTable =
    (clauses : List ℕ) (reference : Rect) → Asked clauses reference
    → (answer turnedAnswer : List ℕ) → PIECES ≤ length answer → PIECES ≤ length turnedAnswer
    → SameTurned table turnedTable clauses reference answer turnedAnswer

-- "For any list of accepted place calls from the empty table": the turned ones are accepted too, and their table answers alike
pub record TurnedLay (slice turnedSlice : List ℕ) (calls : List Call) : Type 0 where
  pub placed : AllAccepted turnedSlice (turn_calls calls)
  pub listed : SameAnswers (table_after slice calls) (table_after turnedSlice (turn_calls calls))

-- refused place calls among them, each rectangle as `turned_rect` hands it back: every call is answered with the same number
pub record AnsweredAlike (slice turnedSlice : List ℕ) (calls : List Call) : Type 0 where
  pub refusals : refusals_after turnedSlice (turned_calls calls) ≡ refusals_after slice calls
  pub listed : SameAnswers (table_after slice calls) (table_after turnedSlice (turned_calls calls))

-- every list, and every two slices that hold a table
abbrev pub TurnedLays : Type 0
TurnedLays =
    (slice turnedSlice : List ℕ) → TABLE_WORDS ≤ length slice → TABLE_WORDS ≤ length turnedSlice → (calls : List Call)
    → AllAccepted slice calls → TurnedLay slice turnedSlice calls

abbrev pub AllAnsweredAlike : Type 0
AllAnsweredAlike =
    (slice turnedSlice : List ℕ) → TABLE_WORDS ≤ length slice → TABLE_WORDS ≤ length turnedSlice → (calls : List Call)
    → AnsweredAlike slice turnedSlice calls
