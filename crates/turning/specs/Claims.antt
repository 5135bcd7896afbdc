-- What is proved of turned lays, of two clauses, and of the turn itself.
use Rattle.std.specs.Prelude.{ℕ, ◌≤◌, ◌<◌, ◌+◌, ◌^◌, ◌≡◌, List, [], ◌∷◌, map, T}
use Rattle.relations.specs.Sets.{bit}
use Rattle.relations.specs.Axis.{IsCode, turned}
use Rattle.relations.specs.Relation.{RELATIONS, in_relation}
use Rattle.relations.specs.Query.{admits, bad_clause, refusal_of}
use Rattle.pages.specs.declared.Rect.{Rect}
use Rattle.pages.specs.Sizes.{EDGE}
use Rattle.pages.specs.Rectangles.{rect_of, valid}
use Rattle.query.specs.Admission.{code_y, code_x}
use Rattle.turning.specs.Turn.{turn_rect, turn_relation, turn_clause, turn_query, turned_rect}
use Rattle.turning.specs.Lays.{TurnedLays, AllAnsweredAlike}
use Rattle.turning.specs.Both.{TwoClauses, MoreClauses, OnSoundTables, AfterCalls}

pub record Claims : Type 0 where
  -- "For any list of accepted place calls from the empty table, any valid query with a valid reference, and 1,024 or more answer words,
  -- the turned query on the turned pieces lists the same numbers."
  pub lays : TurnedLays
  -- and so where some of the calls are refused
  pub refused-too : AllAnsweredAlike
  -- "a query of two clauses lists exactly the pieces that both single clauses list"
  pub two-clauses : OnSoundTables TwoClauses
  pub two-clauses-after : AfterCalls TwoClauses
  -- and so with any further clauses beside each of the two
  pub more-clauses : OnSoundTables MoreClauses
  pub more-clauses-after : AfterCalls MoreClauses
  -- a turned rectangle is valid exactly when the rectangle is (with x2 beyond the cloth, 1,000,000 - x2 is no number); and so is, for any
  -- numbers, what `turned_rect` returns
  pub rectangle : (r : Rect) → r.x2 ≤ EDGE → valid (turn_rect r) ≡ valid r
  pub returned : (r : Rect) → valid (turned_rect r) ≡ valid r
  -- a turned clause names the turned relations, and is refused exactly when the clause is
  pub named : (c t : ℕ) → t < RELATIONS → bit (turn_clause c) (turn_relation t) ≡ bit c t
  pub clause : (c : ℕ) → bad_clause (turn_clause c) ≡ bad_clause c
  pub query : (clauses : List ℕ) → refusal_of (turn_query clauses) ≡ refusal_of clauses
  -- four turns are no turn
  pub four-rect : (r : Rect) → T (valid r) → turn_rect (turn_rect (turn_rect (turn_rect r))) ≡ r
  pub four-returned : (r : Rect) → T (valid r) → turned_rect (turned_rect (turned_rect (turned_rect r))) ≡ r
  pub four-clause : (c : ℕ) → turn_clause (turn_clause (turn_clause (turn_clause c))) ≡ c
  -- the configuration (i, j) becomes (j turned round, i)
  pub on-y : (q p : Rect) → T (valid q) → T (valid p) → code_y (turn_rect q) (turn_rect p) ≡ turned (code_x q p)
  pub on-x : (q p : Rect) → code_x (turn_rect q) (turn_rect p) ≡ code_y q p
  -- it belongs to the turned relation, and is admitted by the turned clauses, exactly when (i, j) is
  pub relation : (t i j : ℕ) → t < RELATIONS → IsCode i → IsCode j → in_relation (turn_relation t) (turned j) i ≡ in_relation t i j
  pub admitted : (clauses : List ℕ) (i j : ℕ) → IsCode i → IsCode j → admits (turn_query clauses) (turned j) i ≡ admits clauses i j
  -- computed: inside and bit 40 stay, strong north goes to strong east, plain west to plain north, equal and plain south to equal and
  -- plain west
  pub known-clauses : map turn_clause (2 ^ 4 ∷ 2 ^ 40 ∷ 2 ^ 8 ∷ 2 ^ 39 ∷ (2 ^ 5 + 2 ^ 31) ∷ [])
      ≡ 2 ^ 4 ∷ 2 ^ 40 ∷ 2 ^ 16 ∷ 2 ^ 15 ∷ (2 ^ 5 + 2 ^ 39) ∷ []
  -- the north-east corner of the cloth goes to the south-east; a rectangle without a width, or with an edge of 1,000,001, gives zeros
  pub known-rects : map turned_rect (rect_of 999_990 999_995 1_000_000 1_000_000 ∷ rect_of 5 0 5 7 ∷ rect_of 5 0 1_000_001 7 ∷ [])
      ≡ rect_of 999_995 0 1_000_000 10 ∷ rect_of 0 0 0 0 ∷ rect_of 0 0 0 0 ∷ []
