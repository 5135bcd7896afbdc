-- One piece and one query of a well-formed job: their words lie within it, and what the calls give is what the definitions say.
use Prim.Native.Nat.{ℕ, zero, suc, ◌+◌, ◌*◌, ◌≤◌, ◌<◌}
use mathlib.Core.Path.{◌≡◌, refl, sym, ap, ◌∙◌, subst}
use mathlib.Core.Bool.{true}
use mathlib.Core.List.{List}
use native.Mathlib.Omega.{arith}
use native.Mathlib.Numerals.{add-one}
use lib.ListN.{length, length-replicate}
use lib.Dec.{T, leb, eqb, leb→le, eqb→eq}
use Rattle.pages.specs.declared.Rect.{Rect}
use Rattle.pages.specs.Sizes.{PIECES}
use Rattle.pages.proofs.Lists.{both}
use Rattle.placing.specs.Calls.{place_sound, place_call}
use Rattle.query.specs.declared.Answer.{Answer}
use Rattle.query.specs.Calls.{query_sound, query_call}
use Rattle.history.specs.Replay.{CALL_WORDS}
use Rattle.job.specs.Sizes.{JOB_BYTES, WORD_BYTES, QUERY_HEAD, CLAUSE_COUNT_AT}
use Rattle.job.specs.Job.{Query}
use Rattle.job.specs.Output.{piece_line, query_line, room, answer_of}
use Rattle.job.specs.Words.{word_at, rect_at, clauses_at, piece_count, piece_start, piece_at, query_count, query_start, query_at, well_formed}
use Rattle.job.specs.Steps.{table_at, full_table, piece_line_at, query_line_at, answer_after}
use Rattle.job.proofs.Places.{first-start, next_start, starts-after}
use Rattle.job.proofs.Tables.{place_is, query-is, fine-table}
use Rattle.job.proofs.Asking.{same_line}

module _ (b : List ℕ) (good : well_formed b ≡ true) where
  parts : T (leb (length b) JOB_BYTES) × T (eqb (length b) (WORD_BYTES * query_start b (query_count b)))
  unfolding well_formed
  parts = both (leb (length b) JOB_BYTES) (eqb (length b) (WORD_BYTES * query_start b (query_count b))) (subst T (sym good) tt)

  pub short : length b ≤ JOB_BYTES
  short = leb→le _ _ parts.0

  pub exact : length b ≡ WORD_BYTES * query_start b (query_count b)
  exact = eqb→eq _ _ parts.1

  -- each query has words of its own, so there are few
  pub query-place : (i : ℕ) → i < query_count b → i < JOB_BYTES
  query-place i h = omega (arith, short, exact, starts-late (query_count b))
    where
      starts-late : (n : ℕ) → n ≤ query_start b n
      starts-late zero = omega arith
      starts-late (suc n) = omega (arith, next_start b n, starts-late n)

  pub piece_within : (i words : ℕ) → i < piece_count b → length b ≡ WORD_BYTES * words → piece_start i + CALL_WORDS ≤ words
  piece_within i words h e = omega (arith, exact, first-start b, starts-after b (query_count b))

-- a piece placed, from what the place call returned
module _ (b : List ℕ) (i : ℕ) (t : List ℕ) (number : ℕ) (rect : Rect) (t' : List ℕ) (r : ℕ)
    (et : t ≡ table_at b i) (en : number ≡ (piece_at b i).number) (er : rect ≡ (piece_at b i).rect)
    (called : (r, t') ≡ place_sound t number rect) where
  as_called : (r, t') ≡ place_call (table_at b i) (piece_at b i).number (piece_at b i).rect
  as_called = called ∙ rw (et, en, er) (sym (place_is (table_at b i) (fine-table b i) (piece_at b i).number (piece_at b i).rect))

  pub table-placed : t' ≡ table_at b (i + 1)
  unfolding table_at
  table-placed = ap (λ x. x.1) as_called ∙ sym (ap (table_at b) (add-one i))

  pub piece-placed : piece_line i r ≡ piece_line_at b i
  unfolding piece_line_at
  piece-placed = ap (λ x. piece_line i x.0) as_called

-- a query's parts, from its words
pub query-refers : (b : List ℕ) (i at : ℕ) (r : Rect) → at ≡ query_start b i → r ≡ rect_at b at → r ≡ (query_at b (query_start b i)).reference
unfolding query_at
query-refers b i at r e q = q ∙ ap (rect_at b) e

pub query-asks : (b : List ℕ) (i at n : ℕ) (cs : List ℕ) → at ≡ query_start b i → n ≡ word_at b (at + CLAUSE_COUNT_AT) → cs ≡ clauses_at b (at + QUERY_HEAD) n
    → cs ≡ (query_at b (query_start b i)).clauses
unfolding query_at
query-asks b i at n cs e w q = q ∙ rw (w, e) refl

-- a query answered, from what the query call returned
module _ (b : List ℕ) (i : ℕ) (table answer : List ℕ) (a : Answer) (after : List ℕ) (reference : Rect) (clauses : List ℕ)
    (et : table ≡ full_table b) (er : reference ≡ (query_at b (query_start b i)).reference) (ec : clauses ≡ (query_at b (query_start b i)).clauses)
    (size : length answer ≡ PIECES) (called : (a, after) ≡ query_sound table reference clauses answer) where
  abbrev query : Query
  query = query_at b (query_start b i)

  room-size : length room ≡ PIECES
  unfolding room
  room-size = length-replicate {A = ℕ} PIECES 0

  line_at : query_line_at b i ≡ query_line i (query_call (full_table b) query.reference query.clauses room)
  unfolding query_line_at answer_of
  line_at = refl

  answer_at : answer_after b i answer ≡ (query_call (full_table b) query.reference query.clauses answer).1
  unfolding answer_after
  answer_at = refl

  as-asked : (a, after) ≡ query_sound (full_table b) query.reference query.clauses answer
  as-asked = called ∙ rw (et, er, ec)

  pub line-made : query_line i (a, after) ≡ query_line_at b i
  line-made =
      ap (query_line i) as-asked
      ∙ same_line (full_table b) query.reference query.clauses i answer room (size ∙ sym room-size)
      ∙ ap (query_line i) (sym (query-is (full_table b) (fine-table b (piece_count b)) query.reference query.clauses room))
      ∙ sym line_at

  pub answer-left : after ≡ answer_after b i answer
  answer-left = ap (λ x. x.1) (as-asked ∙ sym (query-is (full_table b) (fine-table b (piece_count b)) query.reference query.clauses answer)) ∙ sym answer_at
