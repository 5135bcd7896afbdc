-- Queries on one table, one for each reference: the number of all hits, and the answer slice that is left. The nearest
-- piece in one table of each point: the sum of what the calls answer.
use Rattle.std.specs.Prelude.{ℕ, zero, suc, ◌+◌, ◌*◌, ◌/◌, ◌%◌, ◌^◌, List, length, slice_index}
use Rattle.pages.specs.declared.Rect.{Rect}
use Rattle.pages.specs.Rectangles.{rect_of}
use Rattle.query.specs.declared.Answer.{Answer}
use Rattle.query.specs.Calls.{query_call}
use Rattle.nearest.specs.declared.NearestAnswer.{NearestAnswer}
use Rattle.nearest.specs.Calls.{nearest_call}

-- a reference is x1, y1, x2, y2
abbrev pub RECT_WORDS : ℕ
RECT_WORDS = 4

abbrev pub reference_at : List ℕ → ℕ → Rect
reference_at words at = rect_of (slice_index words at) (slice_index words (at + 1)) (slice_index words (at + 2)) (slice_index words (at + 3))

-- the first n queries, each as a call of its own
unfoldable pub asked : List ℕ → List ℕ → List ℕ → List ℕ → ℕ → ℕ × List ℕ
unfolding query_call
asked table references clauses answer zero = (0, answer)
asked table references clauses answer (suc n) =
    let s : ℕ × List ℕ = asked table references clauses answer n in
    let r : Answer × List ℕ = query_call table (reference_at references (RECT_WORDS * n)) clauses s.1 in
    ((s.0 + r.0.hits) % 2 ^ 64, r.1)

unfoldable pub asked_all : List ℕ → List ℕ → List ℕ → List ℕ → ℕ × List ℕ
unfolding asked
asked_all table references clauses answer = asked table references clauses answer (length references / RECT_WORDS)

-- a point is x, y
abbrev pub POINT_WORDS : ℕ
POINT_WORDS = 2

abbrev pub nearest_at : List ℕ → List ℕ → ℕ → ℕ → NearestAnswer
nearest_at table words allowance at = nearest_call table (slice_index words at) (slice_index words (at + 1)) allowance

-- what an answer adds; that of a refused call is zeros
abbrev pub with_answer : NearestAnswer → ℕ → ℕ
with_answer a total = ((((total + a.number) % 2 ^ 64 + a.opened) % 2 ^ 64 + a.distance) % 2 ^ 64 + a.left_distance) % 2 ^ 64

-- the first n points, each as a call of its own
unfoldable pub nearest_of : List ℕ → List ℕ → ℕ → ℕ → ℕ
unfolding nearest_call
nearest_of table points allowance zero = 0
nearest_of table points allowance (suc n) =
    with_answer (nearest_at table points allowance (POINT_WORDS * n)) (nearest_of table points allowance n)

unfoldable pub nearest_all : List ℕ → List ℕ → ℕ → ℕ
unfolding nearest_of
nearest_all table points allowance = nearest_of table points allowance (length points / POINT_WORDS)
