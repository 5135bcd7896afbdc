-- The whole output of a job.
use Rattle.std.specs.Prelude.{ℕ, suc, cond, List, [], ◌∷◌, ◌++◌, take, replicate, eqb}
use Rattle.pages.specs.Sizes.{PIECES}
use Rattle.pages.specs.Refusals.{ACCEPTED}
use Rattle.pages.specs.Calls.{empty_words}
use Rattle.placing.specs.Calls.{place_call}
use Rattle.query.specs.declared.Answer.{Answer}
use Rattle.query.specs.Calls.{query_call}
use Rattle.history.specs.Book.{Call}
use Rattle.history.specs.History.{placed}
use Rattle.job.specs.Lines.{SPACE, NEWLINE, UNPLACED, ANSWERED, REFUSED, line}
use Rattle.job.specs.Job.{Query, Job}

-- "A refused piece prints "P", its position from 0 and the refusal"
unfoldable pub piece_line : ℕ → ℕ → List ℕ
unfolding line
piece_line position refusal = cond (eqb refusal ACCEPTED) [] (line UNPLACED (position ∷ refusal ∷ []))

-- "a refused query "R" likewise. An accepted query prints "Q", position, hits, opened pages, then the piece numbers"
unfoldable pub query_line : ℕ → Answer × List ℕ → List ℕ
unfolding line
query_line position a =
    cond (eqb a.0.refusal ACCEPTED)
    (line ANSWERED (position ∷ a.0.hits ∷ a.0.opened ∷ take a.0.hits a.1))
    (line REFUSED (position ∷ a.0.refusal ∷ []))

-- an answer slice with room for every piece
unfoldable pub room : List ℕ
room = replicate PIECES 0

unfoldable pub answer_of : List ℕ → Query → Answer × List ℕ
unfolding query_call room
answer_of words q = query_call words q.reference q.clauses room

-- the lines of the pieces from a position on, each placed in the table that the one before it left
unfoldable pub piece_lines : ℕ → List ℕ → List Call → List ℕ
unfolding place_call piece_line
piece_lines position words [] = []
piece_lines position words (c ∷ cs) =
    piece_line position (place_call words c.number c.rect).0
    ++ piece_lines (suc position) (place_call words c.number c.rect).1 cs

unfoldable pub query_lines : ℕ → List ℕ → List Query → List ℕ
unfolding answer_of query_line
query_lines position words [] = []
query_lines position words (q ∷ qs) = query_line position (answer_of words q) ++ query_lines (suc position) words qs

-- the pieces are placed in the empty table, then the queries are answered
unfoldable pub job_lines : Job → List ℕ
unfolding piece_lines query_lines placed empty_words
job_lines j = piece_lines 0 empty_words j.pieces ++ query_lines 0 (placed empty_words j.pieces) j.queries

-- "bad job", and a newline
unfoldable pub bad_job : List ℕ
bad_job = 98 ∷ 97 ∷ 100 ∷ SPACE ∷ 106 ∷ 111 ∷ 98 ∷ NEWLINE ∷ []
