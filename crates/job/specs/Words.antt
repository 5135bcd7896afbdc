-- A job read from bytes: where its words, pieces and queries lie.
use Rattle.std.specs.Prelude.{ℕ, zero, suc, ◌+◌, ◌*◌, Bool, ◌&&◌, cond, List, [], ◌∷◌, ◌++◌, length, get_or, leb, eqb}
use Rattle.pages.specs.declared.Rect.{Rect}
use Rattle.pages.specs.Rectangles.{rect_of}
use Rattle.history.specs.Book.{Call}
use Rattle.history.specs.Replay.{CALL_WORDS}
use Rattle.job.specs.Sizes.{JOB_BYTES, WORD_BYTES, BYTE_VALUES, WORD_VALUES, QUERY_HEAD, CLAUSE_COUNT_AT, CLAUSE_WORDS}
use Rattle.job.specs.Job.{Query, Job}
use Rattle.job.specs.Output.{job_lines, bad_job}

-- word i, "little-endian"; past the end, zeros
unfoldable pub word_at : List ℕ → ℕ → ℕ
word_at b i =
    get_or b (WORD_BYTES * i) 0
    + BYTE_VALUES * (get_or b (WORD_BYTES * i + 1) 0 + BYTE_VALUES * (get_or b (WORD_BYTES * i + 2) 0 + BYTE_VALUES * get_or b (WORD_BYTES * i + 3) 0))

abbrev pub rect_at : List ℕ → ℕ → Rect
rect_at b i = rect_of (word_at b i) (word_at b (i + 1)) (word_at b (i + 2)) (word_at b (i + 3))

-- "low word, high word"
abbrev pub clause_at : List ℕ → ℕ → ℕ
clause_at b i = word_at b i + WORD_VALUES * word_at b (i + 1)

unfoldable pub clauses_at : List ℕ → ℕ → ℕ → List ℕ
clauses_at b i zero = []
clauses_at b i (suc n) = clauses_at b i n ++ (clause_at b (i + CLAUSE_WORDS * n) ∷ [])

-- the first section: its count is word 0
abbrev pub piece_count : List ℕ → ℕ
piece_count b = word_at b 0

-- "Pieces: number, x1, y1, x2, y2"
abbrev pub piece_start : ℕ → ℕ
piece_start i = 1 + CALL_WORDS * i

abbrev pub piece_at : List ℕ → ℕ → Call
piece_at b i = record { number = word_at b (piece_start i); rect = rect_at b (piece_start i + 1) }

unfoldable pub pieces_in : List ℕ → ℕ → List Call
pieces_in b zero = []
pieces_in b (suc n) = pieces_in b n ++ (piece_at b n ∷ [])

-- the second section: its count is the word after the pieces
abbrev pub query_count : List ℕ → ℕ
query_count b = word_at b (piece_start (piece_count b))

-- where query i begins: each ends after its clauses
unfoldable pub query_start : List ℕ → ℕ → ℕ
query_start b zero = piece_start (piece_count b) + 1
query_start b (suc i) = query_start b i + QUERY_HEAD + CLAUSE_WORDS * word_at b (query_start b i + CLAUSE_COUNT_AT)

unfoldable pub query_at : List ℕ → ℕ → Query
unfolding clauses_at
query_at b i = record { reference = rect_at b i; clauses = clauses_at b (i + QUERY_HEAD) (word_at b (i + CLAUSE_COUNT_AT)) }

unfoldable pub queries_in : List ℕ → ℕ → List Query
unfolding query_at query_start
queries_in b zero = []
queries_in b (suc n) = queries_in b n ++ (query_at b (query_start b n) ∷ [])

unfoldable pub job_in : List ℕ → Job
unfolding pieces_in queries_in
job_in b = record { pieces = pieces_in b (piece_count b); queries = queries_in b (query_count b) }

-- "If there are more bytes, or they don't make up exactly that": a section that runs past the end asks for more bytes than there are
unfoldable pub well_formed : List ℕ → Bool
unfolding query_start
well_formed b = leb (length b) JOB_BYTES && eqb (length b) (WORD_BYTES * query_start b (query_count b))

-- what the program prints when these bytes are its standard input
unfoldable pub output : List ℕ → List ℕ
unfolding well_formed job_lines job_in bad_job
output b = cond (well_formed b) (job_lines (job_in b)) bad_job
