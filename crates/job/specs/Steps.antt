-- What the functions over a job's bytes are held to, item by item.
use Rattle.std.specs.Prelude.{ℕ, zero, suc, ◌+◌, ◌*◌, ◌≤◌, ◌≡◌, List, [], ◌++◌, length, drop, get_or}
use Rattle.std.specs.List.{concat}
use Rattle.pages.specs.Calls.{empty_words}
use Rattle.placing.specs.Calls.{place_call}
use Rattle.query.specs.Calls.{query_call}
use Rattle.job.specs.Sizes.{WORD_BYTES, WORD_VALUES, QUERY_HEAD, CLAUSE_COUNT_AT, CLAUSE_WORDS, LINE_BYTES}
use Rattle.job.specs.Job.{Query}
use Rattle.job.specs.Output.{piece_line, query_line, answer_of}
use Rattle.job.specs.Words.{word_at, piece_count, piece_at, query_start, query_at}

-- the bytes are those of the words, one behind the other
abbrev pub InWords : List ℕ → List (List ℕ) → Type 0
InWords bytes words = (concat words ≡ bytes) × (length bytes ≡ WORD_BYTES * length words)

-- the words of the bytes from a word on
abbrev pub WordsFrom : List ℕ → ℕ → List (List ℕ) → Type 0
WordsFrom bytes at words = InWords (drop (WORD_BYTES * at) bytes) words

-- how many words the query at the front has
abbrev pub query_size : List ℕ → ℕ
query_size b = QUERY_HEAD + CLAUSE_WORDS * word_at b CLAUSE_COUNT_AT

-- the clause of two words, each as its bytes
abbrev pub clause_in : List (List ℕ) → ℕ
clause_in words = word_at (get_or words 0 []) 0 + WORD_VALUES * word_at (get_or words 1 []) 0

-- the table after the first i pieces
unfoldable pub table_at : List ℕ → ℕ → List ℕ
unfolding place_call empty_words
table_at b zero = empty_words
table_at b (suc i) = (place_call (table_at b i) (piece_at b i).number (piece_at b i).rect).1

-- the table after all of them
abbrev pub full_table : List ℕ → List ℕ
full_table b = table_at b (piece_count b)

-- the line of piece i
unfoldable pub piece_line_at : List ℕ → ℕ → List ℕ
unfolding piece_line place_call table_at
piece_line_at b i = piece_line i (place_call (table_at b i) (piece_at b i).number (piece_at b i).rect).0

-- the line of query i
unfoldable pub query_line_at : List ℕ → ℕ → List ℕ
unfolding query_line answer_of table_at query_at query_start
query_line_at b i = query_line i (answer_of (full_table b) (query_at b (query_start b i)))

-- the answer slice after query i, from what it held before
unfoldable pub answer_after : List ℕ → ℕ → List ℕ → List ℕ
unfolding query_call table_at query_at query_start
answer_after b i answer =
    let q : Query = query_at b (query_start b i) in
    (query_call (full_table b) q.reference q.clauses answer).1

-- the lines of the first n items
abbrev pub lines_to : (ℕ → List ℕ) → ℕ → List ℕ
lines_to f zero = []
lines_to f (suc n) = lines_to f n ++ f n

-- a line fits behind what was gathered, where `size` bytes do
abbrev pub HasRoom : ℕ → List ℕ → Type 0
HasRoom size gathered = length gathered + LINE_BYTES ≤ size

-- what is gathered behind what was, and that it is no longer than a line
pub record Gathers (before after text : List ℕ) : Type 0 where
  pub bytes : after ≡ before ++ text
  pub most : length text ≤ LINE_BYTES
