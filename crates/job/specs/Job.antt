-- A job, and its bytes: "little-endian 32-bit words in two sections, each after its count".
use Rattle.std.specs.Prelude.{ℕ, zero, suc, ◌/◌, ◌%◌, List, [], ◌∷◌, ◌++◌, length}
use Rattle.pages.specs.Lists.{concat_map}
use Rattle.pages.specs.declared.Rect.{Rect}
use Rattle.history.specs.Book.{Call}
use Rattle.job.specs.Sizes.{WORD_BYTES, BYTE_VALUES, WORD_VALUES}

pub record Query : Type 0 where
  pub reference : Rect
  pub clauses : List ℕ

-- a piece is a place call: its number and its rectangle
pub record Job : Type 0 where
  pub pieces : List Call
  pub queries : List Query

abbrev pub rect_words : Rect → List ℕ
rect_words r = r.x1 ∷ r.y1 ∷ r.x2 ∷ r.y2 ∷ []

-- "number, x1, y1, x2, y2"
unfoldable pub piece_words : Call → List ℕ
piece_words c = c.number ∷ rect_words c.rect

-- "each clause as low word, high word"
unfoldable pub clause_words : ℕ → List ℕ
clause_words c = (c % WORD_VALUES) ∷ (c / WORD_VALUES) ∷ []

-- "x1, y1, x2, y2, clause count, then each clause"
unfoldable pub query_words : Query → List ℕ
unfolding clause_words
query_words q = rect_words q.reference ++ (length q.clauses ∷ concat_map clause_words q.clauses)

-- "in two sections, each after its count"
unfoldable pub job_words : Job → List ℕ
unfolding piece_words query_words
job_words j =
    length j.pieces
    ∷ (concat_map piece_words j.pieces
    ++ (length j.queries
    ∷ concat_map query_words j.queries))

-- the lowest byte first
abbrev pub little_endian : ℕ → ℕ → List ℕ
little_endian zero n = []
little_endian (suc k) n = (n % BYTE_VALUES) ∷ little_endian k (n / BYTE_VALUES)

unfoldable pub job_bytes : Job → List ℕ
unfolding job_words
job_bytes j = concat_map (little_endian WORD_BYTES) (job_words j)
