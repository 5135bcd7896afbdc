-- The sizes of a job and of a line, each named once.
use Rattle.std.specs.Prelude.{ℕ}

-- "reads up to 65,536 bytes"
abbrev pub JOB_BYTES : ℕ
JOB_BYTES = 65_536

-- "little-endian 32-bit words"
abbrev pub WORD_BYTES : ℕ
WORD_BYTES = 4

-- how many values a byte has, and a word
abbrev pub BYTE_VALUES : ℕ
BYTE_VALUES = 256

abbrev pub WORD_VALUES : ℕ
WORD_VALUES = 4_294_967_296

-- "Queries: x1, y1, x2, y2, clause count, then each clause as low word, high word"
abbrev pub QUERY_HEAD : ℕ
QUERY_HEAD = 5

-- the place of the clause count among them
abbrev pub CLAUSE_COUNT_AT : ℕ
CLAUSE_COUNT_AT = 4

abbrev pub CLAUSE_WORDS : ℕ
CLAUSE_WORDS = 2

-- the most bytes of a space and a 32-bit number, and of a space and a 16-bit number
abbrev pub FIELD_BYTES : ℕ
FIELD_BYTES = 11

abbrev pub NUMBER_BYTES : ℕ
NUMBER_BYTES = 6

-- no line is longer
abbrev pub LINE_BYTES : ℕ
LINE_BYTES = 8_192
