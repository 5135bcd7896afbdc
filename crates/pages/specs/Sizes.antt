-- The sizes of a table and the limits of its values, each named once.
use Rattle.std.specs.Prelude.{ℕ}

-- "A piece has a number, 0 to 1,023": how many numbers there are
abbrev pub PIECES : ℕ
PIECES = 1_024

-- no edge exceeds it
abbrev pub EDGE : ℕ
EDGE = 1_000_000

-- "its level (leaf 0), its entry count n, then 8 entries of x1, y1, x2, y2, r"
abbrev pub PAGE_HEAD : ℕ
PAGE_HEAD = 2

abbrev pub FANOUT : ℕ
FANOUT = 8

abbrev pub ENTRY_WORDS : ℕ
ENTRY_WORDS = 5

abbrev pub PAGE_WORDS : ℕ
PAGE_WORDS = 42

-- "Word 0 is the page count k, word 1 the root's page number, word 2 the piece count. Then come 341 pages"
abbrev pub TABLE_HEAD : ℕ
TABLE_HEAD = 3

abbrev pub PAGES : ℕ
PAGES = 341

-- "A table is the first 14,325 words"
abbrev pub TABLE_WORDS : ℕ
TABLE_WORDS = 14_325

-- "Levels are 0 to 4"
abbrev pub TOP_LEVEL : ℕ
TOP_LEVEL = 4

-- "n is 4 to 8. A root above level 0 may have 2 to 8"
abbrev pub FEWEST : ℕ
FEWEST = 4

abbrev pub ROOT_LEAST : ℕ
ROOT_LEAST = 2
