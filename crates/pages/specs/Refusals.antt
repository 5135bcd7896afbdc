-- The numbers that the calls on a table return; "Zero means accepted".
use Rattle.std.specs.Prelude.{ℕ}

abbrev pub ACCEPTED : ℕ
ACCEPTED = 0

-- 1 "table slice shorter than 14,325 words"
abbrev pub TABLE_TOO_SHORT : ℕ
TABLE_TOO_SHORT = 1

-- 2 "rectangle not valid"
abbrev pub RECTANGLE_NOT_VALID : ℕ
RECTANGLE_NOT_VALID = 2

-- 3 "piece number above 1,023"
abbrev pub NUMBER_TOO_LARGE : ℕ
NUMBER_TOO_LARGE = 3

-- 6 "table not sound"
abbrev pub TABLE_NOT_SOUND : ℕ
TABLE_NOT_SOUND = 6

-- 7 "number already standing, which for a call means that it is the r of one of the n entries of a leaf in the table it works on"
abbrev pub ALREADY_STANDING : ℕ
ALREADY_STANDING = 7

-- 8 "answer slice shorter than the piece count (query) or than k (opened pages)"
abbrev pub ANSWER_TOO_SHORT : ℕ
ANSWER_TOO_SHORT = 8

-- 13 "point or allowance out of range"
abbrev pub OUT_OF_RANGE : ℕ
OUT_OF_RANGE = 13

-- 14 "table without pieces"
abbrev pub NO_PIECES : ℕ
NO_PIECES = 14
