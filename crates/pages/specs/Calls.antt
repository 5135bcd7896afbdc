-- The empty call: what it returns, and the words of the slice that it leaves.
use Rattle.std.specs.Prelude.{ℕ, ◌-◌, cond, List, ◌∷◌, ◌++◌, length, drop, replicate, ltb}
use Rattle.pages.specs.Sizes.{TABLE_WORDS}
use Rattle.pages.specs.Refusals.{ACCEPTED, TABLE_TOO_SHORT}

-- "The empty table has k = 1, root 0, and zeros elsewhere"
unfoldable pub empty_words : List ℕ
empty_words = 1 ∷ replicate (TABLE_WORDS - 1) 0

-- "empty 1"; words after the table are left
unfoldable pub empty_call : List ℕ → ℕ × List ℕ
unfolding empty_words
empty_call w = cond (ltb (length w) TABLE_WORDS) (TABLE_TOO_SHORT, w) (ACCEPTED, empty_words ++ drop TABLE_WORDS w)
