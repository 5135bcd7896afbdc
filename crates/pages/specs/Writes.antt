-- A page changed in the middle of the table.
use Rattle.std.specs.Prelude.{ℕ, ◌+◌, ◌*◌, List, ◌++◌, take, drop}
use Rattle.pages.specs.Sizes.{PAGE_WORDS, TABLE_HEAD}

-- the table with the words w at page p
unfoldable pub put_page : List ℕ → ℕ → List ℕ → List ℕ
put_page t p w = take (TABLE_HEAD + PAGE_WORDS * p) t ++ (w ++ drop (TABLE_HEAD + PAGE_WORDS * p + PAGE_WORDS) t)
