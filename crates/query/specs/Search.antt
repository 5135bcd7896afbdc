-- What a search asks of rectangles, and the pages that it opens.
use Rattle.std.specs.Prelude.{ℕ, Bool, ◌≡◌, List}
use Rattle.relations.specs.Query.{row_sets}
use Rattle.pages.specs.declared.Rect.{Rect}
use Rattle.pages.specs.Layout.{Table, table_in}
use Rattle.query.specs.declared.searches.Search.{Search}
use Rattle.query.specs.Opening.{opened_under, opened_pages}
use Rattle.query.specs.Steps.{admits_by, opens_by}

abbrev pub admits_in : Search → Rect → Bool
admits_in s = admits_by s.set.rows s.reference.rect

abbrev pub opens_in : Search → Rect → Bool
opens_in s = opens_by s.test.below s.reference.rect

-- the search of a query on the table that the words are
pub record SearchFor (w : List ℕ) (q : Rect) (clauses : List ℕ) (s : Search) : Type 0 where
  pub table : s.table.words.now ≡ w
  pub reference : s.reference.rect ≡ q
  pub rows : s.set.rows ≡ row_sets clauses

abbrev pub table_of : Search → Table
table_of s = table_in s.table.words.now

-- the pages that are opened from page p at level l, and from the root
abbrev pub opened_at : Search → ℕ → ℕ → List ℕ
opened_at s l p = opened_under (opens_in s) (table_of s).pages l p

abbrev pub opened_in : Search → List ℕ
opened_in s = opened_pages (opens_in s) (table_of s)
