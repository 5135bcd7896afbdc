-- What the walk from page p, which is at level l, meets: "from a page to its children one level lower".
use Rattle.std.specs.Prelude.{ℕ, zero, suc, ◌+◌, List}
use Rattle.pages.specs.declared.Entry.{Entry}
use Rattle.pages.specs.Lists.{sum}
use Rattle.pages.specs.Layout.{Page, page_at}

-- the sum of a weight over the entries of the leaves under the page
unfoldable pub under : (Entry → ℕ) → List Page → ℕ → ℕ → ℕ
under f ps zero p = sum f (page_at ps p).entries
under f ps (suc l) p = sum (λ e. under f ps l e.r) (page_at ps p).entries

-- the sum of a weight over the pages, each as often as the walk comes to it
unfoldable pub seen : (ℕ → ℕ) → List Page → ℕ → ℕ → ℕ
seen g ps zero p = g p
seen g ps (suc l) p = g p + sum (λ e. seen g ps l e.r) (page_at ps p).entries
