-- Which pages are opened.
use Rattle.std.specs.Prelude.{ℕ, zero, suc, Bool, cond, List, [], ◌∷◌}
use Rattle.pages.specs.declared.Rect.{Rect}
use Rattle.pages.specs.Lists.{concat_map}
use Rattle.pages.specs.Layout.{Page, Table, page_at, page}

-- page p at level l, and the pages under it that the walk opens: "from a page to its children one level lower"
unfoldable pub opened_under : (Rect → Bool) → List Page → ℕ → ℕ → List ℕ
opened_under opens ps zero p = p ∷ []
opened_under opens ps (suc l) p = p ∷ concat_map (λ e. cond (opens e.rect) (opened_under opens ps l e.r) []) (page_at ps p).entries

-- "The root is always opened, also when empty"
unfoldable pub opened_pages : (Rect → Bool) → Table → List ℕ
unfolding opened_under
opened_pages opens t = opened_under opens t.pages (page t t.root).level t.root
