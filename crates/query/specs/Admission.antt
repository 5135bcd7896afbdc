-- When a query admits a rectangle, and when a page's rectangle may hold an admitted one.
use Rattle.std.specs.Prelude.{ℕ, Bool, List}
use Rattle.relations.specs.Axis.{code}
use Rattle.relations.specs.Query.{admits, row_sets}
use Rattle.relations.specs.Nodes.{may_hold}
use Rattle.pages.specs.declared.Rect.{Rect}

-- "A configuration is (i, j): i the code on y, j on x", with the rectangle as p and the reference as q
abbrev pub code_y : Rect → Rect → ℕ
code_y q p = code p.y1 p.y2 q.y1 q.y2

abbrev pub code_x : Rect → Rect → ℕ
code_x q p = code p.x1 p.x2 q.x1 q.x2

-- "It admits a rectangle when it admits that rectangle's configuration"
unfoldable pub admits_rect : List ℕ → Rect → Rect → Bool
admits_rect clauses q p = admits clauses (code_y q p) (code_x q p)

-- the page test by the thirteen sets
unfoldable pub opens : List ℕ → Rect → Rect → Bool
opens clauses q p = may_hold (row_sets clauses) (code_y q p) (code_x q p)
