-- The tests by row sets and by joined rows are those of the definitions; an admitted rectangle reaches the page that holds it.
use Prim.Native.Nat.{ℕ, ◌<◌}
use native.Mathlib.Omega.{arith}
use mathlib.Core.Path.{◌≡◌}
use mathlib.Core.Logic.{◌↔◌}
use mathlib.Core.Bool.{true}
use mathlib.Core.List.{List}
use lib.Dec.{T}
use Rattle.relations.specs.Query.{row_sets}
use Rattle.relations.specs.Steps.{joined_of}
use Rattle.relations.proofs.Sides.{is_code}
use Rattle.relations.proofs.Pages.{rows-have, page-test, may-hold, holds-inside}
use Rattle.pages.specs.declared.Rect.{Rect}
use Rattle.pages.specs.Rectangles.{valid}
use Rattle.pages.proofs.Lists.{true-T, T_true}
use Rattle.pages.proofs.Valid.{edges}
use Rattle.pages.proofs.Walk.{Within}
use Rattle.query.specs.Admission.{code_y, code_x, admits_rect, opens}
use Rattle.query.specs.Demand2.{QuarterIn}
use Rattle.query.specs.Steps.{admits_by, opens_by}

pub admits-same : (clauses : List ℕ) (q : Rect) → admits_by (row_sets clauses) q ≡ admits_rect clauses q
unfolding admits_by admits_rect
admits-same clauses q = λ i p. rows-have clauses (code_y q p) (code_x q p) (is_code p.y1 p.y2 q.y1 q.y2) (is_code p.x1 p.x2 q.x1 q.x2) i

pub opens-same : (clauses : List ℕ) (q : Rect) → opens_by (joined_of (row_sets clauses)) q ≡ opens clauses q
unfolding opens_by opens
opens-same clauses q = λ i p. page-test (row_sets clauses) (code_y q p) (code_x q p) (is_code p.y1 p.y2 q.y1 q.y2) i

-- the order of a valid rectangle's edges
pub record Proper (r : Rect) : Type 0 where
  pub on-x : r.x1 < r.x2
  pub on-y : r.y1 < r.y2

pub proper : (r : Rect) → T (valid r) → Proper r
proper r v =
    let e = edges r v in
    record { on-x = e.on-x; on-y = e.on-y }

pub around : (r s : Rect) → Proper r → Within r s → Proper s
around r s p w = omega arith

-- an admitted rectangle inside a page's makes the page open
pub reaches : (clauses : List ℕ) (q : Rect) → Proper q → (r s : Rect) → T (valid r) → Within r s → T (admits_rect clauses q r) → T (opens clauses q s)
unfolding admits_rect opens
reaches clauses q pq r s v w a =
    let pr = proper r v in
    let ps = around r s pr w in
    true-T _
    (holds-inside clauses s.x1 s.y1 s.x2 s.y2 q.x1 q.y1 q.x2 q.y2 ps.on-x ps.on-y pq.on-x pq.on-y r.x1 r.y1 r.x2 r.y2
    w.left w.bottom pr.on-x pr.on-y w.right w.head (T_true _ a))

-- the page test is the quarter-unit rule
pub quarter-rule : (clauses : List ℕ) (q s : Rect) → Proper q → Proper s → QuarterIn clauses q s ↔ (opens clauses q s ≡ true)
unfolding opens
quarter-rule clauses q s pq ps =
    may-hold clauses s.x1 s.y1 s.x2 s.y2 q.x1 q.y1 q.x2 q.y2 ps.on-x ps.on-y pq.on-x pq.on-y
