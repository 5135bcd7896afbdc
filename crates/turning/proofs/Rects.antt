-- Turned rectangles: validity, four turns, and the configuration of two.
use Prim.Native.Nat.{ℕ, ◌-◌, ◌≤◌}
use native.Mathlib.Omega.{arith}
use mathlib.Core.Path.{◌≡◌, refl, sym, ap₂, ◌∙◌, subst}
use mathlib.Core.Bool.{true}
use mathlib.Core.List.{List}
use lib.Dec.{T}
use Rattle.std.proofs.lemmas.Grind.{common_steps}
use Rattle.relations.specs.Axis.{turned}
use Rattle.relations.specs.Query.{admits}
use Rattle.relations.proofs.Sides.{is_code}
use Rattle.relations.proofs.Turned.{code-round}
use Rattle.pages.specs.declared.Rect.{Rect}
use Rattle.pages.specs.Sizes.{EDGE}
use Rattle.pages.specs.Rectangles.{valid}
use Rattle.pages.proofs.Lists.{true-T, T_true}
use Rattle.pages.proofs.Valid.{edges}
use Rattle.query.specs.Admission.{code_y, code_x, admits_rect}
use Rattle.turning.specs.Turn.{turn_rect, turn_query, turned_rect}
use Rattle.turning.proofs.Clauses.{admits-turned}

pub valid_same : (r : Rect) → r.x2 ≤ EDGE → valid (turn_rect r) ≡ valid r
unfolding valid turn_rect
valid_same r l = grind (arith, common_steps)

pub turned-valid : (r : Rect) → T (valid r) → T (valid (turn_rect r))
turned-valid r v = subst T (sym (valid_same r (edges r v).x-end)) v

-- what `turned_rect` returns
pub turned-is : (r : Rect) → T (valid r) → turned_rect r ≡ turn_rect r
unfolding turned_rect
turned-is r v = rw (T_true (valid r) v)

pub returned-valid : (r : Rect) → valid (turned_rect r) ≡ valid r
unfolding turned_rect turn_rect valid
returned-valid r = grind (arith, common_steps)

pub four-rect : (r : Rect) → T (valid r) → turn_rect (turn_rect (turn_rect (turn_rect r))) ≡ r
unfolding turn_rect
four-rect r v =
    let e = edges r v in
    let a : EDGE - (EDGE - r.x1) ≡ r.x1 = omega (arith, e.x-start) in
    let b : EDGE - (EDGE - r.y1) ≡ r.y1 = omega (arith, e.y-start) in
    let c : EDGE - (EDGE - r.x2) ≡ r.x2 = omega (arith, e.x-end) in
    let d : EDGE - (EDGE - r.y2) ≡ r.y2 = omega (arith, e.y-end) in
    λ i. record { x1 = a i; y1 = b i; x2 = c i; y2 = d i }

pub four-returned : (r : Rect) → T (valid r) → turned_rect (turned_rect (turned_rect (turned_rect r))) ≡ r
four-returned r v =
    let v1 = turned-valid r v in
    let v2 = turned-valid (turn_rect r) v1 in
    let v3 = turned-valid (turn_rect (turn_rect r)) v2 in
    rw (turned-is r v, turned-is (turn_rect r) v1, turned-is (turn_rect (turn_rect r)) v2, turned-is (turn_rect (turn_rect (turn_rect r))) v3) (four-rect r v)

-- the configuration (i, j) becomes (j turned round, i)
module _ (q p : Rect) where
  pub turned-x : code_x (turn_rect q) (turn_rect p) ≡ code_y q p
  unfolding turn_rect
  turned-x = refl

  module _ (vq : T (valid q)) (vp : T (valid p)) where
    pub turned-y : code_y (turn_rect q) (turn_rect p) ≡ turned (code_x q p)
    unfolding turn_rect
    turned-y = code-round EDGE (edges q vq).on-x (edges p vp).on-x (edges p vp).x-end (edges q vq).x-end

    -- a turned query admits a turned rectangle exactly when the query admits the rectangle
    pub rect-turned : (clauses : List ℕ) → admits_rect (turn_query clauses) (turn_rect q) (turn_rect p) ≡ admits_rect clauses q p
    unfolding admits_rect
    rect-turned clauses =
        ap₂ (λ i j. admits (turn_query clauses) i j) turned-y turned-x
        ∙ admits-turned (code_y q p) (code_x q p) (is_code p.y1 p.y2 q.y1 q.y2) (is_code p.x1 p.x2 q.x1 q.x2) clauses

-- a valid rectangle's edges can be taken off
pub edges_fit : (r : Rect) → valid r ≡ true → (r.x1 ≤ EDGE) × (r.x2 ≤ EDGE)
edges_fit r t =
    let e = edges r (true-T (valid r) t) in
    (e.x-start, e.x-end)
