-- What the search finds, of the table and the point that are given.
use Prim.Native.Nat.{ℕ}
use native.Mathlib.Omega.{arith}
use mathlib.Core.Path.{ap, ◌∙◌}
use Rattle.pages.specs.Layout.{Table, table_in}
use Rattle.nearest.specs.declared.NearestAnswer.{NearestAnswer}
use Rattle.nearest.specs.Search.{opened_on}
use Rattle.nearest.specs.Calls.{answer_for, found_on}
use Rattle.nearest.proofs.Calls.{sound-accepts}
use Rattle.nearest.proofs.nearest_sound.Goals as goal

pub returns : goal.returns
returns c =
    let a = c.args in
    let p = c.in_ok-point.point in
    let e = c.in_ok-point.ensures in
    let s = c.new.ensures in
    let found : ℕ → ℕ → Table → NearestAnswer = λ x y t. answer_for (found_on x y t (opened_on x y t a.allowance)) in
    let x = ap (λ q. q.x) s.point ∙ e.0 in
    let y = ap (λ q. q.y) s.point ∙ e.1 in
    let t = ap (λ q. table_in q.words.now) s.table in
    ap answer_for c.run.ensures
    ∙ (λ i. found (x i) (y i) (t i))
    ∙ sound-accepts a.table.words.now a.x a.y a.allowance (omega (arith, p.x_most, e.0)) (omega (arith, p.y_most, e.1)) c.if-allowance-eq0.false
    (omega (arith, c.if-allowance.false)) (λ z. c.if-piece_count-eq0.false (c.piece_count.ensures ∙ z))
