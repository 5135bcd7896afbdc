-- Each way out is one of the three laws of the code by its sides.
use mathlib.Core.Path.{ap, ap₂, ◌∙◌}
use Prim.Native.Nat.{ℕ, ◌+◌, ◌*◌}
use native.Mathlib.Omega.{arith}
use Rattle.relations.proofs.Sides.{code-above, code_below, code-over}
use Rattle.relations.proofs.axis_code.Goals as goal

pub returns-then-p1-q2 : goal.returns-then-p1-q2
returns-then-p1-q2 c = ap (λ (s : ℕ). 1 + s) c.side.ensures.0 ∙ code-above c.args.p1 c.args.p2 c.args.q1 c.args.q2 (omega arith)

pub returns-then-p2-q1 : goal.returns-then-p2-q1
returns-then-p2-q1 c =
    ap (λ (s : ℕ). 11 + s) c.side-then-p2-q1.ensures.0
    ∙ code_below _ _ _ _ c.requires c.if-p1-q2.false c.if-p2-q1.true

pub returns : goal.returns
returns c =
    ap₂ (λ (e s : ℕ). 3 + 3 * e + s) c.side-2.ensures.0 c.side-3.ensures.0
    ∙ code-over _ _ _ _ c.if-p1-q2.false c.if-p2-q1.false
