-- The clauses are few enough, so what decides is whether one is bad.
use native.Mathlib.Omega.{arith}
use Rattle.std.proofs.Common.{rules, tests, sym, ◌∙◌}
use Rattle.relations.proofs.Answer.{refuse-bad, accept}
use Rattle.relations.proofs.refused.Goals as goal

pub returns-then-some_bad : goal.returns-then-some_bad
returns-then-some_bad c =
    refuse-bad _ (search (rules, tests)) (omega arith) (sym c.some_bad.ensures ∙ c.if-some_bad.true)

pub returns : goal.returns
returns c = accept _ (search (rules, tests)) (omega arith) (sym c.some_bad.ensures ∙ c.if-some_bad.false)
