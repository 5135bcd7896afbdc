use native.Mathlib.Omega.{arith}
use mathlib.Core.Path.{sym, ap, ◌∙◌}
use lib.ListN.{length}
use Rattle.outline.proofs.Indexed.{in-range, rest-within}
use Rattle.outline.proofs.Walking.{edges-none, edges-next}
use Rattle.outline.proofs.words.EdgesIterator.next.Goals as goal

pub returns-in_default-clause-steps : goal.returns-in_default-clause-steps
returns-in_default-clause-steps c = let e = sym c.self.view_is ∙ edges-none _ _ c.in_default.len_below in (e, e)

pub point_within-to-requires : goal.point_within-to-requires
point_within-to-requires c = (in-range _ 0 c.self.invariant, in-range _ 1 c.self.invariant)

pub invariant_of-self : goal.invariant_of-self
invariant_of-self c = rest-within _ c.self.invariant

pub returns-clause-steps : goal.returns-clause-steps
returns-clause-steps c = rw c.point_within-to.ensures (sym c.self.view_is ∙ edges-next _ _ c.in-len2-up.len_at_least)

pub returns-clause-goes : goal.returns-clause-goes
returns-clause-goes c = record { on = λ _. (tt, tt, omega (arith, ap length (returns-clause-steps c))); keeps = tt; rests = λ _. tt }
