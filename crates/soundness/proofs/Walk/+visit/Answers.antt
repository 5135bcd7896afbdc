-- Each child is visited before the others. The level falls at each call.
use Rattle.std.proofs.Common.{◌∙◌}
use Rattle.soundness.proofs.Walks.{below_none, below_stop, below_other, below_go, walk-not, walk-leaf, walk-good, walk-bad, alike, differ}
use Rattle.soundness.proofs.Walk.+visit.Goals as goal

pub returns-in_err-entries-clause-visited : goal.returns-in_err-entries-clause-visited
returns-in_err-entries-clause-visited t c = rw c.from_residual.ensures (walk-not c.in_err-entries.ensures.same.1 c.in_err-entries.ensures.tested)

pub returns-then-level-eq0-clause-visited : goal.returns-then-level-eq0-clause-visited
returns-then-level-eq0-clause-visited t c =
    let a = c.in_ok-entries.ensures in
    walk-leaf a.tested a.same.1 a.entries c.if-level-eq0.true c.leaf.ensures

pub returns-in_err-visit-clause-visited : goal.returns-in_err-visit-clause-visited
returns-in_err-visit-clause-visited t c =
    let a = c.in_ok-entries.ensures in
    let l = c.loop-e.invariant in
    rw c.from_residual-in_err-visit.ensures (walk-bad a.tested a.same.1 a.entries c.if-level-eq0.false (l.below _ _ _ (below_stop l.same c.in-Some.ensures.steps c.in_err-visit.ensures.visited)))

pub returns-then-ne-clause-visited : goal.returns-then-ne-clause-visited
returns-then-ne-clause-visited t c =
    let a = c.in_ok-entries.ensures in
    let l = c.loop-e.invariant in
    walk-bad a.tested a.same.1 a.entries c.if-level-eq0.false (l.below _ _ _ (below_other l.same c.in-Some.ensures.steps c.in_ok-visit.ensures.visited (differ c.ne.ensures c.if-ne.true)))

pub loop-e-preserved : goal.loop-e-preserved
loop-e-preserved t c =
    let l = c.loop-e.invariant in
    record {
      same = c.visit.ensures.same ∙ l.same;
      below = λ r h g y. l.below r h g (below_go l.same c.in-Some.ensures.steps c.in_ok-visit.ensures.visited (alike c.ne.ensures c.if-ne.false) y);
    }

pub returns-clause-visited : goal.returns-clause-visited
returns-clause-visited t c =
    let a = c.in_ok-entries.ensures in
    walk-good a.tested a.same.1 a.entries c.if-level-eq0.false c.bounds.ensures (c.loop-e.invariant.below _ _ _ (below_none c.in-None.ensures.steps.0))
