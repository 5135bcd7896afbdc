-- Page p is to be opened, and the allowance is not spent.
use Prim.Native.Nat.{◌-◌, ◌<◌}
use Rattle.nearest.specs.Steps.{Same}
use Rattle.nearest.proofs.Searching.{Ready}
use Rattle.nearest.proofs.search.Search.search.Given as goal

abbrev pub decreases-loop-at : goal.decreases-loop-at
decreases-loop-at l = l.allowance - l.self.opened

abbrev pub invariant-loop-at : goal.invariant-loop-at
invariant-loop-at l = record {
  ready : Ready l.fn.self.table l.fn.self.point l.self l.p;
  some : l.self.opened < l.allowance;
  same : Same l.fn.self l.self;
}
