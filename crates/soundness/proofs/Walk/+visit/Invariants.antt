use Rattle.std.proofs.Common.{◌≡◌, ◌-◌, List, Bool}
use Rattle.pages.specs.Left.{left}
use Rattle.soundness.proofs.Walks.{Below}
use Rattle.soundness.proofs.Walk.+visit.Given as goal

abbrev pub decreases-visit : goal.decreases-visit
decreases-visit l = l.level

-- what the entries left come to decides of them all
abbrev pub invariant-loop-e : goal.invariant-loop-e
invariant-loop-e l = record {
  same : l.self.table.now ≡ l.fn.self.table.now;
  below : (r : Bool) (h g : List Bool)
      → Below l.fn.self.table.now (l.level - 1) (left l.e-iterator) l.self.seen l.self.numbers r h g
      → Below l.fn.self.table.now (l.level - 1) (left l.entries) l.initial.self.seen l.initial.self.numbers r h g;
}
