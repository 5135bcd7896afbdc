-- The least so far and of the entries left is the least of all.
use mathlib.Core.Path.{◌≡◌}
use Rattle.pages.specs.Lists.{Every}
use Rattle.pages.specs.Left.{left}
use Rattle.nearest.specs.Steps.{least_with, searched_entries}
use Rattle.nearest.proofs.Words.{Fitting}
use Rattle.nearest.proofs.search.Search.meet.Given as goal

abbrev pub invariant-loop-e : goal.invariant-loop-e
invariant-loop-e l = record {
  best : least_with l.self.point.x l.self.point.y l.best (left l.e-iterator) ≡ least_with l.self.point.x l.self.point.y l.self.best (searched_entries l.self l.p);
  each : Every Fitting (left l.e-iterator);
}
