-- The words so far and those of the entries left make the whole.
use Prim.Native.Nat.{◌+◌, ◌≤◌}
use mathlib.Core.Path.{◌≡◌}
use mathlib.Core.List.{◌++◌}
use lib.ListN.{length}
use Rattle.pages.specs.Sizes.{PAGES}
use Rattle.pages.specs.Lists.{Every}
use Rattle.pages.specs.Left.{left}
use Rattle.nearest.specs.Steps.{words_of, searched_entries, Same}
use Rattle.nearest.proofs.Words.{Fitting}
use Rattle.nearest.proofs.search.Search.reach.Given as goal

abbrev pub invariant-loop-e : goal.invariant-loop-e
invariant-loop-e l = record {
  words : l.self.waiting.items ++ words_of l.self.point (left l.e-iterator) ≡ l.fn.self.waiting.items ++ words_of l.fn.self.point (searched_entries l.fn.self l.p);
  room : length l.self.waiting.items + length (left l.e-iterator) ≤ PAGES;
  each : Every Fitting (left l.e-iterator);
  same : Same l.fn.self l.self × (l.self.best ≡ l.fn.self.best) × (l.self.opened ≡ l.fn.self.opened);
}
