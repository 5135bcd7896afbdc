-- The least of the words so far.
use Prim.Native.Nat.{ℕ, ◌≤◌, ◌<◌}
use mathlib.Core.Path.{◌≡◌}
use lib.ListN.{length, get_or}
use Rattle.nearest.proofs.search.Search.least.Given as goal

abbrev pub invariant-loop-i : goal.invariant-loop-i
invariant-loop-i l = record {
  inside : l.at < length l.words;
  there : get_or l.words l.at 0 ≡ l.least;
  least : (k : ℕ) → k < l.i → l.least ≤ get_or l.words k 0;
}
