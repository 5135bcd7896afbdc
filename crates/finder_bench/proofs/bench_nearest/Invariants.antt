-- The total before a point is that of the points asked for.
use Rattle.std.proofs.Common.{◌≡◌}
use Rattle.finder_bench.specs.Asked.{nearest_of}
use Rattle.finder_bench.proofs.bench_nearest.Given as goal

abbrev pub invariant-loop-words : goal.invariant-loop-words
invariant-loop-words l = l.total ≡ nearest_of l.table.words.now l.points-2 l.allowance l.words-index
