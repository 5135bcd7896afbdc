-- The hits and the answer slice before a query are those of the queries asked.
use Rattle.std.proofs.Common.{◌≡◌, ℕ, List}
use Rattle.finder_bench.specs.Asked.{asked}
use Rattle.finder_bench.proofs.bench_queries.Given as goal

abbrev pub invariant-loop-words : goal.invariant-loop-words
invariant-loop-words l = ◌≡◌ {A = ℕ × List ℕ} (l.hits, l.answer) (asked l.table.words.now l.references l.clauses l.initial.answer l.words-index)
