use Rattle.std.proofs.Common.{◌≤◌, ◌*◌, length}
use Rattle.job.specs.Words.{query_start}
use Rattle.job.specs.Steps.{WordsFrom}
use Rattle.job.proofs.Job.read.Given as goal

abbrev pub invariant-loop : goal.invariant-loop
invariant-loop l = WordsFrom l.bytes (query_start l.bytes l.counter) l.left × (4 * query_start l.bytes l.counter ≤ length l.bytes)
