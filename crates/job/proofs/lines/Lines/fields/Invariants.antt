use Rattle.std.proofs.Common.{◌≡◌, ◌++◌, take}
use Rattle.job.specs.Lines.{fields}
use Rattle.job.proofs.lines.Lines.fields.Given as goal

abbrev pub invariant-loop-n : goal.invariant-loop-n
invariant-loop-n g l = l.self ≡ l.initial.self ++ fields (take l.n-index l.numbers)
