use Rattle.std.proofs.Common.{◌≡◌, ◌≤◌, ◌+◌, ◌++◌, map, take}
use Rattle.arrayvec.specs.ArrayVec.{array_vec_len}
use Rattle.job.specs.Steps.{clause_in}
use Rattle.job.proofs.words.first_clauses.Given as goal

abbrev pub invariant-loop-words : goal.invariant-loop-words
invariant-loop-words l =
    (goal.iterator-loop-words).can_next l.words-iterator × (goal.iterator-loop-words).is_finite l.words-iterator
    × (l.read.items ++ map clause_in (take l.words-iterator.n l.words-iterator.iter.rest.now) ≡ map clause_in (take 9 l.clauses))
    × (array_vec_len l.read + l.words-iterator.n ≤ 9)
