use Prim.Native.Nat.{◌<◌}
use Rattle.pages.specs.Lists.{Every}
use Rattle.query.specs.Marks.{numbers_in}
use Rattle.query.proofs.Marks.{Writing, numbers_at}
use Rattle.query.proofs.marking.Marks.list_word.Given as goal

abbrev pub invariant-loop-place : goal.invariant-loop-place
invariant-loop-place l = record {
  writing : Writing (numbers_in l.self l.w) (numbers_at l.w l.place-iterator) l.count l.initial.answer l.answer;
  below : Every (λ j. j < 64) l.place-iterator;
}
