use Prim.Native.Nat.{◌<◌}
use Rattle.pages.specs.Lists.{concat_map, Every}
use Rattle.query.specs.Marks.{MARK_WORDS, numbers_in, marked_numbers}
use Rattle.query.proofs.Marks.{Writing}
use Rattle.query.proofs.marking.Marks.list.Given as goal

abbrev pub invariant-loop-w : goal.invariant-loop-w
invariant-loop-w l = record {
  writing : Writing (marked_numbers l.self) (concat_map (numbers_in l.self) l.w-iterator) l.next l.initial.answer l.answer;
  below : Every (λ w. w < MARK_WORDS) l.w-iterator;
}
