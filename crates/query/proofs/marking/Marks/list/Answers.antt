-- The words that are left to be listed.
use native.Mathlib.Omega.{arith}
use Prim.Native.Nat.{◌+◌, ◌<◌}
use mathlib.Core.Path.{◌≡◌, sym, ap, subst, ◌∙◌}
use Rattle.relations.specs.Sets.{ones_from}
use Rattle.pages.specs.Lists.{concat_map, Every}
use Rattle.query.specs.Marks.{MARK_WORDS, numbers_in, marked_numbers}
use Rattle.query.proofs.Concat.{sets-part}
use Rattle.query.proofs.Marks.{named-below, named-numbers, writing-all, writing-more, writing-room}
use Rattle.query.proofs.marking.Marks.list.Goals as goal

pub loop-w-init : goal.loop-w-init
loop-w-init c =
    let n = c.self.inside.named in
    let m = c.self.inside.words in
    let e = c.into_iter-w-iterator.ensures.into_iter_gives ∙ c.new-w-items.ensures in record {
      writing = writing-all _ _ _ (ap (concat_map (numbers_in _)) e ∙ subst (λ x. concat_map (numbers_in x) (ones_from 0 64 n) ≡ marked_numbers x) c.self.view_is (named-numbers m n c.self.invariant));
      below = subst (Every (λ w. w < MARK_WORDS)) (sym e) (named-below m n c.self.invariant);
    }

pub loop-w-preserved : goal.loop-w-preserved
loop-w-preserved c =
    let i = c.loop-w.invariant in
    let s = c.in-Some.ensures.steps in
    let k = c.list_word-next.ensures in
    let numbers = numbers_in c.args.self.now c.in-Some.w in
    let rest = ap (concat_map (numbers_in c.args.self.now)) s in
    let room = writing-room _ _ numbers _ _ _ _ i.writing rest in record {
      writing = writing-more _ _ numbers _ _ _ _ _ _ i.writing rest (ap (λ n. c.loop-w.next + n) k.count)
          (sets-part c.loop-w.answer numbers _ c.loop-w.next (omega (arith, room, i.writing.size, c.requires)) k.words);
      below = (subst (Every (λ w. w < MARK_WORDS)) s i.below).1;
    }
