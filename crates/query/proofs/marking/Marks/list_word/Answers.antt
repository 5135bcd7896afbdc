-- The places that are left of the word, and its number of each.
use Prim.Native.Nat.{◌<◌}
use mathlib.Core.Path.{sym, ap, subst, ◌∙◌}
use lib.ListN.{get_or}
use Rattle.relations.specs.Sets.{ones_from}
use Rattle.pages.specs.Lists.{Every}
use Rattle.query.proofs.Marks.{numbers_at, word-numbers, places-below, writing-all}
use Rattle.query.proofs.marking.Marks.list_word.Goals as goal

pub loop-place-init : goal.loop-place-init
loop-place-init c =
    let w = c.args.w in
    let e = c.into_iter-place-iterator.ensures.into_iter_gives ∙ c.new-place-items.ensures ∙ ap (λ m. ones_from 0 64 (get_or m w 0)) c.self.view_is in record {
      writing = writing-all _ _ _ (ap (numbers_at w) e ∙ word-numbers _ w);
      below = subst (Every (λ j. j < 64)) (sym e) (places-below _);
    }
