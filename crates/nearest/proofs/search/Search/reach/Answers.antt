-- The entries of a page of a sound table fit into words.
use native.Mathlib.Omega.{arith}
use mathlib.Core.Path.{refl, sym, ap, subst, ◌∙◌}
use mathlib.Core.List.{◌++◌}
use lib.ListN.{length}
use Rattle.pages.specs.Lists.{Every}
use Rattle.pages.specs.Left.{left}
use Rattle.nearest.specs.Steps.{words_of}
use Rattle.nearest.proofs.Words.{Fitting, entries-fit}
use Rattle.nearest.proofs.search.Search.reach.Goals as goal

pub loop-e-init : goal.loop-e-init
loop-e-init c =
    let s = c.args.self.now in
    let e = ap left c.into_iter-e-iterator.ensures.into_iter_gives ∙ c.entries-e-items.ensures in record {
      words = ap (λ es. s.waiting.items ++ words_of s.point es) e;
      room = omega (arith, c.requires.room, ap length e);
      each = subst (Every Fitting) (sym e) (entries-fit _ s.table.holds _ c.requires.page);
      same = (record { table = refl; point = refl }, refl, refl);
    }
