-- The entries of a page of a sound table fit into words.
use mathlib.Core.Path.{sym, ap, subst, ◌∙◌}
use Rattle.pages.specs.Lists.{Every}
use Rattle.pages.specs.Left.{left}
use Rattle.nearest.specs.Steps.{least_with}
use Rattle.nearest.proofs.Words.{Fitting, entries-fit}
use Rattle.nearest.proofs.search.Search.meet.Goals as goal

pub loop-e-init : goal.loop-e-init
loop-e-init c =
    let s = c.args.self.now in
    let e = ap left c.into_iter-e-iterator.ensures.into_iter_gives ∙ c.entries-e-items.ensures in record {
      best = ap (least_with s.point.x s.point.y s.best) e;
      each = subst (Every Fitting) (sym e) (entries-fit _ s.table.holds _ c.requires.page);
    }
