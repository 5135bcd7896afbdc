-- The claims about pages and windows hold.
use mathlib.Core.Path.{refl}
use Rattle.query.specs.Claims.{Claims}
use Rattle.query.proofs.Decided.{pages-decided, leaves-decided}
use Rattle.query.proofs.Edges.{page-small}
use Rattle.query.proofs.Halves.{halves-beyond}

pub claimed : Claims
claimed = record {
  small = page-small;
  decided-pages = λ rows q v p. let d = pages-decided rows q v _ _ _ _ refl refl refl refl in (d.fails p, λ o. d.passes o p);
  decided-leaves = λ rows q v p. let d = leaves-decided rows q v _ _ _ _ refl refl refl refl in (d.fails p, λ o. d.passes o p);
  paired = halves-beyond;
}
