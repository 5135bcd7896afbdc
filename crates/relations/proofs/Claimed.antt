-- The claims of `relations` hold.
use mathlib.Core.Path.{◌≡◌}
use Rattle.relations.specs.Axis.{turned}
use Rattle.relations.specs.Claims.{Claims}
use Rattle.relations.proofs.Sides.{is_code, of_code}
use Rattle.relations.proofs.Zones.{one-line}
use Rattle.relations.proofs.Turned.{turned-back, code-round}
use Rattle.relations.proofs.Swapped.{swapped, exchanged}
use Rattle.relations.proofs.Quarter.{quarter}
use Rattle.relations.proofs.Pages.{may-hold}
use Rattle.relations.proofs.Examples.{starred}
use Rattle.relations.proofs.Members.{sizes, members}

pub claimed : Claims
claimed = record {
  one_line = λ p1 p2 q1 q2 hp hq. (is_code p1 p2 q1 q2, one-line hq hp);
  back = of_code (λ c. turned (turned c) ≡ c) turned-back;
  round = λ p1 p2 q1 q2 m hp hq lp lq. code-round m hq hp lp lq;
  swapped = swapped;
  exchanged = exchanged;
  sets = quarter;
  rule = may-hold;
  starred = starred;
  sizes = sizes;
  members = members;
}
