-- Turning an axis round: `turned` is its own inverse, and it gives the code of the two intervals turned round.
use mathlib.Core.Bool.{Bool, true}
use mathlib.Core.Path.{◌≡◌, refl, ap, sym, ◌∙◌}
use Prim.Native.Nat.{ℕ, suc, ◌-◌, ◌≤◌, ◌<◌}
use native.Mathlib.Omega.{arith}
use lib.Dec.{eqb}
use borrow.Author.Tests.{eqb-true}
use Rattle.relations.specs.Axis.{CODES, lines, code, turned}
use Rattle.relations.proofs.Tests.{all_below, all_pairs, all-at}
use Rattle.relations.proofs.Sides.{Side, below, at, above, Alike, same_code}
use Rattle.relations.proofs.Zones.{zone, zone-lt, feasible, zoned, all_zones, at-zones, by-zones}

back_right : ℕ → Bool
back_right c = eqb (turned (turned (suc c))) (suc c)

back-test : all_below back_right CODES ≡ true
unfolding all_below back_right
back-test = refl

pub turned-back : (c : ℕ) → c < CODES → turned (turned (suc c)) ≡ suc c
unfolding back_right
turned-back c h = eqb-true _ _ (all-at back_right CODES c back-test h)

turned_right : ℕ → ℕ → Bool
turned_right z w = eqb (code (4 - w) (4 - z) 1 3) (turned (code z w 1 3))

turned-test : all_zones turned_right ≡ true
unfolding all_zones turned_right feasible code lines all_pairs all_below
turned-test = refl

-- measured from m downwards, each number changes sides
round : {x q a : ℕ} (m : ℕ) → Side x q a → x ≤ m → q ≤ m → Side (m - x) (m - q) (2 - a)
round m (below h) l k = above (omega arith)
round m (at h) l k = at (omega arith)
round m (above h) l k = below (omega arith)

module _ {p1 p2 q1 q2 : ℕ} (m : ℕ) (hq : q1 < q2) (hp : p1 < p2) (lp : p2 ≤ m) (lq : q2 ≤ m) where
  ends-round : (x : ℕ) → x ≤ m → Alike (m - x) (m - q2) (m - q1) (4 - zone q1 q2 x) 1 3
  ends-round x l =
      let u = zoned hq x in
      let z = zone-lt q1 q2 x in
      record {
        a = 2 - u.b;
        b = 2 - u.a;
        to-q1 = round m u.to-q2 l lq;
        to-q2 = round m u.to-q1 l (omega arith);
        to-s1 = round 4 u.to-s2 (omega arith) (omega arith);
        to-s2 = round 4 u.to-s1 (omega arith) (omega arith);
      }

  pub code-round : code (m - p2) (m - p1) (m - q2) (m - q1) ≡ turned (code p1 p2 q1 q2)
  unfolding turned_right
  code-round =
      same_code (ends-round p2 lp) (ends-round p1 (omega arith))
      ∙ eqb-true _ _ (at-zones hq hp turned_right turned-test)
      ∙ ap turned (sym (by-zones hq hp))
