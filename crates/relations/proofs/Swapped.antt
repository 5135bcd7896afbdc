-- Exchanging p and q: each end changes sides, so code c becomes 14 - c, and the topological relations pair off.
use mathlib.Core.Bool.{Bool, true, beq}
use mathlib.Core.Path.{◌≡◌, refl}
use Prim.Native.Nat.{ℕ, suc, ◌+◌, ◌-◌, ◌≤◌, ◌<◌}
use native.Mathlib.Decide.{dec_lt}
use native.Mathlib.Omega.{arith}
use Rattle.relations.specs.Axis.{CODES, IsCode, code}
use Rattle.relations.specs.Relation.{in_relation}
use Rattle.relations.specs.Steps.{side_of}
use Rattle.relations.specs.Claims.{exchange}
use Rattle.relations.proofs.Tests.{all_below, all_pairs, all-at, pair-at, beq-eq}
use Rattle.relations.proofs.Sides.{Side, below, at, above, side-below, side-at, side-above, sided, code-above, code_below, code-over, of_code}

side-back : (a b : ℕ) → side_of a b + side_of b a ≡ 2
side-back a b = go (sided a b)
  where
    go : {s : ℕ} → Side a b s → s + side_of b a ≡ 2
    go (below h) = omega (arith, side-above b a h)
    go (at h) = omega (arith, side-at b a (omega arith))
    go (above h) = omega (arith, side-below b a h)

-- where p starts at the end of q or past it
past : (p1 p2 q1 q2 : ℕ) → p1 < p2 → q1 < q2 → q2 ≤ p1 → code p1 p2 q1 q2 + code q1 q2 p1 p2 ≡ 14
past p1 p2 q1 q2 hp hq h =
    omega (arith, code-above p1 p2 q1 q2 h, code_below q1 q2 p1 p2 hp (omega arith) h, side-back p1 q2)

pub swapped : (p1 p2 q1 q2 : ℕ) → p1 < p2 → q1 < q2 → code q1 q2 p1 p2 ≡ 14 - code p1 p2 q1 q2
swapped p1 p2 q1 q2 hp hq = go (dec_lt p1 q2) (dec_lt q1 p2)
  where
    go : Dec (p1 < q2) → Dec (q1 < p2) → code q1 q2 p1 p2 ≡ 14 - code p1 p2 q1 q2
    go (no h) e = omega (arith, past p1 p2 q1 q2 hp hq (omega arith))
    go (yes h) (no k) = omega (arith, past q1 q2 p1 p2 hq hp (omega arith))
    go (yes h) (yes k) =
        omega (arith, code-over p1 p2 q1 q2 h k, code-over q1 q2 p1 p2 k h, side-back p1 q1, side-back p2 q2)

exchanged_right : ℕ → ℕ → ℕ → Bool
exchanged_right t h k = beq (in_relation (exchange t) (suc h) (suc k)) (in_relation t (14 - suc h) (14 - suc k))

all_exchanged : ℕ → Bool
all_exchanged t = all_pairs (exchanged_right t) CODES CODES

exchanged-test : all_below all_exchanged 8 ≡ true
unfolding all_exchanged exchanged_right in_relation all_pairs all_below
exchanged-test = refl

pub exchanged : (t i j : ℕ) → t < 8 → IsCode i → IsCode j → in_relation (exchange t) i j ≡ in_relation t (14 - i) (14 - j)
unfolding all_exchanged exchanged_right
exchanged t i j l ic jc =
    of_code (λ i. in_relation (exchange t) i j ≡ in_relation t (14 - i) (14 - j))
    (λ h hh. of_code (λ j. in_relation (exchange t) (suc h) j ≡ in_relation t (14 - suc h) (14 - j))
    (λ k hk. beq-eq _ _ (pair-at (exchanged_right t) CODES CODES h k (all-at all_exchanged 8 t exchanged-test l) hh hk)) j jc) i ic
