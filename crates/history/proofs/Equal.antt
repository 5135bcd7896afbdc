-- The query "equal" admits exactly the reference itself.
use Prim.Native.Nat.{ℕ, zero, suc, ◌+◌, ◌≤◌, ◌<◌}
use native.Mathlib.Omega.{arith}
use native.Mathlib.Nat.{not-suc-le-zero, le_of_suc-le-suc}
use mathlib.Core.Path.{◌≡◌, refl, ◌∙◌}
use mathlib.Core.Bool.{Bool, true, false, ◌&&◌, and-true, or-false}
use mathlib.Core.List.{List, [], ◌∷◌}
use lib.ListN.{length, get_or}
use lib.Dec.{T, leb, ltb, eqb, ltb→lt, eqb→eq}
use borrow.Author.Tests.{le-ltb, eq-eqb, ne_eqb}
use Rattle.relations.specs.Sets.{bit, some_below}
use Rattle.relations.specs.Axis.{lines, first_from, code}
use Rattle.relations.specs.Relation.{RELATIONS, in_relation}
use Rattle.relations.specs.Query.{named, admits, bad_clause, some_bad, refusal_of}
use Rattle.pages.specs.declared.Rect.{Rect}
use Rattle.pages.specs.Sizes.{EDGE}
use Rattle.pages.specs.Rectangles.{valid}
use Rattle.pages.proofs.Lists.{both, holds}
use Rattle.query.specs.Admission.{admits_rect}

-- relation 5 alone
abbrev pub equal_query : List ℕ
equal_query = 32 ∷ []

pub equal-asked : refusal_of equal_query ≡ 0
unfolding refusal_of some_bad bad_clause
equal-asked = refl

one_bit : (f : ℕ → Bool) → some_below (λ t. bit 32 t && f t) RELATIONS ≡ f 5
unfolding some_below bit
one_bit f = simp or-false

equal-codes : (i j : ℕ) → admits equal_query i j ≡ eqb i 7 && eqb j 7
unfolding admits named in_relation
equal-codes i j = and-true (named 32 i j) ∙ (one_bit (λ t. in_relation t i j) ∙ simp or-false)

-- the line of a code holds
from-most : (n : ℕ) (bs : List Bool) → n ≤ first_from n bs
from-most n [] = omega arith
from-most n (true ∷ bs) = omega arith
from-most n (false ∷ bs) = omega (arith, from-most (suc n) bs)

line-holds : (n : ℕ) (bs : List Bool) (k : ℕ) → k < length bs → first_from n bs ≡ n + k → T (get_or bs k false)
line-holds n [] k l e = absurd (not-suc-le-zero l)
line-holds n (true ∷ bs) zero l e = tt
line-holds n (true ∷ bs) (suc k) l e = absurd (omega arith)
line-holds n (false ∷ bs) zero l e = absurd (omega (arith, from-most (suc n) bs))
line-holds n (false ∷ bs) (suc k) l e = line-holds (suc n) bs k (le_of_suc-le-suc l) (omega arith)

code-seven : (p1 p2 q1 q2 : ℕ) → code p1 p2 q1 q2 ≡ 7 → (p1 ≡ q1) × (p2 ≡ q2)
unfolding code lines
code-seven p1 p2 q1 q2 e =
    let h = both (eqb p2 q2) (eqb p1 q1) (line-holds 1 (lines p1 p2 q1 q2) 6 (omega arith) e) in
    (eqb→eq p1 q1 h.1, eqb→eq p2 q2 h.0)

seven-code : (p1 p2 : ℕ) → p1 < p2 → code p1 p2 p1 p2 ≡ 7
unfolding code lines
seven-code p1 p2 l = simp (le-ltb p2 p1 (omega arith), ne_eqb p1 p2 (omega arith), le-ltb p2 p2 (omega arith), le-ltb p1 p1 (omega arith), eq-eqb p2 p2 refl, eq-eqb p1 p1 refl)

pub equal-itself : (p : Rect) → T (valid p) → T (admits_rect equal_query p p)
unfolding admits_rect valid
equal-itself p v =
    let (x, (y, _)) = holds (ltb p.x1 p.x2 ∷ ltb p.y1 p.y2 ∷ leb p.x1 EDGE ∷ leb p.y1 EDGE ∷ leb p.x2 EDGE ∷ leb p.y2 EDGE ∷ []) v in
    rw (equal-codes, seven-code p.x1 p.x2 (ltb→lt p.x1 p.x2 x), seven-code p.y1 p.y2 (ltb→lt p.y1 p.y2 y)) tt

pub equal-only : (q p : Rect) → T (admits_rect equal_query q p) → p ≡ q
unfolding admits_rect
equal-only q p h =
    let y = code p.y1 p.y2 q.y1 q.y2 in
    let x = code p.x1 p.x2 q.x1 q.x2 in
    let (hy, hx) = both (eqb y 7) (eqb x 7) (rw equal-codes at h) in
    let (ey1, ey2) = code-seven p.y1 p.y2 q.y1 q.y2 (eqb→eq y 7 hy) in
    let (ex1, ex2) = code-seven p.x1 p.x2 q.x1 q.x2 (eqb→eq x 7 hx) in
    λ i. record { x1 = ex1 i; y1 = ey1 i; x2 = ex2 i; y2 = ey2 i }
