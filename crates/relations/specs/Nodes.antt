-- Which configurations can stand inside a page: the thirteen sets, and the quarter-unit rule.
use Rattle.std.specs.Prelude.{Bool, true, ◌&&◌, List, [], ◌∷◌, ◌≡◌, ℕ, suc, ◌*◌, ◌≤◌, ◌<◌, get_or}
use Rattle.relations.specs.Sets.{member, ◌to◌, bit, packed, some_below}
use Rattle.relations.specs.Axis.{CODES, code}
use Rattle.relations.specs.Relation.{every}
use Rattle.relations.specs.Query.{admits}

-- the set of code c stands at place c
abbrev pub node_sets : List (List ℕ)
node_sets =
    []
    ∷ (1 ∷ [])
    ∷ (1 ∷ 2 ∷ [])
    ∷ (1 ∷ 2 ∷ 3 ∷ 6 ∷ 9 ∷ [])
    ∷ (1 ∷ 2 ∷ 3 ∷ 4 ∷ 6 ∷ 7 ∷ 9 ∷ 10 ∷ [])
    ∷ every
    ∷ (6 ∷ 9 ∷ [])
    ∷ (6 ∷ 7 ∷ 9 ∷ 10 ∷ [])
    ∷ (6 to 13)
    ∷ (9 ∷ [])
    ∷ (9 ∷ 10 ∷ [])
    ∷ (9 to 13)
    ∷ (12 ∷ 13 ∷ [])
    ∷ (13 ∷ [])
    ∷ []

-- an interval inside a page's interval of code c can have code d
unfoldable pub inside : ℕ → ℕ → Bool
inside c d = member d (get_or node_sets c [])

-- the set of code c as a number: bit d - 1 stands for code d
unfoldable pub node_mask : ℕ → ℕ
node_mask c = packed (λ k. inside c (suc k)) CODES

-- some (i, j) of the row sets has i in the set of cy and j in the set of cx
unfoldable pub may_hold : List ℕ → ℕ → ℕ → Bool
may_hold rows cy cx =
    some_below (λ h. inside cy (suc h) && some_below (λ k. inside cx (suc k) && bit (get_or rows h 0) k) CODES) CODES

-- the quarter-unit rule for an interval: one with ends on quarter units inside [P1, P2] has code d against [q1, q2]
pub record Quarter (P1 P2 q1 q2 d : ℕ) : Type 0 where
  pub s1 : ℕ
  pub s2 : ℕ
  pub from_low : 4 * P1 ≤ s1
  pub order : s1 < s2
  pub to_high : s2 ≤ 4 * P2
  pub coded : code s1 s2 (4 * q1) (4 * q2) ≡ d

-- and for a rectangle: one with corners on quarter units inside (X1, Y1, X2, Y2) has an admitted configuration
-- against (u1, v1, u2, v2)
pub record QuarterRect (clauses : List ℕ) (X1 Y1 X2 Y2 u1 v1 u2 v2 : ℕ) : Type 0 where
  pub x1 : ℕ
  pub y1 : ℕ
  pub x2 : ℕ
  pub y2 : ℕ
  pub from-west : 4 * X1 ≤ x1
  pub from-south : 4 * Y1 ≤ y1
  pub order-x : x1 < x2
  pub order-y : y1 < y2
  pub to-east : x2 ≤ 4 * X2
  pub to-north : y2 ≤ 4 * Y2
  pub admitted : admits clauses (code y1 y2 (4 * v1) (4 * v2)) (code x1 x2 (4 * u1) (4 * u2)) ≡ true
