-- What is shown of the codes, of the relations and of the thirteen sets, beside the contracts.
use Rattle.std.specs.Prelude.{true, false, List, [], ◌∷◌, ◌↔◌, ◌≡◌, ℕ, suc, ◌-◌, ◌≤◌, ◌<◌, eqb, get_or}
use Rattle.relations.specs.Sets.{listed}
use Rattle.relations.specs.Axis.{CODES, lines, code, IsCode, turned}
use Rattle.relations.specs.Relation.{RELATIONS, in_relation}
use Rattle.relations.specs.Query.{row_sets}
use Rattle.relations.specs.Nodes.{inside, may_hold, Quarter, QuarterRect}
use Rattle.relations.specs.Examples.{all_of, table}
use Rattle.relations.specs.Members.{size, relation_sizes, have_from, relation_members}

-- what relation t from 0 to 7 becomes when p and q are exchanged
abbrev pub exchange : ℕ → ℕ
exchange t = get_or (0 ∷ 1 ∷ 2 ∷ 6 ∷ 7 ∷ 5 ∷ 3 ∷ 4 ∷ []) t 0

pub record Claims : Type 0 where
  -- "p is the primary interval [p1, p2], q the reference [q1, q2], on one axis": exactly one line of the table of codes holds, the one
  -- that `code` gives
  pub one_line : (p1 p2 q1 q2 : ℕ) → p1 < p2 → q1 < q2
      → IsCode (code p1 p2 q1 q2) × ((c : ℕ) → c < CODES → get_or (lines p1 p2 q1 q2) c false ≡ eqb (code p1 p2 q1 q2) (suc c))
  -- "Turning an axis round sends 1, 2, 3, 4, 6 to 13, 12, 11, 8, 10 and back, and keeps 5, 7, 9"
  pub back : (c : ℕ) → IsCode c → turned (turned c) ≡ c
  -- and it is what mirroring the axis at m does
  pub round : (p1 p2 q1 q2 m : ℕ) → p1 < p2 → q1 < q2 → p2 ≤ m → q2 ≤ m
      → code (m - p2) (m - p1) (m - q2) (m - q1) ≡ turned (code p1 p2 q1 q2)
  -- "Turning round by 14 - code; that swaps p and q instead"
  pub swapped : (p1 p2 q1 q2 : ℕ) → p1 < p2 → q1 < q2 → code q1 q2 p1 p2 ≡ 14 - code p1 p2 q1 q2
  -- so covers is covered_by with p and q exchanged, contains is inside, and the other four are their own
  pub exchanged : (t i j : ℕ) → t < 8 → IsCode i → IsCode j → in_relation (exchange t) i j ≡ in_relation t (14 - i) (14 - j)
  -- "That the sets equal the quarter-unit rule is to be shown": for intervals
  pub sets : (P1 P2 q1 q2 : ℕ) → P1 < P2 → q1 < q2 → (d : ℕ) → IsCode d → Quarter P1 P2 q1 q2 d ↔ (inside (code P1 P2 q1 q2) d ≡ true)
  -- and for rectangles: "Its rectangles too have x1 < x2 and y1 < y2"
  pub rule : (clauses : List ℕ) (X1 Y1 X2 Y2 u1 v1 u2 v2 : ℕ) → X1 < X2 → Y1 < Y2 → u1 < u2 → v1 < v2
      → QuarterRect clauses X1 Y1 X2 Y2 u1 v1 u2 v2 ↔ (may_hold (row_sets clauses) (code Y1 Y2 v1 v2) (code X1 X2 u1 u2) ≡ true)
  -- "The starred examples below are shown of the definitions together, as one computed table"
  pub starred : all_of table ≡ true
  -- "0 disjoint, all 169; 1 meet, both codes in 2 to 12 (121); 2 overlap, both in 3 to 11 (81)", and so on to relation 39
  pub sizes : listed size RELATIONS ≡ relation_sizes
  -- the configurations that the paper names: "4 inside, (9, 9); 5 equal, (7, 7)", and so on
  pub members : have_from 0 relation_members ≡ true
