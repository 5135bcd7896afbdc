-- The relations 0 to 39 as sets of configurations (i, j): i the code on y, j the code on x.
use Rattle.std.specs.Prelude.{Bool, cond, ◌&&◌, List, [], ◌∷◌, map, ℕ, zero, suc, ◌+◌, ◌-◌, ◌*◌, ◌/◌, ◌%◌, ltb, get_or}
use Rattle.relations.specs.declared.CodeSets.{CodeSets}
use Rattle.relations.specs.Sets.{member, ◌to◌, packed}
use Rattle.relations.specs.Axis.{CODES, turned}

-- the relation numbers are 0 to 39
abbrev pub RELATIONS : ℕ
RELATIONS = 40

-- the codes that a relation allows on y and on x
pub record Codes : Type 0 where
  pub on_y : List ℕ
  pub on_x : List ℕ

abbrev pub every : List ℕ
every = 1 to CODES

-- disjoint, meet, overlap, covered_by, inside, equal, covers, contains: the codes, the same on both axes
abbrev pub topological : List (List ℕ)
topological =
    every
    ∷ (2 to 12)
    ∷ (3 to 11)
    ∷ (6 ∷ 7 ∷ 9 ∷ 10 ∷ [])
    ∷ (9 ∷ [])
    ∷ (7 ∷ [])
    ∷ (4 ∷ 5 ∷ 7 ∷ 8 ∷ [])
    ∷ (5 ∷ [])
    ∷ []

-- strong, weak, strong bounded, weak bounded, strong corner, weak corner, just, plain: north's codes on y
abbrev pub north_y : List (List ℕ)
north_y =
    (1 ∷ []) ∷ (3 ∷ []) ∷ (1 ∷ []) ∷ (3 ∷ []) ∷ (1 ∷ []) ∷ (3 ∷ []) ∷ (2 ∷ []) ∷ (1 to 3) ∷ []

-- and on x
abbrev pub north_x : List (List ℕ)
north_x = every ∷ every ∷ (9 ∷ []) ∷ (9 ∷ []) ∷ (1 ∷ []) ∷ (1 to 3) ∷ every ∷ every ∷ []

-- a quarter turn clockwise: the new j is the old i, and the new i is the old j turned round
abbrev pub quarter_turn : Codes → Codes
quarter_turn c = record { on_y = map turned c.on_x; on_x = c.on_y }

-- direction d (0 north, 1 east, 2 south, 3 west) of kind k
abbrev pub direction : ℕ → ℕ → Codes
direction zero k = record { on_y = get_or north_y k []; on_x = get_or north_x k [] }
direction (suc d) k = quarter_turn (direction d k)

-- "A relation number from 8 to 39 is 8 + 8 times d + k", and its d and k
abbrev pub directed : ℕ → ℕ → ℕ
directed d k = 8 + 8 * d + k

abbrev pub direction_of : ℕ → ℕ
direction_of t = (t - 8) / 8

abbrev pub kind_of : ℕ → ℕ
kind_of t = (t - 8) % 8

-- the codes of relation t; none for a number that is no relation
abbrev pub codes_of : ℕ → Codes
codes_of t =
    cond (ltb t 8) (record { on_y = get_or topological t []; on_x = get_or topological t [] })
    (cond (ltb t RELATIONS) (direction (direction_of t) (kind_of t)) (record { on_y = []; on_x = [] }))

-- configuration (i, j) belongs to relation t
unfoldable pub in_relation : ℕ → ℕ → ℕ → Bool
in_relation t i j = member i (codes_of t).on_y && member j (codes_of t).on_x

-- a list of codes as a number: bit c - 1 stands for code c
unfoldable pub mask_of : List ℕ → ℕ
mask_of codes = packed (λ k. member (suc k) codes) CODES

-- the codes of relation t on y and on x, as numbers
unfoldable pub sets_of : ℕ → CodeSets
sets_of t = record { rows = mask_of (codes_of t).on_y; cols = mask_of (codes_of t).on_x }
