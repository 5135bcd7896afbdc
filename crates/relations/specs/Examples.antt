-- The starred examples of document 01 as one table.
use Rattle.std.specs.Prelude.{Bool, true, ◌&&◌, List, [], ◌∷◌, ℕ, ◌^◌, eqb}
use Rattle.relations.specs.Axis.{code}
use Rattle.relations.specs.Query.{admitted_count}

unfoldable pub all_of : List Bool → Bool
all_of [] = true
all_of (b ∷ bs) = b && all_of bs

-- a rectangle x1, y1, x2, y2 and its configuration (i, j) against the reference (100, 100, 200, 200)
unfoldable pub configuration : ℕ → ℕ → ℕ → ℕ → ℕ → ℕ → Bool
configuration x1 y1 x2 y2 i j = eqb (code y1 y2 100 200) i && eqb (code x1 x2 100 200) j

-- clauses and how many configurations they admit
unfoldable pub counted : List ℕ → ℕ → Bool
counted clauses n = eqb (admitted_count clauses) n

unfoldable pub table : List Bool
table =
    configuration 250 250 300 300 1 1
    ∷ configuration 200 100 300 200 7 2
    ∷ configuration 100 100 200 200 7 7
    ∷ configuration 50 50 250 250 5 5
    ∷ configuration 120 150 180 250 3 9
    ∷ configuration 100 120 250 180 9 4
    ∷ configuration 100 100 200 250 4 7
    ∷ configuration 100 100 200 150 10 7
    -- overlap and north; weak corner north; equal and contains
    ∷ counted (2 ^ 2 ∷ 2 ^ 15 ∷ []) 9
    ∷ counted (2 ^ 13 ∷ []) 3
    ∷ counted (2 ^ 5 ∷ 2 ^ 7 ∷ []) 0
    ∷ []
