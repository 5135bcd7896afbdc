-- The axis codes: how the primary interval [p1, p2] lies to the reference [q1, q2] on one axis.
use Rattle.std.specs.Prelude.{Bool, cond, ◌&&◌, List, [], ◌∷◌, ℕ, suc, ◌≤◌, eqb, ltb, get_or}

-- there are thirteen codes, 1 to 13
abbrev pub CODES : ℕ
CODES = 13

-- the conditions of the table, from the line of code 1 to that of code 13
unfoldable pub lines : ℕ → ℕ → ℕ → ℕ → List Bool
lines p1 p2 q1 q2 =
    ltb q2 p1
    ∷ eqb p1 q2
    ∷ (ltb q2 p2 && (ltb q1 p1 && ltb p1 q2))
    ∷ (ltb q2 p2 && eqb p1 q1)
    ∷ (ltb q2 p2 && ltb p1 q1)
    ∷ (eqb p2 q2 && ltb q1 p1)
    ∷ (eqb p2 q2 && eqb p1 q1)
    ∷ (eqb p2 q2 && ltb p1 q1)
    ∷ ((ltb q1 p2 && ltb p2 q2) && ltb q1 p1)
    ∷ ((ltb q1 p2 && ltb p2 q2) && eqb p1 q1)
    ∷ ((ltb q1 p2 && ltb p2 q2) && ltb p1 q1)
    ∷ eqb p2 q1
    ∷ ltb p2 q1
    ∷ []

abbrev pub first_from : ℕ → List Bool → ℕ
first_from n [] = n
first_from n (b ∷ bs) = cond b n (first_from (suc n) bs)

-- the first line that holds. For valid intervals it is the only one
unfoldable pub code : ℕ → ℕ → ℕ → ℕ → ℕ
code p1 p2 q1 q2 = first_from 1 (lines p1 p2 q1 q2)

pub record IsCode (c : ℕ) : Type 0 where
  pub low : 1 ≤ c
  pub high : c ≤ CODES

-- turning an axis round: place c has what code c becomes
abbrev pub turned : ℕ → ℕ
turned c = get_or (0 ∷ 13 ∷ 12 ∷ 11 ∷ 8 ∷ 5 ∷ 10 ∷ 7 ∷ 4 ∷ 9 ∷ 6 ∷ 3 ∷ 2 ∷ 1 ∷ []) c 0
