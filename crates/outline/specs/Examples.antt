-- Outlines whose area and inside are known, for the computed tables of `Claims`.
use Rattle.std.specs.Prelude.{ℕ, List, [], ◌∷◌, ℤ, pos, negsuc}

-- two triangles that meet where the outline crosses itself, at (5, 5)
abbrev pub bow : List ℕ
bow = 0 ∷ 0 ∷ 10 ∷ 10 ∷ 10 ∷ 0 ∷ 0 ∷ 10 ∷ []

-- a five-pointed star drawn in one line, clockwise: it goes around its middle twice
abbrev pub star : List ℕ
star = 50 ∷ 100 ∷ 79 ∷ 10 ∷ 2 ∷ 65 ∷ 98 ∷ 65 ∷ 21 ∷ 10 ∷ []

-- a square on its corner: two of its points are at the height of its middle
abbrev pub diamond : List ℕ
diamond = 10 ∷ 0 ∷ 20 ∷ 10 ∷ 10 ∷ 20 ∷ 0 ∷ 10 ∷ []

-- a square of 20 without its north-east quarter
abbrev pub corner : List ℕ
corner = 0 ∷ 0 ∷ 20 ∷ 0 ∷ 20 ∷ 10 ∷ 10 ∷ 10 ∷ 10 ∷ 20 ∷ 0 ∷ 20 ∷ []

-- all on one line, one point twice
abbrev pub flat : List ℕ
flat = 0 ∷ 0 ∷ 10 ∷ 0 ∷ 10 ∷ 0 ∷ 5 ∷ 0 ∷ []

-- the largest, clockwise
abbrev pub largest : List ℕ
largest = 0 ∷ 0 ∷ 0 ∷ 1_000_000 ∷ 1_000_000 ∷ 1_000_000 ∷ 1_000_000 ∷ 0 ∷ []

-- an outline and twice its area
pub record Measured : Type 0 where
  pub outline : List ℕ
  pub twice : ℤ

-- an outline, a point, and the number of the answer
pub record Answered : Type 0 where
  pub outline : List ℕ
  pub x : ℕ
  pub y : ℕ
  pub number : ℕ

abbrev measured : List ℕ → ℤ → Measured
measured outline twice = record { outline = outline; twice = twice }

abbrev at : List ℕ → ℕ → ℕ → ℕ → Answered
at outline x y number = record { outline = outline; x = x; y = y; number = number }

abbrev pub areas : List Measured
areas =
    measured bow (pos 0)
    ∷ measured diamond (pos 400)
    ∷ measured corner (pos 600)
    ∷ measured flat (pos 0)
    ∷ measured largest (negsuc 1_999_999_999_999)
    ∷ []

-- 1 on the outline, 2 inside, 3 outside
abbrev pub answers : List Answered
answers =
    at bow 5 5 1 ∷ at bow 8 5 2 ∷ at bow 2 5 2 ∷ at bow 5 8 3 ∷ at bow 5 2 3
    ∷ at star 50 50 3 ∷ at star 50 90 2 ∷ at star 50 65 1 ∷ at star 10 90 3
    ∷ at diamond 10 10 2 ∷ at diamond 0 10 1 ∷ at diamond 25 10 3 ∷ at diamond 5 0 3 ∷ at diamond 5 5 1 ∷ at diamond 4 5 3
    ∷ at corner 5 10 2 ∷ at corner 5 20 1 ∷ at corner 15 10 1 ∷ at corner 10 15 1 ∷ at corner 15 15 3 ∷ at corner 5 15 2
    ∷ at flat 7 0 1 ∷ at flat 3 1 3 ∷ at flat 11 0 3
    ∷ at largest 0 1_000_000 1 ∷ at largest 500_000 1_000_000 1 ∷ at largest 1 999_999 2
    ∷ []
