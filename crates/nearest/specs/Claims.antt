-- What is shown of the nearest-piece call, beside its contract.
use Rattle.std.specs.Prelude.{ℕ, ◌+◌, ◌≤◌, ◌<◌, ◌≡◌, List, [], length, get_or, MatchOption}
use Rattle.pages.specs.declared.Rect.{Rect}
use Rattle.pages.specs.Sizes.{EDGE}
use Rattle.pages.specs.Lists.{Every}
use Rattle.pages.specs.Rectangles.{Small}
use Rattle.nearest.specs.declared.Near.{Near}
use Rattle.nearest.specs.Search.{near, nearest}
use Rattle.nearest.specs.Distance.{square, distance_to, LeastSquare}
use Rattle.nearest.specs.Examples.{NineKnown}
use Rattle.nearest.specs.Guarantees.{Guarantees, LargerAllowances}

-- a is no later than b: it is as near or nearer, and where it is as near its number is not higher
abbrev pub NoLater : Near → Near → Type 0
NoLater a b = (a.distance ≤ b.distance) × (a.distance ≡ b.distance → a.number ≤ b.number)

-- a is one of them, and none goes before it
pub record IsFirst (xs : List Near) (a : Near) : Type 0 where
  pub there : (i : ℕ) × (i < length xs) × (get_or xs i (near 0 0) ≡ a)
  pub first : Every (NoLater a) xs

pub record Claims : Type 0 where
  -- "of least squared distance .., ties to the lower page number"; "the best piece .. (ties to the lower number)"
  pub nearest : (xs : List Near) → MatchOption (nearest xs) (xs ≡ []) (IsFirst xs)
  -- "squared distance from point to rectangle": the least of those to its points, whole ones or not
  pub distance : (x y : ℕ) (r : Rect) → r.x1 ≤ r.x2 → r.y1 ≤ r.y2 → LeastSquare x y r
  -- from a point on the cloth it is at most 2 * 10^12, which 64 bits hold, also times 1,024
  pub most : (x y : ℕ) (r : Rect) → x ≤ EDGE → y ≤ EDGE → Small r → distance_to x y r ≤ square EDGE + square EDGE
  -- "No piece is nearer than the smaller of the two distances ..", and more
  pub guarantees : Guarantees
  -- a larger allowance never gives a farther piece
  pub larger : LargerAllowances
  -- computed
  pub nine : NineKnown
