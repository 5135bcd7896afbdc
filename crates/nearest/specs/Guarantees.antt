-- What the request promises of an accepted call, on every sound table; `piece`, `stopped` and `Larger` say more.
use Rattle.std.specs.Prelude.{ℕ, ◌≤◌, ◌<◌, ◌≡◌, min, List, ◌++◌}
use Rattle.pages.specs.declared.Rect.{Rect}
use Rattle.pages.specs.Sizes.{PAGES}
use Rattle.pages.specs.Refusals.{ACCEPTED}
use Rattle.pages.specs.Layout.{Table, table_in}
use Rattle.pages.specs.Pieces.{PieceAt}
use Rattle.nearest.specs.declared.NearestAnswer.{NearestAnswer}
use Rattle.nearest.specs.Distance.{distance_to}
use Rattle.nearest.specs.Search.{opened_on}
use Rattle.nearest.specs.Calls.{nearest_call}

-- no piece of the table is nearer to (x, y) than d
abbrev pub NoPieceNearer : Table → ℕ → ℕ → ℕ → Type 0
NoPieceNearer t x y d = (c : ℕ) (r : Rect) → PieceAt t c r → d ≤ distance_to x y r

pub record Guaranteed (t : Table) (x y allowance : ℕ) (a : NearestAnswer) : Type 0 where
  -- "No piece is nearer than the smaller of the two distances, or than the only one present"
  pub both : a.found ≡ 1 → a.left ≡ 1 → NoPieceNearer t x y (min a.distance a.left_distance)
  pub piece-only : a.found ≡ 1 → a.left ≡ 0 → NoPieceNearer t x y a.distance
  pub page-only : a.found ≡ 0 → a.left ≡ 1 → NoPieceNearer t x y a.left_distance
  pub one-present : a.found ≡ 0 → a.left ≡ 1
  -- "With allowance 341 no piece of the table is nearer than the one returned", and one is returned
  pub whole : allowance ≡ PAGES → (a.found ≡ 1) × NoPieceNearer t x y a.distance
  -- "An absent piece or page is reported as absent"
  pub flags : (a.found ≤ 1) × (a.left ≤ 1)
  pub absent-piece : a.found ≡ 0 → (a.number ≡ 0) × (a.distance ≡ 0)
  pub absent-page : a.left ≡ 0 → a.left_distance ≡ 0
  -- the piece returned is a piece of the table, at the distance returned
  pub piece : a.found ≡ 1 → (r : Rect) × PieceAt t a.number r × (a.distance ≡ distance_to x y r)
  -- the root is always opened, and no more pages than the allowance
  pub opened-some : 1 ≤ a.opened
  pub opened-most : a.opened ≤ allowance
  -- fewer, only where what is left is no nearer than the piece
  pub stopped : a.opened < allowance → (a.found ≡ 1) × (a.left ≡ 1 → a.distance ≤ a.left_distance)

-- an accepted call found its table sound, point and allowance in range, and a piece
abbrev pub Guarantees : Type 0
Guarantees = (w : List ℕ) (x y allowance : ℕ) → (nearest_call w x y allowance).refusal ≡ ACCEPTED
    → Guaranteed (table_in w) x y allowance (nearest_call w x y allowance)

-- a larger allowance never gives a farther piece, and loses none; it opens the pages of the smaller one first
pub record Larger (w : List ℕ) (x y small large : ℕ) : Type 0 where
  pub found : (nearest_call w x y small).found ≡ 1 → (nearest_call w x y large).found ≡ 1
  pub nearer : (nearest_call w x y small).found ≡ 1 → (nearest_call w x y large).distance ≤ (nearest_call w x y small).distance
  pub opened : (more : List ℕ) × (opened_on x y (table_in w) large ≡ opened_on x y (table_in w) small ++ more)

abbrev pub LargerAllowances : Type 0
LargerAllowances = (w : List ℕ) (x y small large : ℕ) → small ≤ large
    → (nearest_call w x y small).refusal ≡ ACCEPTED → (nearest_call w x y large).refusal ≡ ACCEPTED → Larger w x y small large
