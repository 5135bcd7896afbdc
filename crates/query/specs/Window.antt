-- The window of a search, beyond which nothing passes a test, and paired words, by which it is tested.
use Rattle.std.specs.Prelude.{ℕ, ◌+◌, ◌-◌, ◌*◌, ◌/◌, ◌%◌, ◌≤◌, Bool, true, false, cond, ◌||◌, ◌≡◌, leb, ltb}
use Rattle.relations.specs.declared.Reach.{Reach}
use Rattle.relations.specs.declared.Reach.TheVariants.{Inner, Near, Anywhere}
use Rattle.pages.specs.declared.Rect.{Rect}
use Rattle.pages.specs.Sizes.{EDGE}
use Rattle.pages.specs.Rectangles.{rect_of, Small}

-- a paired word has an x in its lower half and a y in its upper half
abbrev pub HALF : ℕ
HALF = 4_294_967_296

abbrev pub paired_of : ℕ → ℕ → ℕ
paired_of x y = y * HALF + x

-- the highest bit of a half
abbrev pub TOP : ℕ
TOP = 2_147_483_648

-- it is set in one of the halves
unfoldable pub over : ℕ → Bool
over a = leb (TOP * HALF) a || leb TOP (a % HALF)

-- the most that leaves the highest bit of a half alone
abbrev pub MOST : ℕ
MOST = 2_147_483_647

-- a window is kept by what a start may grow by and what an end is taken from, before a highest bit is set
unfoldable pub window_in : ℕ → ℕ → Rect
window_in starts ends = rect_of (ends % HALF - MOST) (ends / HALF - MOST) (MOST - starts % HALF) (MOST - starts / HALF)

-- its words leave room in each half
pub record Roomy (starts ends : ℕ) : Type 0 where
  pub x-start : starts % HALF ≤ MOST
  pub y-start : starts / HALF ≤ MOST
  pub x-end : MOST ≤ ends % HALF
  pub y-end : MOST ≤ ends / HALF
  pub x-most : ends % HALF ≤ MOST + EDGE
  pub y-most : ends / HALF ≤ MOST + EDGE

-- the reference drawn in by one unit where both codes are in 3 to 11, itself where they are in 3 to 12, else all that pieces
-- can cover
unfoldable pub window_for : Rect → Reach → Rect
window_for q Inner = rect_of (q.x1 + 1) (q.y1 + 1) (q.x2 - 1) (q.y2 - 1)
window_for q Near = q
window_for q Anywhere = rect_of 0 0 EDGE EDGE

-- p lies beyond q on one of its sides: it starts past an end of q, or ends before a start of it
unfoldable pub beyond : Rect → Rect → Bool
beyond q p = (ltb q.y2 p.y1 || ltb q.x2 p.x1) || (ltb p.y2 q.y1 || ltb p.x2 q.x1)

-- a test that fails what lies beyond the window, and that all else passes where `whole` holds
unfoldable pub decided : Rect → Bool → (Rect → Bool) → Rect → Bool
decided window whole test p = cond (beyond window p) false (cond whole true (test p))

-- what lies beyond the window fails the test, and where `whole` holds all else passes it
pub record Decides (window : Rect) (whole : Bool) (test : Rect → Bool) : Type 0 where
  pub fails : (p : Rect) → Small p → beyond window p ≡ true → test p ≡ false
  pub passes : whole ≡ true → (p : Rect) → beyond window p ≡ false → test p ≡ true
