-- What is shown of the pages of sound tables, and of the window of a search, beside demand 2 and the contracts.
use Rattle.std.specs.Prelude.{ℕ, ◌+◌, ◌-◌, ◌≤◌, ◌<◌, true, false, ◌||◌, ◌≡◌, List, T}
use Rattle.relations.specs.Steps.{joined_of, reach_by, overlap_by}
use Rattle.pages.specs.declared.Rect.{Rect}
use Rattle.pages.specs.Lists.{Every}
use Rattle.pages.specs.Layout.{page, table_in}
use Rattle.pages.specs.Rectangles.{rect_of, valid, Small}
use Rattle.query.specs.Steps.{SoundPage, admits_by, opens_by}
use Rattle.query.specs.Window.{HALF, paired_of, over, MOST, window_for, beyond}

pub record Claims : Type 0 where
  -- "none exceeds 1,000,000": no edge of an entry does, on any page of a sound table
  pub small : (w : List ℕ) (p l : ℕ) → SoundPage w p l → Every (λ e. Small e.rect) (page (table_in w) p).entries
  -- what is small and lies beyond the window fails the page test, and for the admitted set of overlap all else passes it, small or not
  pub decided-pages : (rows : List ℕ) (q : Rect) → T (valid q) → (p : Rect)
      → (Small p → beyond (window_for q (reach_by (joined_of rows))) p ≡ true → opens_by (joined_of rows) q p ≡ false)
      × (overlap_by rows (joined_of rows) ≡ true → beyond (window_for q (reach_by (joined_of rows))) p ≡ false → opens_by (joined_of rows) q p ≡ true)
  -- so with the leaf test
  pub decided-leaves : (rows : List ℕ) (q : Rect) → T (valid q) → (p : Rect)
      → (Small p → beyond (window_for q (reach_by (joined_of rows))) p ≡ true → admits_by rows q p ≡ false)
      × (overlap_by rows (joined_of rows) ≡ true → beyond (window_for q (reach_by (joined_of rows))) p ≡ false → admits_by rows q p ≡ true)
  -- the test of paired words, on two axes at once, is the test of four edges
  pub paired : (p : Rect) → Small p → (a b c d : ℕ) → a ≤ MOST → b ≤ MOST → MOST ≤ c → MOST ≤ d → c < HALF
      → (over (paired_of p.x1 p.y1 + paired_of a b) || over (paired_of c d - paired_of p.x2 p.y2)) ≡ beyond (rect_of (c - MOST) (d - MOST) (MOST - a) (MOST - b)) p
