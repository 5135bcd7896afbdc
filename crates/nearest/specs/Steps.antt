-- What the inner functions are held to: pages and pieces as words, and what a search shows of the pages that it has opened.
use Rattle.std.specs.Prelude.{ℕ, ◌+◌, ◌*◌, ◌/◌, ◌%◌, ◌≤◌, ◌<◌, ◌≡◌, min, cond, eqb, Option, Some, None, Result, Ok, Err}
use Rattle.std.specs.Prelude.{List, [], ◌∷◌, ◌++◌, map, length, get_or}
use Rattle.refusals.specs.declared.Refusal.{Refusal}
use Rattle.refusals.specs.declared.Refusal.TheVariants.{OutOfRange}
use Rattle.pages.specs.declared.Entry.{Entry}
use Rattle.pages.specs.Sizes.{EDGE, PIECES}
use Rattle.pages.specs.Lists.{sum}
use Rattle.pages.specs.Layout.{Table, page, table_in}
use Rattle.pages.specs.Sound.{child_entries, piece_entries}
use Rattle.soundness.specs.declared.table.SoundTable.{SoundTable}
use Rattle.nearest.specs.declared.Near.{Near}
use Rattle.nearest.specs.declared.Nearest.{Nearest}
use Rattle.nearest.specs.declared.point.Point.{Point}
use Rattle.nearest.specs.declared.search.Search.{Search}
use Rattle.nearest.specs.Distance.{square, distance_to}
use Rattle.nearest.specs.Search.{near, page_near, unopened, best, opened_on}
use Rattle.nearest.specs.Calls.{found_on}

-- the most that a squared distance can be
abbrev pub FARTHEST_SQUARE : ℕ
FARTHEST_SQUARE = square EDGE + square EDGE

-- the point that was asked for, if it is on the cloth
abbrev pub IsPointOf : ℕ → ℕ → Result Point Refusal → Type 0
IsPointOf x y (Ok p) = (p.x ≡ x) × (p.y ≡ y)
IsPointOf x y (Err why) = (why ≡ OutOfRange) × ((x ≤ EDGE) × (y ≤ EDGE) → ⊥)

-- a page or a piece is kept as one word, its distance times 1,024 plus its number, so that the order of the words is theirs
unfoldable pub word_of : ℕ → ℕ → Entry → ℕ
word_of x y e = distance_to x y e.rect * PIECES + e.r

abbrev pub near_in : ℕ → Near
near_in w = near (w / PIECES) (w % PIECES)

-- the word that stands for no piece, and the piece of a word
abbrev pub NONE : ℕ
NONE = 18_446_744_073_709_551_615

abbrev pub piece_in : ℕ → Option Near
piece_in w = cond (eqb w NONE) None (Some (near_in w))

-- the words of entries, in their order
abbrev pub words_of : Point → List Entry → List ℕ
words_of point es = map (word_of point.x point.y) es

-- the least of a word and those of the entries
unfoldable pub least_with : ℕ → ℕ → ℕ → List Entry → ℕ
unfolding word_of
least_with x y w [] = w
least_with x y w (e ∷ es) = least_with x y (min w (word_of x y e)) es

-- at this place stands this word, a least one
pub record IsLeastAt (ws : List ℕ) (at word : ℕ) : Type 0 where
  pub inside : at < length ws
  pub there : get_or ws at 0 ≡ word
  pub least : (i : ℕ) → i < length ws → word ≤ get_or ws i 0

pub record IsLeastDistance (ws : List ℕ) (distance : ℕ) : Type 0 where
  pub at : ℕ
  pub word : ℕ
  pub least : IsLeastAt ws at word
  pub is : distance ≡ word / PIECES

abbrev pub searched_table : Search → Table
searched_table s = table_in s.table.words.now

abbrev pub searched_entries : Search → ℕ → List Entry
searched_entries s p = (page (searched_table s) p).entries

-- the pages that it opens on an allowance, and what it finds then
abbrev pub opened_for : Search → ℕ → List ℕ
opened_for s allowance = opened_on s.point.x s.point.y (searched_table s) allowance

abbrev pub found_for : Search → ℕ → Nearest
found_for s allowance = found_on s.point.x s.point.y (searched_table s) (opened_for s allowance)

-- the same table and point
pub record Same (old new : Search) : Type 0 where
  pub table : new.table ≡ old.table
  pub point : new.point ≡ old.point

-- nothing is opened yet; the root, which is opened first, has no word
pub record IsFresh (s : Search) : Type 0 where
  pub waiting : s.waiting.items ≡ []
  pub best : s.best ≡ NONE
  pub opened : s.opened ≡ 0

-- page p is opened: its children are reached, or its pieces may be nearer
pub record Opens (table : SoundTable) (point : Point) (old : Search) (p : ℕ) (new : Search) : Type 0 where
  pub waiting : new.waiting.items ≡ old.waiting.items ++ words_of point (child_entries (page (table_in table.words.now) p))
  pub best : new.best ≡ least_with point.x point.y old.best (piece_entries (page (table_in table.words.now) p))
  pub count : new.opened ≡ old.opened + 1

-- the words are those of the unopened reached pages, in any order: equal sums for every weight
abbrev pub IsWaiting : ℕ → ℕ → Table → List ℕ → List ℕ → Type 0
IsWaiting x y t ws opened = (g : Near → ℕ) → sum (λ w. g (near_in w)) ws ≡ sum (λ p. g (page_near x y t p)) (unopened t opened)

-- what a search shows when it has opened these pages
pub record Shows (table : SoundTable) (point : Point) (s : Search) (opened : List ℕ) : Type 0 where
  pub words : IsWaiting point.x point.y (table_in table.words.now) s.waiting.items opened
  pub piece : piece_in s.best ≡ best point.x point.y (table_in table.words.now) opened
  pub count : s.opened ≡ length opened
