-- What is shown of placing: the path, and what an accepted call keeps, adds and leaves alone.
use Rattle.std.specs.Prelude.{ℕ, suc, ◌+◌, ◌≤◌, ◌<◌, ◌≡◌, ◌≢◌, List, length, get_or, drop, T}
use Rattle.pages.specs.declared.Rect.{Rect}
use Rattle.pages.specs.declared.Entry.{Entry}
use Rattle.pages.specs.Sizes.{PAGES, TABLE_WORDS}
use Rattle.pages.specs.Refusals.{ACCEPTED}
use Rattle.pages.specs.Lists.{sum, Every}
use Rattle.pages.specs.Rectangles.{entry_of}
use Rattle.pages.specs.Layout.{Page, no_entry, page_at, page, page_words, table_in}
use Rattle.pages.specs.Sound.{piece_entries, sound}
use Rattle.placing.specs.Place.{choose, place, path}
use Rattle.placing.specs.Calls.{place_refusal, placed_words}

-- "Above the leaves, go to the entry whose area grows least": qs are the pages from p, which is at level l, down to the leaf
pub record Path (ps : List Page) (new : Rect) (l p : ℕ) (qs : List ℕ) : Type 0 where
  -- one page for each level, the first is p
  pub long : length qs ≡ suc l
  pub first : get_or qs 0 0 ≡ p
  pub inside : (i : ℕ) → i < length qs → get_or qs i 0 < length ps
  pub lower : (i : ℕ) → i < length qs → (page_at ps (get_or qs i 0)).level + i ≡ l
  -- the next one is the child of the entry to go to
  pub chosen : (i : ℕ) → suc i < length qs → choose new (page_at ps (get_or qs i 0)).entries < length (page_at ps (get_or qs i 0)).entries
  pub next : (i : ℕ) → suc i < length qs
      → get_or qs (suc i) 0 ≡ (get_or (page_at ps (get_or qs i 0)).entries (choose new (page_at ps (get_or qs i 0)).entries) no_entry).r

-- the sum of a weight over the pieces of the table in the words w
abbrev pub held : (Entry → ℕ) → List ℕ → ℕ
held f w = sum (λ p. sum f (piece_entries p)) (table_in w).pages

-- page q is not on the path
abbrev pub Off : List ℕ → Rect → ℕ → Type 0
Off w r q = Every (λ x. q ≢ x) (path (table_in w) r)

pub record Claims : Type 0 where
  -- "the pages on the path": of a sound table it leads from the root to a leaf
  pub descends : (w : List ℕ) (r : Rect) → T (sound w)
      → Path (table_in w).pages r (page (table_in w) (table_in w).root).level (table_in w).root (path (table_in w) r)
  -- "The table is sound afterwards, so vacated words are zero"; the slice is as long
  pub keeps : (w : List ℕ) (n : ℕ) (r : Rect) → TABLE_WORDS ≤ length w → T (sound w) → place_refusal w n r ≡ ACCEPTED
      → T (sound (placed_words w n r)) × (length (placed_words w n r) ≡ length w)
  -- the piece is added, and all others stay: for every weight the sum over them is larger by the weight of the new one
  pub holds : (w : List ℕ) (n : ℕ) (r : Rect) → T (sound w) → place_refusal w n r ≡ ACCEPTED
      → (f : Entry → ℕ) → held f (placed_words w n r) ≡ f (entry_of r n) + held f w
  -- "Only words 0 to 2 and the pages on the path or newly made may change": a page that is not on the path does not,
  pub untouched : (w : List ℕ) (n : ℕ) (r : Rect) → TABLE_WORDS ≤ length w → T (sound w)
      → (q : ℕ) → q < length (table_in w).pages → Off w r q → page_words (placed_words w n r) q ≡ page_words w q
  -- nor does one from the new page count on,
  pub later : (w : List ℕ) (n : ℕ) (r : Rect) → TABLE_WORDS ≤ length w → T (sound w)
      → (q : ℕ) → length (place (table_in w) n r).pages ≤ q → q < PAGES → page_words (placed_words w n r) q ≡ page_words w q
  -- nor do the words after the table
  pub rest : (w : List ℕ) (n : ℕ) (r : Rect) → drop TABLE_WORDS (placed_words w n r) ≡ drop TABLE_WORDS w
