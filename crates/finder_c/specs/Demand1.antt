-- Demand 1: "every call .. either does its work or refuses with one of the numbers 1 to 8 of document 01. A refusal reports zero
-- counts and changes no word of any slice." "Demand 1's numbers grow by each New one" of the requests: so far 10 and 11, of 2.10, and
-- 13 and 14, of 2.12. That every call ends, on slices of any length with any words, is what a proved crate says.
use Rattle.std.specs.Prelude.{ℕ, ◌≡◌, ◌≢◌, Bool, true, not, cond, ◌||◌, List, [], ◌∷◌, length, replicate, leb, ltb, eqb, pos}
use Rattle.outline.specs.Refusals.{wrong_count, within}
use Rattle.outline.specs.Calls.{area_call, point_call}
use Rattle.tiles.specs.Tiles.{TILES}
use Rattle.tiles.specs.Calls.{shares_call}
use Rattle.relations.specs.Axis.{CODES}
use Rattle.relations.specs.Query.{CLAUSES, some_bad, admitted_of}
use Rattle.pages.specs.declared.Rect.{Rect}
use Rattle.pages.specs.Sizes.{PIECES, TABLE_WORDS}
use Rattle.pages.specs.Lists.{is_among}
use Rattle.pages.specs.Rectangles.{valid}
use Rattle.pages.specs.Layout.{table_in}
use Rattle.pages.specs.Sound.{stored, sound}
use Rattle.pages.specs.Calls.{empty_call}
use Rattle.soundness.specs.Calls.{check_call}
use Rattle.placing.specs.Calls.{place_call}
use Rattle.query.specs.declared.Opened.{Opened}
use Rattle.query.specs.Calls.{query_call, OpenedWords}
use Rattle.nearest.specs.Calls.{no_nearest, out_of_range, nearest_call}

-- "the first whose condition holds is returned, and none without its condition"; "Zero means accepted"
abbrev pub first_of : List (ℕ × Bool) → ℕ
first_of [] = 0
first_of (c ∷ cs) = cond c.1 c.0 (first_of cs)

-- the numbers of the refusals
abbrev pub NUMBERS : List ℕ
NUMBERS = 1 ∷ 2 ∷ 3 ∷ 4 ∷ 5 ∷ 6 ∷ 7 ∷ 8 ∷ 10 ∷ 11 ∷ 13 ∷ 14 ∷ []

-- accepted, or refused with one of the numbers
abbrev pub Numbered : ℕ → Type 0
Numbered n = is_among n (0 ∷ NUMBERS) ≡ true

-- the conditions of document 01, each with its number
abbrev pub table_short : List ℕ → ℕ × Bool
table_short w = (1, ltb (length w) TABLE_WORDS)

abbrev pub not_valid : Rect → ℕ × Bool
not_valid r = (2, not (valid r))

abbrev pub too_large : ℕ → ℕ × Bool
too_large n = (3, leb PIECES n)

abbrev pub clause_count : List ℕ → ℕ × Bool
clause_count clauses = (4, eqb (length clauses) 0 || ltb CLAUSES (length clauses))

abbrev pub clause_bad : List ℕ → ℕ × Bool
clause_bad clauses = (5, some_bad clauses)

abbrev pub not_sound : List ℕ → ℕ × Bool
not_sound w = (6, not (sound w))

abbrev pub standing : List ℕ → ℕ → ℕ × Bool
standing w n = (7, not (eqb (stored (table_in w) n) 0))

abbrev pub answer_short : List ℕ → ℕ → ℕ × Bool
answer_short answer needed = (8, ltb (length answer) needed)

-- those of request 2.10: "odd word count, or point count outside 3 to 64", "a coordinate of the outline or of the point above 1,000,000"
abbrev pub point_count : List ℕ → ℕ × Bool
point_count outline = (10, wrong_count (length outline))

abbrev pub too_far : List ℕ → ℕ × Bool
too_far coordinates = (11, not (within coordinates))

-- those of request 2.12: "point or allowance out of range", "table without pieces"
abbrev pub not_in_range : ℕ → ℕ → ℕ → ℕ × Bool
not_in_range x y allowance = (13, out_of_range x y allowance)

abbrev pub without_pieces : List ℕ → ℕ × Bool
without_pieces w = (14, eqb (table_in w).count 0)

-- "empty 1; check 1, 6 ..; place 1, 6, 2, 3, 7; query and opened pages 1, 6, 2, 4, 5, 8; admitted set 4, 5"
abbrev pub empty_order : List ℕ → List (ℕ × Bool)
empty_order w = table_short w ∷ []

abbrev pub check_order : List ℕ → List (ℕ × Bool)
check_order w = table_short w ∷ not_sound w ∷ []

abbrev pub place_order : List ℕ → ℕ → Rect → List (ℕ × Bool)
place_order w n r = table_short w ∷ not_sound w ∷ not_valid r ∷ too_large n ∷ standing w n ∷ []

abbrev pub query_order : List ℕ → Rect → List ℕ → List ℕ → ℕ → List (ℕ × Bool)
query_order w q clauses answer needed =
    table_short w ∷ not_sound w ∷ not_valid q ∷ clause_count clauses ∷ clause_bad clauses ∷ answer_short answer needed ∷ []

abbrev pub admitted_order : List ℕ → List (ℕ × Bool)
admitted_order clauses = clause_count clauses ∷ clause_bad clauses ∷ []

-- "tested in that order"
abbrev pub area_order : List ℕ → List (ℕ × Bool)
area_order outline = point_count outline ∷ too_far outline ∷ []

abbrev pub point_order : List ℕ → ℕ → ℕ → List (ℕ × Bool)
point_order outline x y = point_count outline ∷ too_far (x ∷ (y ∷ outline)) ∷ []

-- "If either rectangle is not valid the refusal is 2"
abbrev pub shares_order : Rect → Rect → List (ℕ × Bool)
shares_order piece reference = not_valid piece ∷ not_valid reference ∷ []

-- "Order is 1, 6, 13, 14"
abbrev pub nearest_order : List ℕ → ℕ → ℕ → ℕ → List (ℕ × Bool)
nearest_order w x y allowance = table_short w ∷ not_sound w ∷ not_in_range x y allowance ∷ without_pieces w ∷ []

pub record Demand1 : Type 0 where
  -- the refusal of each call, by its conditions in order
  pub empty : (w : List ℕ) → (empty_call w).0 ≡ first_of (empty_order w)
  pub check : (w : List ℕ) → (check_call w).refusal ≡ first_of (check_order w)
  pub place : (w : List ℕ) (n : ℕ) (r : Rect) → (place_call w n r).0 ≡ first_of (place_order w n r)
  -- "8 answer slice shorter than the piece count (query) or than k (opened pages)"
  pub query : (w : List ℕ) (q : Rect) (clauses answer : List ℕ)
      → (query_call w q clauses answer).0.refusal ≡ first_of (query_order w q clauses answer (table_in w).count)
  pub opened : (w : List ℕ) (q : Rect) (clauses before after : List ℕ) (r : Opened) → OpenedWords w q clauses before after r
      → r.refusal ≡ first_of (query_order w q clauses before (length (table_in w).pages))
  pub admitted : (clauses : List ℕ) → (admitted_of clauses).refusal ≡ first_of (admitted_order clauses)
  pub area : (outline : List ℕ) → (area_call outline).refusal ≡ first_of (area_order outline)
  pub point : (outline : List ℕ) (x y : ℕ) → (point_call outline x y).refusal ≡ first_of (point_order outline x y)
  pub shares : (piece reference : Rect) → (shares_call piece reference).refusal ≡ first_of (shares_order piece reference)
  pub nearest : (w : List ℕ) (x y allowance : ℕ) → (nearest_call w x y allowance).refusal ≡ first_of (nearest_order w x y allowance)
  -- "one of the numbers"
  pub numbers : (w : List ℕ) (n : ℕ) (r : Rect) (clauses answer : List ℕ) (needed : ℕ)
      → Numbered (first_of (empty_order w)) × Numbered (first_of (check_order w)) × Numbered (first_of (place_order w n r))
      × Numbered (first_of (query_order w r clauses answer needed)) × Numbered (first_of (admitted_order clauses))
  pub outline-numbers : (outline : List ℕ) (x y : ℕ) → Numbered (first_of (area_order outline)) × Numbered (first_of (point_order outline x y))
  pub shares-numbers : (piece reference : Rect) → Numbered (first_of (shares_order piece reference))
  pub nearest-numbers : (w : List ℕ) (x y allowance : ℕ) → Numbered (first_of (nearest_order w x y allowance))
  -- "A refusal reports zero counts and changes no word of any slice"
  pub empty-leaves : (w : List ℕ) → (empty_call w).0 ≢ 0 → (empty_call w).1 ≡ w
  pub check-counts : (w : List ℕ) → (check_call w).refusal ≢ 0 → (check_call w).pieces ≡ 0
  pub place-leaves : (w : List ℕ) (n : ℕ) (r : Rect) → (place_call w n r).0 ≢ 0 → (place_call w n r).1 ≡ w
  pub query-leaves : (w : List ℕ) (q : Rect) (clauses answer : List ℕ) → (query_call w q clauses answer).0.refusal ≢ 0
      → ((query_call w q clauses answer).0.hits ≡ 0) × ((query_call w q clauses answer).0.opened ≡ 0) × ((query_call w q clauses answer).1 ≡ answer)
  pub opened-leaves : (w : List ℕ) (q : Rect) (clauses before after : List ℕ) (r : Opened) → OpenedWords w q clauses before after r
      → r.refusal ≢ 0 → (r.count ≡ 0) × (after ≡ before)
  -- "admitted set 4, 5, with empty rows"
  pub admitted-counts : (clauses : List ℕ) → (admitted_of clauses).refusal ≢ 0
      → ((admitted_of clauses).count ≡ 0) × ((admitted_of clauses).rows ≡ replicate CODES 0)
  -- "zero when refused"; a place counts from 1
  pub area-zero : (outline : List ℕ) → (area_call outline).refusal ≢ 0 → (area_call outline).twice_area ≡ pos 0
  pub point-zero : (outline : List ℕ) (x y : ℕ) → (point_call outline x y).refusal ≢ 0 → (point_call outline x y).place ≡ 0
  -- "and all areas, quotients and remainders are zero"
  pub shares-zero : (piece reference : Rect) → (shares_call piece reference).refusal ≢ 0
      → ((shares_call piece reference).areas ≡ replicate TILES 0) × ((shares_call piece reference).thousandths ≡ replicate TILES 0)
      × ((shares_call piece reference).remainders ≡ replicate TILES 0)
  -- neither piece nor page
  pub nearest-zero : (w : List ℕ) (x y allowance : ℕ) → (nearest_call w x y allowance).refusal ≢ 0
      → nearest_call w x y allowance ≡ no_nearest (nearest_call w x y allowance).refusal
