-- Demand 3, as one statement about whole lists of place calls. `empty_call`, `place_call` and `query_call` are what the contracts of
-- `empty`, `place` and `query` equate the code with. Nothing is assumed of the tables in between.
use Rattle.std.specs.Prelude.{ℕ, ◌≤◌, ◌<◌, ◌≡◌, ◌↔◌, length, get_or, drop, T}
use mathlib.Core.List.{List, Memᴰ, ◌++◌}
use Rattle.relations.specs.Query.{refusal_of}
use Rattle.pages.specs.declared.Rect.{Rect}
use Rattle.pages.specs.Sizes.{TABLE_WORDS, PIECES}
use Rattle.pages.specs.Rectangles.{valid}
use Rattle.pages.specs.Refusals.{ACCEPTED}
use Rattle.query.specs.declared.Answer.{Answer}
use Rattle.query.specs.Admission.{admits_rect}
use Rattle.query.specs.Calls.{query_call}
use Rattle.history.specs.Book.{Call, Book, blank, stands, book_after, first_valid}
use Rattle.history.specs.History.{table_after, SameListing}

-- "each valid query with a valid reference": "A query is valid when neither refusal 4 nor 5 holds for it"
pub record Asked (clauses : List ℕ) (reference : Rect) : Type 0 where
  pub query : refusal_of clauses ≡ ACCEPTED
  pub rectangle : T (valid reference)

-- "is accepted. It lists exactly the numbers whose standing rectangle it admits, each one time, in rising number, and returns how
-- many they are as its hits"; the answer words after them are left. Counts of opened pages are free
pub record Lists (b : Book) (clauses : List ℕ) (reference : Rect) (answer : List ℕ) (out : Answer × List ℕ) : Type 0 where
  pub accepted : out.0.refusal ≡ ACCEPTED
  pub numbers : List ℕ
  pub exactly : (n : ℕ) → Memᴰ n numbers ↔ ((r : Rect) × (b n ≡ stands r) × T (admits_rect clauses reference r))
  pub rising : (i j : ℕ) → i < j → j < length numbers → get_or numbers i 0 < get_or numbers j 0
  pub hits : out.0.hits ≡ length numbers
  pub words : out.1 ≡ numbers ++ drop (length numbers) answer

-- "the tables reached give equal listings for all of these queries and references"
abbrev pub EqualListings : (table₁ answer₁ table₂ answer₂ : List ℕ) → Type 0
EqualListings table₁ answer₁ table₂ answer₂ =
    (clauses : List ℕ) (reference : Rect) → Asked clauses reference
    → SameListing (query_call table₁ reference clauses answer₁) (query_call table₂ reference clauses answer₂)

-- "the same numbers stand in both with the same rectangles"
abbrev pub SameStanding : (calls₁ calls₂ : List Call) → Type 0
SameStanding calls₁ calls₂ = (n : ℕ) → n < PIECES → book_after calls₁ n ≡ book_after calls₂ n

pub record Demand3 : Type 0 where
  -- "After every list of place calls, refused ones included, from the table that the empty call leaves, each valid query with a valid
  -- reference and 1,024 or more answer words is accepted. It lists .."
  pub listed : (slice : List ℕ) → TABLE_WORDS ≤ length slice → (calls : List Call)
      → (clauses : List ℕ) (reference : Rect) → Asked clauses reference → (answer : List ℕ) → PIECES ≤ length answer
      → Lists (book_after calls) clauses reference answer (query_call (table_after slice calls) reference clauses answer)
  -- "For every two such lists, the tables reached give equal listings .. exactly when the same numbers stand in both ..", whatever
  -- slices are lent
  pub compared : (slice₁ slice₂ : List ℕ) → TABLE_WORDS ≤ length slice₁ → TABLE_WORDS ≤ length slice₂ → (calls₁ calls₂ : List Call)
      → (answer₁ answer₂ : List ℕ) → PIECES ≤ length answer₁ → PIECES ≤ length answer₂
      → EqualListings (table_after slice₁ calls₁) answer₁ (table_after slice₂ calls₂) answer₂ ↔ SameStanding calls₁ calls₂
  -- "What stands is read from the calls alone: for each number from 0 to 1,023, the first call that brings a valid rectangle"
  pub first : (calls : List Call) (n : ℕ) → n < PIECES → book_after calls n ≡ first_valid n calls
  pub others : (calls : List Call) (n : ℕ) → PIECES ≤ n → book_after calls n ≡ blank
