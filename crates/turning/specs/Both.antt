-- "Show also that a query of two clauses lists exactly the pieces that both single clauses list."
use Rattle.std.specs.Prelude.{ℕ, ◌≤◌, ◌≡◌, ◌↔◌, List, [], ◌∷◌, ◌++◌, length, take, T}
use Rattle.pages.specs.declared.Rect.{Rect}
use Rattle.pages.specs.Sizes.{TABLE_WORDS, PIECES}
use Rattle.pages.specs.Refusals.{ACCEPTED}
use Rattle.pages.specs.Layout.{table_in}
use Rattle.pages.specs.Sound.{sound}
use Rattle.query.specs.declared.Answer.{Answer}
use Rattle.query.specs.Calls.{query_call}
use Rattle.query.specs.Demand2.{In}
use Rattle.history.specs.Book.{Call}
use Rattle.history.specs.History.{table_after}
use Rattle.history.specs.Demand3.{Asked}

-- the words that a query call has listed
abbrev pub listed_words : Answer × List ℕ → List ℕ
listed_words out = take out.0.hits out.1

-- three accepted calls: the first lists exactly the numbers that both others list
pub record BothListed (out first second : Answer × List ℕ) : Type 0 where
  pub accepted : out.0.refusal ≡ ACCEPTED
  pub first-accepted : first.0.refusal ≡ ACCEPTED
  pub second-accepted : second.0.refusal ≡ ACCEPTED
  pub exactly : (n : ℕ) → In n (listed_words out) ↔ (In n (listed_words first) × In n (listed_words second))

-- the queries of these clauses, of the first part of them and of the second, whatever answer slices of that many words are lent
abbrev pub Parted : (table : List ℕ) (reference : Rect) (first second : List ℕ) (words : ℕ) → Type 0
Parted table reference first second words =
    Asked (first ++ second) reference
    → (answer answer₁ answer₂ : List ℕ) → words ≤ length answer → words ≤ length answer₁ → words ≤ length answer₂
    → BothListed (query_call table reference (first ++ second) answer) (query_call table reference first answer₁)
    (query_call table reference second answer₂)

-- one clause and one clause
abbrev pub TwoClauses : (table : List ℕ) (words : ℕ) → Type 0
TwoClauses table words = (q : Rect) (c d : ℕ) → Parted table q (c ∷ []) (d ∷ []) words

-- with any further clauses beside each of the two
abbrev pub MoreClauses : (table : List ℕ) (words : ℕ) → Type 0
MoreClauses table words = (q : Rect) (c d : ℕ) (cs ds : List ℕ) → Parted table q (c ∷ cs) (d ∷ ds) words

-- on every sound table; answer slices hold the piece count
abbrev pub OnSoundTables : ((table : List ℕ) (words : ℕ) → Type 0) → Type 0
OnSoundTables P = (table : List ℕ) → TABLE_WORDS ≤ length table → T (sound table) → P table (table_in table).count

-- after every list of place calls from the empty table, refused ones included, with 1,024 or more answer words
abbrev pub AfterCalls : ((table : List ℕ) (words : ℕ) → Type 0) → Type 0
AfterCalls P = (slice : List ℕ) → TABLE_WORDS ≤ length slice → (calls : List Call) → P (table_after slice calls) PIECES
