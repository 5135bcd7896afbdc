-- Demand 2. "On every sound page table an accepted query lists exactly the pieces whose rectangle stands to the reference in a configuration that the wish admits,
-- each one time, in rising number. Below the root, a page under an opened page is opened exactly when some rectangle within its own, with corners on
-- quarter units, could stand in such a configuration."
use Rattle.std.specs.Prelude.{ℕ, ◌≤◌, ◌<◌, ◌≡◌, ◌↔◌, ◌≢◌, true, List, [], ◌∷◌, ◌++◌, length, get_or, drop}
use Rattle.relations.specs.Query.{admitted_count}
use Rattle.relations.specs.Nodes.{QuarterRect}
use Rattle.pages.specs.declared.Rect.{Rect}
use Rattle.pages.specs.Refusals.{ACCEPTED}
use Rattle.pages.specs.Pieces.{PieceAt}
use Rattle.pages.specs.Layout.{no_entry, page, table_in}
use Rattle.query.specs.declared.Answer.{Answer}
use Rattle.query.specs.Admission.{admits_rect}
use Rattle.query.specs.Calls.{query_listing, query_opened, query_call}

-- c stands at a place of the list
pub record In (c : ℕ) (xs : List ℕ) : Type 0 where
  pub place : ℕ
  pub inside : place < length xs
  pub holds : get_or xs place 0 ≡ c

-- the quarter-unit rule between a page's rectangle s and the reference q
abbrev pub QuarterIn : List ℕ → Rect → Rect → Type 0
QuarterIn clauses q s = QuarterRect clauses s.x1 s.y1 s.x2 s.y2 q.x1 q.y1 q.x2 q.y2

pub record Answered (w : List ℕ) (q : Rect) (clauses answer : List ℕ) : Type 0 where
  -- what an accepted query returns, and the words it leaves: the listing, then those that were there
  pub answered : ◌≡◌ {A = Answer × List ℕ} (query_call w q clauses answer) (
    record { refusal = ACCEPTED; hits = length (query_listing w q clauses); opened = length (query_opened w q clauses) },
    query_listing w q clauses ++ drop (length (query_listing w q clauses)) answer,
  )
  -- "exactly the pieces whose rectangle stands to the reference in a configuration that the wish admits"
  pub exactly : (c : ℕ) → In c (query_listing w q clauses) ↔ ((r : Rect) × PieceAt (table_in w) c r × (admits_rect clauses q r ≡ true))
  -- "each one time, in rising number"
  pub rising : (i j : ℕ) → i < j → j < length (query_listing w q clauses) → get_or (query_listing w q clauses) i 0 < get_or (query_listing w q clauses) j 0
  -- "The root is always opened, also when empty"
  pub root : In (table_in w).root (query_opened w q clauses)
  -- below it, entry i of page p leads to an opened page exactly when p is opened and the quarter-unit rule holds for the entry's rectangle
  pub below : (p i : ℕ) → p < length (table_in w).pages → (page (table_in w) p).level ≢ 0 → i < length (page (table_in w) p).entries
      → In (get_or (page (table_in w) p).entries i no_entry).r (query_opened w q clauses)
      ↔ (In p (query_opened w q clauses) × QuarterIn clauses q (get_or (page (table_in w) p).entries i no_entry).rect)
  -- only pages of the table are opened, each one time, so at most k
  pub pages : (p : ℕ) → In p (query_opened w q clauses) → p < length (table_in w).pages
  pub once : (i j : ℕ) → i < j → j < length (query_opened w q clauses) → get_or (query_opened w q clauses) i 0 ≢ get_or (query_opened w q clauses) j 0
  pub most : length (query_opened w q clauses) ≤ length (table_in w).pages
  -- "An empty admitted set is valid": nothing is listed, and the root alone is opened
  pub empty : admitted_count clauses ≡ 0 → (query_listing w q clauses ≡ []) × (query_opened w q clauses ≡ (table_in w).root ∷ [])

-- an accepted query found its table sound (refusal 6)
abbrev pub Demand2 : Type 0
Demand2 = (w : List ℕ) (q : Rect) (clauses answer : List ℕ) → (query_call w q clauses answer).0.refusal ≡ ACCEPTED → Answered w q clauses answer
