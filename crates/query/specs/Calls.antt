-- The query and the opened-pages call: refusals in order, what each returns, and the words of the answer slice that it leaves.
use Rattle.std.specs.Prelude.{ℕ, not, cond, ◌≡◌, List, [], ◌++◌, length, take, drop, leb, ltb, eqb, Result, Ok, Err}
use Rattle.refusals.specs.declared.Refusal.{Refusal}
use Rattle.refusals.specs.Numbers.{number_of}
use Rattle.relations.specs.Query.{refusal_of}
use Rattle.pages.specs.declared.Rect.{Rect}
use Rattle.pages.specs.Sizes.{TABLE_WORDS}
use Rattle.pages.specs.Lists.{times}
use Rattle.pages.specs.Rectangles.{valid}
use Rattle.pages.specs.Refusals.{ACCEPTED, TABLE_TOO_SHORT, RECTANGLE_NOT_VALID, TABLE_NOT_SOUND, ANSWER_TOO_SHORT}
use Rattle.pages.specs.Layout.{table_in}
use Rattle.pages.specs.Sound.{sound}
use Rattle.query.specs.declared.Found.{Found}
use Rattle.query.specs.declared.Answer.{Answer}
use Rattle.query.specs.declared.Opened.{Opened}
use Rattle.query.specs.Admission.{admits_rect, opens}
use Rattle.query.specs.Opening.{opened_pages}
use Rattle.query.specs.Listing.{listing}

-- "query and opened pages 1, 6, 2, 4, 5, 8": of a sound table the last four, where the clauses' own refusal is `clauses`, the answer
-- slice has `size` words and `needed` are asked
unfoldable pub refusal_from : Rect → ℕ → ℕ → ℕ → ℕ
unfolding valid
refusal_from q clauses size needed =
    cond (not (valid q)) RECTANGLE_NOT_VALID
    (cond (eqb clauses ACCEPTED) (cond (ltb size needed) ANSWER_TOO_SHORT ACCEPTED) clauses)

unfoldable pub sound_refusal : Rect → List ℕ → ℕ → ℕ → ℕ
unfolding refusal_from
sound_refusal q clauses size needed = refusal_from q (refusal_of clauses) size needed

-- "A refusal reports zero counts and changes no word"
abbrev pub no_answer : ℕ → Answer
no_answer refusal = record { refusal = refusal; hits = 0; opened = 0 }

abbrev pub no_opened : ℕ → Opened
no_opened refusal = record { refusal = refusal; count = 0 }

-- what C gets of what the calls return
abbrev pub answer_of : Result Found Refusal → Answer
answer_of (Ok found) = record { refusal = ACCEPTED; hits = found.hits; opened = found.opened }
answer_of (Err why) = no_answer (number_of why)

abbrev pub opened_of : Result ℕ Refusal → Opened
opened_of (Ok count) = record { refusal = ACCEPTED; count = count }
opened_of (Err why) = no_opened (number_of why)

-- the listing of a table's pieces
unfoldable pub query_listing : List ℕ → Rect → List ℕ → List ℕ
unfolding listing admits_rect table_in
query_listing w q clauses = listing (admits_rect clauses q) (table_in w)

unfoldable pub query_opened : List ℕ → Rect → List ℕ → List ℕ
unfolding opened_pages opens table_in
query_opened w q clauses = opened_pages (opens clauses q) (table_in w)

-- "writes the listing of demand 2 at the start of a slice of 16-bit words, leaves the rest, and returns the number of hits and of opened pages"
unfoldable pub query_answer : List ℕ → Rect → List ℕ → List ℕ → Answer × List ℕ
unfolding query_listing query_opened
query_answer w q clauses answer =
    let l : List ℕ = query_listing w q clauses in
    (record { refusal = ACCEPTED; hits = length l; opened = length (query_opened w q clauses) }, l ++ drop (length l) answer)

-- a query call on a sound table; 8 compares with the piece count
unfoldable pub query_sound : List ℕ → Rect → List ℕ → List ℕ → Answer × List ℕ
unfolding sound_refusal query_answer table_in
query_sound w q clauses answer =
    let refusal : ℕ = sound_refusal q clauses (length answer) (table_in w).count in
    cond (eqb refusal ACCEPTED) (query_answer w q clauses answer) (no_answer refusal, answer)

unfoldable pub query_call : List ℕ → Rect → List ℕ → List ℕ → Answer × List ℕ
unfolding query_sound sound
query_call w q clauses answer =
    cond (ltb (length w) TABLE_WORDS) (no_answer TABLE_TOO_SHORT, answer)
    (cond (sound w) (query_sound w q clauses answer) (no_answer TABLE_NOT_SOUND, answer))

-- what the opened-pages call returns; 8 compares with k
unfoldable pub opened_sound : List ℕ → Rect → List ℕ → List ℕ → Opened
unfolding sound_refusal query_opened table_in
opened_sound w q clauses answer =
    let refusal : ℕ = sound_refusal q clauses (length answer) (length (table_in w).pages) in
    cond (eqb refusal ACCEPTED) (record { refusal = ACCEPTED; count = length (query_opened w q clauses) }) (no_opened refusal)

unfoldable pub opened_call : List ℕ → Rect → List ℕ → List ℕ → Opened
unfolding opened_sound sound
opened_call w q clauses answer =
    cond (ltb (length w) TABLE_WORDS) (no_opened TABLE_TOO_SHORT)
    (cond (sound w) (opened_sound w q clauses answer) (no_opened TABLE_NOT_SOUND))

-- two lists have the same numbers, each as often
abbrev pub Rearranged : List ℕ → List ℕ → Type 0
Rearranged xs ys = (n : ℕ) → times n xs ≡ times n ys

-- "lists those page numbers, each one time, in a slice of 16-bit words, leaves the words after them, and returns their count. Their order is free"
pub record OpenedWords (w : List ℕ) (q : Rect) (clauses before after : List ℕ) (r : Opened) : Type 0 where
  pub result : r ≡ opened_call w q clauses before
  pub listed : r.refusal ≡ ACCEPTED → Rearranged (take r.count after) (query_opened w q clauses)
  pub rest : drop r.count after ≡ drop r.count before
  pub size : length after ≡ length before

-- "a count above the length gives the empty part"
unfoldable pub front_of : List ℕ → ℕ → List ℕ
front_of answer count = cond (leb count (length answer)) (take count answer) []
