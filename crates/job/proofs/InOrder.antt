-- The lines that the functions give, in order, are the output of the job: lists are taken apart from the front, the functions go by
-- position, so each list is followed to its last element.
use Prim.Native.Nat.{ℕ, zero, suc, ◌+◌}
use mathlib.Core.Path.{◌≡◌, refl, sym, ap, ◌∙◌}
use mathlib.Core.Bool.{false, cond}
use mathlib.Core.List.{List, [], ◌∷◌, ◌++◌, append_assoc, append-nil}
use native.Mathlib.Omega.{arith}
use lib.ListN.{length, length-append}
use lib.Dec.{T}
use Rattle.pages.specs.Calls.{empty_words}
use Rattle.pages.proofs.Lists.{T_true}
use Rattle.placing.specs.Calls.{place_call}
use Rattle.history.specs.Book.{Call}
use Rattle.history.specs.History.{placed}
use Rattle.history.proofs.Replaying.{placed-more}
use Rattle.job.specs.Job.{Query}
use Rattle.job.specs.Output.{piece_line, query_line, answer_of, piece_lines, query_lines, job_lines, bad_job}
use Rattle.job.specs.Words.{piece_count, piece_at, pieces_in, query_count, query_start, query_at, queries_in, job_in, well_formed, output}
use Rattle.job.specs.Steps.{table_at, full_table, piece_line_at, query_line_at, lines_to}
use Rattle.job.proofs.Tables.{first-table}

-- what the definitions say of no item, and of one and the others
no-placed : (w : List ℕ) → placed w [] ≡ w
unfolding placed
no-placed w = refl

more-placed : (w : List ℕ) (c : Call) (cs : List Call) → placed w (c ∷ cs) ≡ placed (place_call w c.number c.rect).1 cs
unfolding placed
more-placed w c cs = refl

no_pieces : (i : ℕ) (w : List ℕ) → piece_lines i w [] ≡ []
unfolding piece_lines
no_pieces i w = refl

more-pieces : (i : ℕ) (w : List ℕ) (c : Call) (cs : List Call) → piece_lines i w (c ∷ cs)
    ≡ piece_line i (place_call w c.number c.rect).0 ++ piece_lines (suc i) (place_call w c.number c.rect).1 cs
unfolding piece_lines
more-pieces i w c cs = refl

no-queries : (i : ℕ) (w : List ℕ) → query_lines i w [] ≡ []
unfolding query_lines
no-queries i w = refl

more-queries : (i : ℕ) (w : List ℕ) (q : Query) (qs : List Query) → query_lines i w (q ∷ qs) ≡ query_line i (answer_of w q) ++ query_lines (suc i) w qs
unfolding query_lines
more-queries i w q qs = refl

-- one item more
pieces-last : (i k : ℕ) (w : List ℕ) (cs : List Call) (c : Call) → k ≡ length cs + i
    → piece_lines i w (cs ++ (c ∷ [])) ≡ piece_lines i w cs ++ piece_line k (place_call (placed w cs) c.number c.rect).0
pieces-last i k w [] c e =
    let same : k ≡ i = omega arith in
    rw (same, more-pieces i w c [], no_pieces, no_pieces, no-placed) (append-nil (piece_line i (place_call w c.number c.rect).0))
pieces-last i k w (d ∷ ds) c e =
    let w' = (place_call w d.number d.rect).1 in
    more-pieces i w d (ds ++ (c ∷ []))
    ∙ ap (λ l. piece_line i (place_call w d.number d.rect).0 ++ l) (pieces-last (suc i) k w' ds c (omega arith))
    ∙ rw (more-pieces i w d ds, more-placed w d ds, append_assoc)

queries-last : (i k : ℕ) (w : List ℕ) (qs : List Query) (q : Query) → k ≡ length qs + i → query_lines i w (qs ++ (q ∷ [])) ≡ query_lines i w qs ++ query_line k (answer_of w q)
queries-last i k w [] q e =
    let same : k ≡ i = omega arith in
    rw (same, more-queries i w q [], no-queries, no-queries) (append-nil (query_line i (answer_of w q)))
queries-last i k w (r ∷ rs) q e =
    more-queries i w r (rs ++ (q ∷ []))
    ∙ ap (λ l. query_line i (answer_of w r) ++ l) (queries-last (suc i) k w rs q (omega arith))
    ∙ rw (more-queries i w r rs, append_assoc)

module _ (b : List ℕ) where
  pub last-piece : (n : ℕ) → pieces_in b (suc n) ≡ pieces_in b n ++ (piece_at b n ∷ [])
  unfolding pieces_in
  last-piece n = refl

  pub last-query : (n : ℕ) → queries_in b (suc n) ≡ queries_in b n ++ (query_at b (query_start b n) ∷ [])
  unfolding queries_in
  last-query n = refl

  pub length-pieces : (n : ℕ) → length (pieces_in b n) ≡ n
  unfolding pieces_in
  length-pieces zero = refl
  length-pieces (suc n) = omega (arith, length-append (pieces_in b n) (piece_at b n ∷ []), length-pieces n)

  pub no-query : queries_in b 0 ≡ []
  unfolding queries_in
  no-query = refl

  pub length-queries : (n : ℕ) → length (queries_in b n) ≡ n
  length-queries zero = ap length no-query
  length-queries (suc n) = ap length (last-query n) ∙ omega (arith, length-append (queries_in b n) (query_at b (query_start b n) ∷ []), length-queries n)

  pub no-piece : pieces_in b 0 ≡ []
  unfolding pieces_in
  no-piece = refl

  next-table : (n : ℕ) → table_at b (suc n) ≡ (place_call (table_at b n) (piece_at b n).number (piece_at b n).rect).1
  unfolding table_at
  next-table n = refl

  table_is : (n : ℕ) → placed empty_words (pieces_in b n) ≡ table_at b n
  table_is zero = ap (placed empty_words) no-piece ∙ no-placed empty_words ∙ sym (first-table b)
  table_is (suc n) =
      ap (placed empty_words) (last-piece n)
      ∙ placed-more (pieces_in b n) empty_words (piece_at b n)
      ∙ ap (λ w. (place_call w (piece_at b n).number (piece_at b n).rect).1) (table_is n)
      ∙ sym (next-table n)

  piece-line : (n : ℕ) → piece_line_at b n ≡ piece_line n (place_call (table_at b n) (piece_at b n).number (piece_at b n).rect).0
  unfolding piece_line_at
  piece-line n = refl

  query-line : (n : ℕ) → query_line_at b n ≡ query_line n (answer_of (full_table b) (query_at b (query_start b n)))
  unfolding query_line_at
  query-line n = refl

  piece-lines : (n : ℕ) → piece_lines 0 empty_words (pieces_in b n) ≡ lines_to (piece_line_at b) n
  piece-lines zero = ap (piece_lines 0 empty_words) no-piece ∙ no_pieces 0 empty_words
  piece-lines (suc n) =
      ap (piece_lines 0 empty_words) (last-piece n)
      ∙ pieces-last 0 n empty_words (pieces_in b n) (piece_at b n) (omega (arith, length-pieces n))
      ∙ ap (λ w. piece_lines 0 empty_words (pieces_in b n) ++ piece_line n (place_call w (piece_at b n).number (piece_at b n).rect).0) (table_is n)
      ∙ rw (← piece-line n, piece-lines n)

  query-lines : (n : ℕ) → query_lines 0 (full_table b) (queries_in b n) ≡ lines_to (query_line_at b) n
  query-lines zero = ap (query_lines 0 (full_table b)) no-query ∙ no-queries 0 (full_table b)
  query-lines (suc n) =
      ap (query_lines 0 (full_table b)) (last-query n)
      ∙ queries-last 0 n (full_table b) (queries_in b n) (query_at b (query_start b n)) (omega (arith, length-queries n))
      ∙ rw (← query-line n, query-lines n)

  job-lines : job_lines (job_in b) ≡ piece_lines 0 empty_words (pieces_in b (piece_count b)) ++ query_lines 0 (placed empty_words (pieces_in b (piece_count b))) (queries_in b (query_count b))
  unfolding job_lines job_in
  job-lines = refl

  output-tests : output b ≡ cond (well_formed b) (job_lines (job_in b)) bad_job
  unfolding output
  output-tests = refl

  -- the whole output of a well-formed job is the line of each piece in turn and the line of each query in turn
  pub in-order : T (well_formed b) → output b ≡ lines_to (piece_line_at b) (piece_count b) ++ lines_to (query_line_at b) (query_count b)
  in-order good =
      output-tests
      ∙ ap (λ x. cond x (job_lines (job_in b)) bad_job) (T_true (well_formed b) good)
      ∙ job-lines
      ∙ ap (λ w. piece_lines 0 empty_words (pieces_in b (piece_count b)) ++ query_lines 0 w (queries_in b (query_count b))) (table_is (piece_count b))
      ∙ rw (piece-lines (piece_count b), query-lines (query_count b))

  -- and of any other bytes "bad job"
  pub bad : well_formed b ≡ false → output b ≡ bad_job
  bad h = output-tests ∙ ap (λ x. cond x (job_lines (job_in b)) bad_job) h
