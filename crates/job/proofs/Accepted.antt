-- The bytes of every job are well formed, and reading them gives the job back: the words from a place on are followed item by item.
use Prim.Native.Nat.{ℕ, zero, suc, ◌+◌, ◌*◌, ◌/◌, ◌≤◌, ◌<◌}
use mathlib.Core.Path.{◌≡◌, refl, sym, ap, ◌∙◌}
use mathlib.Core.List.{List, [], ◌∷◌, ◌++◌, append_assoc, append-nil}
use native.Mathlib.Omega.{arith}
use native.Mathlib.Nat.{div-add-mod, mod-lt}
use lib.ListN.{length, get_or, length-append}
use lib.Seq.{get_or-append-add}
use lib.Dec.{T, leb, eqb}
use borrow.Author.Tests.{le-leb, eq-eqb}
use Rattle.pages.specs.Lists.{concat_map}
use Rattle.pages.proofs.Lists.{and}
use Rattle.pages.specs.declared.Rect.{Rect}
use Rattle.history.specs.Book.{Call}
use Rattle.history.specs.Replay.{CALL_WORDS}
use Rattle.job.specs.Sizes.{JOB_BYTES, WORD_BYTES, BYTE_VALUES, WORD_VALUES, QUERY_HEAD, CLAUSE_COUNT_AT, CLAUSE_WORDS}
use Rattle.job.specs.Job.{Query, Job, rect_words, piece_words, clause_words, query_words, job_words, little_endian, job_bytes}
use Rattle.job.specs.Words.{word_at, rect_at, clause_at, clauses_at, piece_count, piece_start, piece_at, pieces_in, query_count, query_start, query_at, queries_in, job_in, well_formed}
use Rattle.job.specs.Claims.{Words}
use Rattle.job.proofs.Reading.{rect-is, no_clause, last-clause}
use Rattle.job.proofs.Places.{first-start, next_start}
use Rattle.job.proofs.InOrder.{last-piece, last-query, no-piece, no-query}

-- the bytes of words, and a word read from them
abbrev bytes_of : List ℕ → List ℕ
bytes_of ws = concat_map (little_endian WORD_BYTES) ws

first_word : (w : ℕ) (rest : List ℕ) → w < WORD_VALUES → word_at (little_endian WORD_BYTES w ++ rest) 0 ≡ w
unfolding word_at
first_word w rest h =
    omega (
      arith,
      div-add-mod w BYTE_VALUES,
      div-add-mod (w / BYTE_VALUES) BYTE_VALUES,
      div-add-mod (w / BYTE_VALUES / BYTE_VALUES) BYTE_VALUES,
      div-add-mod (w / BYTE_VALUES / BYTE_VALUES / BYTE_VALUES) BYTE_VALUES,
      mod-lt (w / BYTE_VALUES / BYTE_VALUES / BYTE_VALUES) {m = BYTE_VALUES} (omega arith),
    )

later-word : (w : ℕ) (rest : List ℕ) (i : ℕ) → word_at (little_endian WORD_BYTES w ++ rest) (suc i) ≡ word_at rest i
unfolding word_at
later-word w rest i =
    omega (
      arith,
      past (WORD_BYTES * i) (WORD_BYTES * suc i) (omega arith),
      past (WORD_BYTES * i + 1) (WORD_BYTES * suc i + 1) (omega arith),
      past (WORD_BYTES * i + 2) (WORD_BYTES * suc i + 2) (omega arith),
      past (WORD_BYTES * i + 3) (WORD_BYTES * suc i + 3) (omega arith),
    )
  where
    past : (n m : ℕ) → m ≡ WORD_BYTES + n → get_or (little_endian WORD_BYTES w ++ rest) m 0 ≡ get_or rest n 0
    past n m e = rw e (get_or-append-add (little_endian WORD_BYTES w) rest n 0)

no_word : (i : ℕ) → word_at [] i ≡ 0
unfolding word_at
no_word i = refl

word-is : (ws : List ℕ) → Words ws → (i : ℕ) → word_at (bytes_of ws) i ≡ get_or ws i 0
word-is [] short i = no_word i
word-is (w ∷ ws) short zero = first_word w (bytes_of ws) (short 0)
word-is (w ∷ ws) short (suc i) = later-word w (bytes_of ws) i ∙ word-is ws (λ k. short (suc k)) i

call-is : (n n' : ℕ) (r r' : Rect) → n ≡ n' → r ≡ r' → ◌≡◌ {A = Call} (record { number = n; rect = r }) (record { number = n'; rect = r' })
call-is n n' r r' e f = cc

query-is : (r r' : Rect) (cs cs' : List ℕ) → r ≡ r' → cs ≡ cs' → ◌≡◌ {A = Query} (record { reference = r; clauses = cs }) (record { reference = r'; clauses = cs' })
query-is r r' cs cs' e f = cc

-- the words from place s on are `tail`
record At (ws : List ℕ) (s : ℕ) (tail : List ℕ) : Type 0 where
  front : List ℕ
  split : ws ≡ front ++ tail
  size : length front ≡ s

module _ (ws : List ℕ) where
  move : (s t : ℕ) (xs tail : List ℕ) → At ws s (xs ++ tail) → t ≡ s + length xs → At ws t tail
  move s t xs tail A e = record {
    front = A.front ++ xs;
    split = A.split ∙ sym (append_assoc A.front xs tail);
    size = omega (arith, length-append A.front xs, A.size);
  }

  module _ (short : Words ws) where
    abbrev b : List ℕ
    b = bytes_of ws

    read_at : (s : ℕ) (tail : List ℕ) (k i : ℕ) → At ws s tail → i ≡ s + k → word_at b i ≡ get_or tail k 0
    read_at s tail k i A e =
        let same : i ≡ length A.front + k = omega (arith, A.size) in
        word-is ws short i
        ∙ ap (λ l. get_or l i 0) A.split
        ∙ ap (λ n. get_or (A.front ++ tail) n 0) same
        ∙ get_or-append-add A.front tail k 0

    rect-read : (s t : ℕ) (r : Rect) (front tail : List ℕ) → At ws s (front ++ (rect_words r ++ tail)) → t ≡ s + length front → rect_at b t ≡ r
    rect-read s t r front tail A e =
        let R = move s t front (rect_words r ++ tail) A e in
        rect-is _ _ _ _ _ _ _ _ (read_at t (rect_words r ++ tail) 0 t R (omega arith)) (read_at t (rect_words r ++ tail) 1 (t + 1) R refl)
        (read_at t (rect_words r ++ tail) 2 (t + 2) R refl) (read_at t (rect_words r ++ tail) 3 (t + 3) R refl)

    -- pieces
    piece-read : (i : ℕ) (c : Call) (tail : List ℕ) → At ws (piece_start i) (piece_words c ++ tail) → piece_at b i ≡ c
    unfolding piece_words
    piece-read i c tail A =
        call-is _ _ _ _ (read_at (piece_start i) (piece_words c ++ tail) 0 (piece_start i) A (omega arith))
        (rect-read (piece_start i) (piece_start i + 1) c.rect (c.number ∷ []) tail A refl)

    piece-size : (c : Call) → length (piece_words c) ≡ CALL_WORDS
    unfolding piece_words
    piece-size c = refl

    pieces-read : (cs : List Call) (i n : ℕ) (tail : List ℕ) → n ≡ length cs + i → At ws (piece_start i) (concat_map piece_words cs ++ tail)
        → (pieces_in b n ≡ pieces_in b i ++ cs) × At ws (piece_start n) tail
    pieces-read [] i n tail e A =
        let same : n ≡ i = omega arith in
        (ap (pieces_in b) same ∙ sym (append-nil (pieces_in b i)), move (piece_start i) (piece_start n) [] tail A (omega arith))
    pieces-read (c ∷ cs) i n tail e A =
        let rest = concat_map piece_words cs ++ tail in
        let A' = rw (append_assoc (piece_words c) (concat_map piece_words cs) tail) at A in
        let done = pieces-read cs (suc i) n tail (omega arith) (move (piece_start i) (piece_start (suc i)) (piece_words c) rest A' (omega (arith, piece-size c))) in (
          done.0 ∙ ap (λ l. l ++ cs) (last-piece b i) ∙ append_assoc (pieces_in b i) (piece_at b i ∷ []) cs ∙ ap (λ x. pieces_in b i ++ (x ∷ cs)) (piece-read i c rest A'),
          done.1,
        )

    -- clauses
    clause-read : (m c : ℕ) (tail : List ℕ) → At ws m (clause_words c ++ tail) → clause_at b m ≡ c
    unfolding clause_words
    clause-read m c tail A =
        omega (arith, read_at m (clause_words c ++ tail) 0 m A (omega arith), read_at m (clause_words c ++ tail) 1 (m + 1) A refl, div-add-mod c WORD_VALUES)

    clause-size : (c : ℕ) → length (clause_words c) ≡ CLAUSE_WORDS
    unfolding clause_words
    clause-size c = refl

    clauses-read : (cs : List ℕ) (s i n : ℕ) (tail : List ℕ) → n ≡ length cs + i → At ws (s + CLAUSE_WORDS * i) (concat_map clause_words cs ++ tail)
        → (clauses_at b s n ≡ clauses_at b s i ++ cs) × At ws (s + CLAUSE_WORDS * n) tail
    clauses-read [] s i n tail e A =
        let same : n ≡ i = omega arith in
        (ap (clauses_at b s) same ∙ sym (append-nil (clauses_at b s i)), move (s + CLAUSE_WORDS * i) (s + CLAUSE_WORDS * n) [] tail A (omega arith))
    clauses-read (c ∷ cs) s i n tail e A =
        let at = s + CLAUSE_WORDS * i in
        let rest = concat_map clause_words cs ++ tail in
        let A' = rw (append_assoc (clause_words c) (concat_map clause_words cs) tail) at A in
        let done = clauses-read cs s (suc i) n tail (omega arith) (move at (s + CLAUSE_WORDS * suc i) (clause_words c) rest A' (omega (arith, clause-size c))) in (
          done.0 ∙ ap (λ l. l ++ cs) (last-clause b s i) ∙ append_assoc (clauses_at b s i) (clause_at b at ∷ []) cs ∙ ap (λ x. clauses_at b s i ++ (x ∷ cs)) (clause-read at c rest A'),
          done.1,
        )

    -- queries
    query-parts : (q : Query) (tail : List ℕ) → query_words q ++ tail ≡ rect_words q.reference ++ (length q.clauses ∷ (concat_map clause_words q.clauses ++ tail))
    unfolding query_words
    query-parts q tail = refl

    query-at : (s : ℕ) → query_at b s ≡ record { reference = rect_at b s; clauses = clauses_at b (s + QUERY_HEAD) (word_at b (s + CLAUSE_COUNT_AT)) }
    unfolding query_at
    query-at s = refl

    query-read : (s : ℕ) (q : Query) (tail : List ℕ) → At ws s (query_words q ++ tail)
        → (query_at b s ≡ q) × At ws (s + QUERY_HEAD + CLAUSE_WORDS * word_at b (s + CLAUSE_COUNT_AT)) tail
    query-read s q tail A =
        let cs = q.clauses in
        let rest = concat_map clause_words cs ++ tail in
        let A' = rw (query-parts q tail) at A in
        let count = read_at s (rect_words q.reference ++ (length cs ∷ rest)) CLAUSE_COUNT_AT (s + CLAUSE_COUNT_AT) A' refl in
        let B = move s (s + QUERY_HEAD + CLAUSE_WORDS * 0) (rect_words q.reference ++ (length cs ∷ [])) rest A' (omega arith) in
        let done = clauses-read cs (s + QUERY_HEAD) 0 (length cs) tail (omega arith) B in (
          query-at s
              ∙ query-is _ _ _ _ (rect-read s s q.reference [] (length cs ∷ rest) A' (omega arith))
              (ap (clauses_at b (s + QUERY_HEAD)) count ∙ done.0 ∙ ap (λ l. l ++ cs) (no_clause b (s + QUERY_HEAD))),
          rw count done.1,
        )

    queries-read : (qs : List Query) (i n : ℕ) → n ≡ length qs + i → At ws (query_start b i) (concat_map query_words qs)
        → (queries_in b n ≡ queries_in b i ++ qs) × At ws (query_start b n) []
    queries-read [] i n e A =
        let same : n ≡ i = omega arith in
        (ap (queries_in b) same ∙ sym (append-nil (queries_in b i)), rw same A)
    queries-read (q ∷ qs) i n e A =
        let read = query-read (query_start b i) q (concat_map query_words qs) A in
        let done = queries-read qs (suc i) n (omega arith) (rw (next_start b i) read.1) in (
          done.0 ∙ ap (λ l. l ++ qs) (last-query b i) ∙ append_assoc (queries_in b i) (query_at b (query_start b i) ∷ []) qs ∙ ap (λ x. queries_in b i ++ (x ∷ qs)) read.0,
          done.1,
        )

bytes-size : (ws : List ℕ) → length (bytes_of ws) ≡ WORD_BYTES * length ws
bytes-size [] = refl
bytes-size (w ∷ ws) = omega (arith, bytes-size ws)

job_is : (p p' : List Call) (q q' : List Query) → p ≡ p' → q ≡ q' → ◌≡◌ {A = Job} (record { pieces = p; queries = q }) (record { pieces = p'; queries = q' })
job_is p p' q q' e f = cc

well-formed : (b : List ℕ) → length b ≤ JOB_BYTES → length b ≡ WORD_BYTES * query_start b (query_count b) → T (well_formed b)
unfolding well_formed
well-formed b h e =
    let end = WORD_BYTES * query_start b (query_count b) in
    and (leb (length b) JOB_BYTES) (eqb (length b) end) (rw (le-leb (length b) JOB_BYTES h) tt) (rw (eq-eqb (length b) end e) tt)

module _ (j : Job) (short : Words (job_words j)) where
  words_are : job_words j ≡ (length j.pieces ∷ []) ++ (concat_map piece_words j.pieces ++ (length j.queries ∷ concat_map query_words j.queries))
  unfolding job_words
  words_are = refl

  abbrev bytes : List ℕ
  bytes = bytes_of (job_words j)

  bytes-are : job_bytes j ≡ bytes
  unfolding job_bytes
  bytes-are = refl

  job-at : job_in bytes ≡ record { pieces = pieces_in bytes (piece_count bytes); queries = queries_in bytes (query_count bytes) }
  unfolding job_in
  job-at = refl

  abbrev tail : List ℕ
  tail = length j.queries ∷ concat_map query_words j.queries

  from_start : At (job_words j) 0 ((length j.pieces ∷ []) ++ (concat_map piece_words j.pieces ++ tail))
  from_start = record { front = []; split = words_are; size = refl }

  piece-count : piece_count bytes ≡ length j.pieces
  piece-count = read_at (job_words j) short 0 _ 0 0 from_start refl

  pieces_are : (pieces_in bytes (piece_count bytes) ≡ j.pieces) × At (job_words j) (piece_start (piece_count bytes)) tail
  pieces_are =
      let done = pieces-read (job_words j) short j.pieces 0 (piece_count bytes) tail (omega (arith, piece-count))
      (move (job_words j) 0 (piece_start 0) (length j.pieces ∷ []) (concat_map piece_words j.pieces ++ tail) from_start refl) in
      (done.0 ∙ ap (λ l. l ++ j.pieces) (no-piece bytes), done.1)

  query-count : query_count bytes ≡ length j.queries
  query-count = read_at (job_words j) short _ tail 0 (piece_start (piece_count bytes)) pieces_are.1 (omega arith)

  queries-are : (queries_in bytes (query_count bytes) ≡ j.queries) × At (job_words j) (query_start bytes (query_count bytes)) []
  queries-are =
      let done = queries-read (job_words j) short j.queries 0 (query_count bytes) (omega (arith, query-count))
      (move (job_words j) (piece_start (piece_count bytes)) (query_start bytes 0) (length j.queries ∷ []) (concat_map query_words j.queries) pieces_are.1 (first-start bytes)) in
      (done.0 ∙ ap (λ l. l ++ j.queries) (no-query bytes), done.1)

  all_read : length bytes ≡ WORD_BYTES * query_start bytes (query_count bytes)
  all_read =
      let A = queries-are.1 in
      omega (arith, bytes-size (job_words j), ap length (A.split ∙ append-nil A.front), A.size)

  -- the bytes of a job of 32-bit words that is not too long are well formed, and the job is read from them
  pub written : length (job_bytes j) ≤ JOB_BYTES → T (well_formed (job_bytes j)) × (job_in (job_bytes j) ≡ j)
  written fits =
      rw bytes-are
      (well-formed bytes (omega (arith, ap length bytes-are)) all_read, job-at ∙ job_is _ _ _ _ pieces_are.0 queries-are.0)
