-- Well-formed bytes are the bytes of the job that is read from them: the first words of a job, then more of them, item by item.
use Prim.Native.Nat.{ℕ, zero, suc, ◌+◌, ◌*◌, ◌/◌, ◌%◌, ◌≤◌, ◌<◌}
use mathlib.Core.Path.{◌≡◌, refl, sym, ap, ◌∙◌}
use mathlib.Core.List.{List, [], ◌∷◌, ◌++◌, append_assoc, append-nil}
use native.Mathlib.Omega.{arith}
use native.Mathlib.Numerals.{add-one}
use native.Mathlib.Nat.{add-mul-mod_self_left, add-mul-div_left, div-eq_of_lt, mod-eq_of_lt}
use lib.ListN.{length, get_or, take}
use lib.Seq.{take-suc, take_all}
use lib.Dec.{T}
use Rattle.pages.specs.Lists.{concat_map}
use Rattle.job.specs.Sizes.{WORD_BYTES, BYTE_VALUES, WORD_VALUES, QUERY_HEAD, CLAUSE_COUNT_AT, CLAUSE_WORDS}
use Rattle.job.specs.Job.{rect_words, piece_words, clause_words, query_words, job_words, little_endian, job_bytes}
use Rattle.job.specs.Words.{word_at, rect_at, clause_at, clauses_at, piece_count, piece_start, piece_at, pieces_in, query_count, query_start, query_at, queries_in, job_in, well_formed}
use Rattle.job.specs.Claims.{Bytes}
use Rattle.job.proofs.Reading.{no_clause, last-clause, length-clauses}
use Rattle.job.proofs.Places.{first-start, next_start}
use Rattle.pages.proofs.Lists.{T_true, concat-append}
use Rattle.job.proofs.Items.{exact}
use Rattle.job.proofs.InOrder.{last-piece, last-query, no-piece, no-query, length-pieces, length-queries}

-- the first n words
words : List ℕ → ℕ → List ℕ
words b zero = []
words b (suc n) = words b n ++ (word_at b n ∷ [])

module _ {A B : Type 0} (f : A → List B) where
  concat-last : (xs : List A) (x : A) → concat_map f (xs ++ (x ∷ [])) ≡ concat_map f xs ++ f x
  concat-last xs x = concat-append f xs (x ∷ []) ∙ ap (λ l. concat_map f xs ++ l) (append-nil (f x))

-- a list that grows by one element at a time, of which two and four are put at its end
module _ (f : ℕ → List ℕ) (g : ℕ → ℕ) (k : ℕ) (grows : (m : ℕ) → m < k → f (m + 1) ≡ f m ++ (g m ∷ [])) where
  two-more : (m : ℕ) → m + 1 < k → f (m + 2) ≡ f m ++ (g m ∷ g (m + 1) ∷ [])
  two-more m h =
      let next : m + 2 ≡ m + 1 + 1 = omega arith in
      ap f next ∙ grows (m + 1) h ∙ rw (grows m (omega arith), append_assoc)

  four-more : (m : ℕ) → m + 3 < k → f (m + 4) ≡ f m ++ (g m ∷ g (m + 1) ∷ g (m + 2) ∷ g (m + 3) ∷ [])
  four-more m h =
      let next : m + 4 ≡ m + 2 + 2 = omega arith in
      let last : m + 2 + 1 ≡ m + 3 = omega arith in
      ap f next ∙ two-more (m + 2) (omega arith) ∙ rw (two-more m (omega arith), last, append_assoc)

-- a number and what it is divided into
low : (base a n : ℕ) → a < base → (a + base * n) % base ≡ a
low base a n h = add-mul-mod_self_left a base n ∙ mod-eq_of_lt h

high : (base a n : ℕ) → a < base → (a + base * n) / base ≡ n
high base a n h = let some : 0 < base = omega arith in add-mul-div_left a n {y = base} some ∙ rw (div-eq_of_lt h) (omega arith)

four_bytes : (a b c d : ℕ) → a < BYTE_VALUES → b < BYTE_VALUES → c < BYTE_VALUES → d < BYTE_VALUES
    → little_endian WORD_BYTES (a + BYTE_VALUES * (b + BYTE_VALUES * (c + BYTE_VALUES * d))) ≡ a ∷ b ∷ c ∷ d ∷ []
four_bytes a b c d ha hb hc hd =
    rw (
      low BYTE_VALUES a (b + BYTE_VALUES * (c + BYTE_VALUES * d)) ha,
      high BYTE_VALUES a (b + BYTE_VALUES * (c + BYTE_VALUES * d)) ha,
      low BYTE_VALUES b (c + BYTE_VALUES * d) hb,
      high BYTE_VALUES b (c + BYTE_VALUES * d) hb,
      low BYTE_VALUES c d hc,
      high BYTE_VALUES c d hc,
      mod-eq_of_lt hd,
    )

module _ (b : List ℕ) where
  no_words : words b 0 ≡ []
  unfolding words
  no_words = refl

  one_word : (m : ℕ) → words b (m + 1) ≡ words b m ++ (word_at b m ∷ [])
  unfolding words
  one_word m = rw add-one

  behind-one : (m : ℕ) (rest : List ℕ) → words b m ++ (word_at b m ∷ rest) ≡ words b (m + 1) ++ rest
  behind-one m rest = sym (ap (λ l. l ++ rest) (one_word m) ∙ append_assoc (words b m) (word_at b m ∷ []) rest)

  four-words : (m : ℕ) → words b (m + 4) ≡ words b m ++ rect_words (rect_at b m)
  four-words m = four-more (words b) (word_at b) (m + 4) (λ i h. one_word i) m (omega arith)

  -- the pieces behind their count
  piece-words : (n : ℕ) → words b (piece_start n) ++ piece_words (piece_at b n) ≡ words b (piece_start (suc n))
  unfolding piece_words
  piece-words n =
      let next : piece_start (suc n) ≡ piece_start n + 1 + 4 = omega arith in
      sym (ap (words b) next ∙ four-words (piece_start n + 1) ∙ rw (one_word (piece_start n), append_assoc))

  pieces-behind : (n : ℕ) → piece_count b ∷ concat_map piece_words (pieces_in b n) ≡ words b (piece_start n)
  pieces-behind zero = ap (λ l. piece_count b ∷ concat_map piece_words l) (no-piece b) ∙ sym (one_word 0 ∙ rw no_words)
  pieces-behind (suc n) =
      ap (λ l. piece_count b ∷ concat_map piece_words l) (last-piece b n)
      ∙ ap (λ l. piece_count b ∷ l) (concat-last piece_words (pieces_in b n) (piece_at b n))
      ∙ ap (λ l. l ++ piece_words (piece_at b n)) (pieces-behind n)
      ∙ piece-words n

  module _ (short : (i : ℕ) → word_at b i < WORD_VALUES) where
    clause-words : (m : ℕ) → words b m ++ clause_words (clause_at b m) ≡ words b (m + CLAUSE_WORDS)
    unfolding clause_words
    clause-words m =
        rw (low WORD_VALUES (word_at b m) (word_at b (m + 1)) (short m), high WORD_VALUES (word_at b m) (word_at b (m + 1)) (short m))
        (sym (two-more (words b) (word_at b) (m + 2) (λ i h. one_word i) m (omega arith)))

    clauses-behind : (s n : ℕ) → words b s ++ concat_map clause_words (clauses_at b s n) ≡ words b (s + CLAUSE_WORDS * n)
    clauses-behind s zero =
        let same : s ≡ s + CLAUSE_WORDS * 0 = omega arith in
        rw (no_clause b s) (append-nil (words b s) ∙ ap (words b) same)
    clauses-behind s (suc n) =
        let next : s + CLAUSE_WORDS * n + CLAUSE_WORDS ≡ s + CLAUSE_WORDS * suc n = omega arith in
        let clause = clause_at b (s + CLAUSE_WORDS * n) in
        ap (λ l. words b s ++ concat_map clause_words l) (last-clause b s n)
        ∙ ap (λ l. words b s ++ l) (concat-last clause_words (clauses_at b s n) clause)
        ∙ sym (append_assoc (words b s) (concat_map clause_words (clauses_at b s n)) (clause_words clause))
        ∙ ap (λ l. l ++ clause_words clause) (clauses-behind s n)
        ∙ clause-words (s + CLAUSE_WORDS * n)
        ∙ ap (words b) next

    query-is : (s : ℕ) → query_words (query_at b s)
        ≡ rect_words (rect_at b s)
        ++ (length (clauses_at b (s + QUERY_HEAD) (word_at b (s + CLAUSE_COUNT_AT))) ∷ concat_map clause_words (clauses_at b (s + QUERY_HEAD) (word_at b (s + CLAUSE_COUNT_AT))))
    unfolding query_words query_at
    query-is s = refl

    -- the queries behind theirs
    query-words : (s : ℕ) → words b s ++ query_words (query_at b s) ≡ words b (s + QUERY_HEAD + CLAUSE_WORDS * word_at b (s + CLAUSE_COUNT_AT))
    query-words s =
        let c = word_at b (s + CLAUSE_COUNT_AT) in
        let clauses = clauses_at b (s + QUERY_HEAD) c in
        let head : s + CLAUSE_COUNT_AT + 1 ≡ s + QUERY_HEAD = omega arith in
        ap (λ l. words b s ++ l) (query-is s)
        ∙ ap (λ n. words b s ++ (rect_words (rect_at b s) ++ (n ∷ concat_map clause_words clauses))) (length-clauses b (s + QUERY_HEAD) c)
        ∙ sym (append_assoc (words b s) (rect_words (rect_at b s)) (c ∷ concat_map clause_words clauses))
        ∙ ap (λ l. l ++ (c ∷ concat_map clause_words clauses)) (sym (four-words s))
        ∙ behind-one (s + CLAUSE_COUNT_AT) (concat_map clause_words clauses)
        ∙ ap (λ m. words b m ++ concat_map clause_words clauses) head
        ∙ clauses-behind (s + QUERY_HEAD) c

    queries-behind : (n : ℕ) → words b (query_start b 0) ++ concat_map query_words (queries_in b n) ≡ words b (query_start b n)
    queries-behind zero = rw (no-query b) (append-nil (words b (query_start b 0)))
    queries-behind (suc n) =
        let query = query_at b (query_start b n) in
        ap (λ l. words b (query_start b 0) ++ concat_map query_words l) (last-query b n)
        ∙ ap (λ l. words b (query_start b 0) ++ l) (concat-last query_words (queries_in b n) query)
        ∙ sym (append_assoc (words b (query_start b 0)) (concat_map query_words (queries_in b n)) (query_words query))
        ∙ ap (λ l. l ++ query_words query) (queries-behind n)
        ∙ query-words (query_start b n)
        ∙ ap (words b) (sym (next_start b n))

    job_is : job_words (job_in b)
        ≡ (length (pieces_in b (piece_count b)) ∷ concat_map piece_words (pieces_in b (piece_count b)))
        ++ (length (queries_in b (query_count b)) ∷ concat_map query_words (queries_in b (query_count b)))
    unfolding job_words job_in
    job_is = refl

    job-words : job_words (job_in b) ≡ words b (query_start b (query_count b))
    job-words =
        let pieces = concat_map piece_words (pieces_in b (piece_count b)) in
        let queries = concat_map query_words (queries_in b (query_count b)) in
        job_is
        ∙ ap (λ n. (n ∷ pieces) ++ (length (queries_in b (query_count b)) ∷ queries)) (length-pieces b (piece_count b))
        ∙ ap (λ n. (piece_count b ∷ pieces) ++ (n ∷ queries)) (length-queries b (query_count b))
        ∙ ap (λ l. l ++ (query_count b ∷ queries)) (pieces-behind (piece_count b))
        ∙ behind-one (piece_start (piece_count b)) queries
        ∙ ap (λ m. words b m ++ queries) (sym (first-start b))
        ∙ queries-behind (query_count b)

  module _ (bytes : Bytes b) where
    word-short : (i : ℕ) → word_at b i < WORD_VALUES
    unfolding word_at
    word-short i = omega (arith, bytes (WORD_BYTES * i), bytes (WORD_BYTES * i + 1), bytes (WORD_BYTES * i + 2), bytes (WORD_BYTES * i + 3))

    word_bytes : (i : ℕ) → little_endian WORD_BYTES (word_at b i)
        ≡ get_or b (WORD_BYTES * i) 0 ∷ get_or b (WORD_BYTES * i + 1) 0 ∷ get_or b (WORD_BYTES * i + 2) 0 ∷ get_or b (WORD_BYTES * i + 3) 0 ∷ []
    unfolding word_at
    word_bytes i = four_bytes _ _ _ _ (bytes (WORD_BYTES * i)) (bytes (WORD_BYTES * i + 1)) (bytes (WORD_BYTES * i + 2)) (bytes (WORD_BYTES * i + 3))

    one_byte : (m : ℕ) → m < length b → take (m + 1) b ≡ take m b ++ (get_or b m 0 ∷ [])
    one_byte m h = rw (add-one, take-suc b m 0)

    -- the bytes of the first n words are the first bytes
    first-bytes : (n : ℕ) → WORD_BYTES * n ≤ length b → concat_map (little_endian WORD_BYTES) (words b n) ≡ take (WORD_BYTES * n) b
    first-bytes zero h = rw no_words
    first-bytes (suc n) h =
        let next : WORD_BYTES * n + 4 ≡ WORD_BYTES * suc n = omega arith in
        let last : n + 1 ≡ suc n = omega arith in
        ap (λ m. concat_map (little_endian WORD_BYTES) (words b m)) (sym last)
        ∙ ap (concat_map (little_endian WORD_BYTES)) (one_word n)
        ∙ concat-last (little_endian WORD_BYTES) (words b n) (word_at b n)
        ∙ rw (first-bytes n (omega arith), word_bytes n)
        (sym (four-more (λ m. take m b) (λ m. get_or b m 0) (length b) one_byte (WORD_BYTES * n) (omega arith)) ∙ ap (λ m. take m b) next)

    bytes-are : job_bytes (job_in b) ≡ concat_map (little_endian WORD_BYTES) (job_words (job_in b))
    unfolding job_bytes
    bytes-are = refl

    -- so the bytes of a well-formed job are those of the job that is read from them
    pub read_back : T (well_formed b) → job_bytes (job_in b) ≡ b
    read_back good =
        let n = query_start b (query_count b) in
        bytes-are
        ∙ ap (concat_map (little_endian WORD_BYTES)) (job-words word-short)
        ∙ first-bytes n (omega (arith, exact b (T_true (well_formed b) good)))
        ∙ take_all (WORD_BYTES * n) b (omega (arith, exact b (T_true (well_formed b) good)))
