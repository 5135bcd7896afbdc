-- Where queries begin: each begins after the one before it; when a job is well formed.
use Prim.Native.Nat.{ℕ, zero, suc, ◌+◌, ◌*◌, ◌≤◌, ◌<◌}
use mathlib.Core.Path.{◌≡◌, refl, sym, ap, ◌∙◌, subst}
use mathlib.Core.Bool.{Bool, true, false, ◌&&◌}
use mathlib.Core.List.{List}
use native.Mathlib.Omega.{arith}
use native.Mathlib.Numerals.{add-one}
use native.Mathlib.Decide.{ℕ_discrete}
use borrow.Author.Tests.{le-leb, lt-leb, eq-eqb, ne_eqb}
use lib.ListN.{length, length-drop}
use lib.Dec.{leb, eqb}
use Rattle.std.specs.List.{concat}
use Rattle.job.specs.Sizes.{JOB_BYTES, WORD_BYTES, QUERY_HEAD, CLAUSE_COUNT_AT, CLAUSE_WORDS}
use Rattle.job.specs.Words.{word_at, piece_count, piece_start, query_count, query_start, well_formed}
use Rattle.job.specs.Steps.{InWords, WordsFrom, query_size}
use Rattle.job.proofs.Reading.{word-front, words_behind}

module _ (b : List ℕ) where
  pub first-start : query_start b 0 ≡ piece_start (piece_count b) + 1
  unfolding query_start
  first-start = refl

  pub next_start : (i : ℕ) → query_start b (suc i) ≡ query_start b i + QUERY_HEAD + CLAUSE_WORDS * word_at b (query_start b i + CLAUSE_COUNT_AT)
  unfolding query_start
  next_start i = refl

  -- a query ends before a later one begins
  pub ends-before : (i n : ℕ) → i < n → query_start b (suc i) ≤ query_start b n
  ends-before i zero h = absurd (omega arith)
  ends-before i (suc n) h = go (ℕ_discrete i n) (ends-before i n)
    where
      go : Dec (i ≡ n) → (i < n → query_start b (suc i) ≤ query_start b n) → query_start b (suc i) ≤ query_start b (suc n)
      go (yes e) r = rw e (omega arith)
      go (no e) r = omega (arith, r (omega arith), next_start n)

  pub starts-after : (n : ℕ) → query_start b 0 ≤ query_start b n
  starts-after zero = omega arith
  starts-after (suc n) = omega (arith, next_start n, starts-after n)

  -- the size of the query that begins where some words do
  size-at : (i : ℕ) (ws : List (List ℕ)) → WordsFrom b (query_start b i) ws → query_start b i + query_size (concat ws) ≡ query_start b (i + 1)
  size-at i ws W = let count = word-front b (query_start b i) CLAUSE_COUNT_AT ws W in omega (arith, count, next_start i, ap (query_start b) (add-one i))

  -- a query that does not lie within the words that are left
  pub no_query : (i n : ℕ) (ws : List (List ℕ)) → WordsFrom b (query_start b i) ws → i < n → length ws < query_size (concat ws) → length b < WORD_BYTES * query_start b n
  no_query i n ws W l h =
      omega (arith, W.1, length-drop (WORD_BYTES * query_start b i) b, size-at i ws W, ap (query_start b) (add-one i), ends-before i n l)

  pub next_words : (i j : ℕ) (ws rest : List (List ℕ)) → WordsFrom b (query_start b i) ws → WordsFrom (concat ws) (query_size (concat ws)) rest → i + 1 ≡ j → WordsFrom b (query_start b j) rest
  next_words i j ws rest W R e = words_behind b (query_start b i) (query_size (concat ws)) _ ws rest W R (size-at i ws W ∙ ap (query_start b) e)

  pub still_fits : (i j : ℕ) (ws : List (List ℕ)) → WordsFrom b (query_start b i) ws → WORD_BYTES * query_start b i ≤ length b → query_size (concat ws) ≤ length ws → i + 1 ≡ j
      → WORD_BYTES * query_start b j ≤ length b
  still_fits i j ws W l h e = omega (arith, W.1, length-drop (WORD_BYTES * query_start b i) b, size-at i ws W ∙ ap (query_start b) e)

  -- the words that are left where the queries end
  pub all_read : (n : ℕ) (ws : List (List ℕ)) → WordsFrom b (query_start b n) ws → WORD_BYTES * query_start b n ≤ length b → length ws ≡ 0 → length b ≡ WORD_BYTES * query_start b n
  all_read n ws W h e = omega (arith, W.1, length-drop (WORD_BYTES * query_start b n) b)

  pub some_left : (n : ℕ) (ws : List (List ℕ)) → WordsFrom b (query_start b n) ws → 0 < length ws → WORD_BYTES * query_start b n < length b
  some_left n ws W h = omega (arith, W.1, length-drop (WORD_BYTES * query_start b n) b)

  -- too long, not what its counts ask for, or exactly that
  whole-tests : well_formed b ≡ leb (length b) JOB_BYTES && eqb (length b) (WORD_BYTES * query_start b (query_count b))
  unfolding well_formed
  whole-tests = refl

  pub too_long : JOB_BYTES < length b → false ≡ well_formed b
  too_long h = sym (whole-tests ∙ simp (lt-leb (length b) JOB_BYTES h))

  pub not_exact : (length b ≡ WORD_BYTES * query_start b (query_count b) → ⊥) → false ≡ well_formed b
  not_exact h = sym (whole-tests ∙ ap (λ t. leb (length b) JOB_BYTES && t) (ne_eqb (length b) (WORD_BYTES * query_start b (query_count b)) h) ∙ and-false (leb (length b) JOB_BYTES))
    where
      and-false : (t : Bool) → t && false ≡ false
      and-false true = refl
      and-false false = refl

  pub exact : length b ≤ JOB_BYTES → length b ≡ WORD_BYTES * query_start b (query_count b) → true ≡ well_formed b
  exact short e = sym (whole-tests ∙ simp (le-leb (length b) JOB_BYTES short, eq-eqb (length b) (WORD_BYTES * query_start b (query_count b)) e))

  -- the counts themselves do not fit
  pub no_count : length b < WORD_BYTES * (piece_start (piece_count b) + 1) → false ≡ well_formed b
  no_count h = not_exact λ same. omega (arith, first-start, starts-after (query_count b))

  pub count_is : (n m : ℕ) → n ≡ piece_count b → m ≡ word_at b (piece_start n) → m ≡ query_count b
  count_is n m e w = w ∙ ap (λ k. word_at b (piece_start k)) e

  pub start_is : (n : ℕ) → n ≡ piece_count b → piece_start n + 1 ≡ query_start b 0
  start_is n e = ap (λ k. piece_start k + 1) e ∙ sym first-start

-- the words behind the count of the queries
pub first_words : (b : List ℕ) (words first : List (List ℕ)) (n : ℕ) → InWords b words → n ≡ piece_count (concat words) → WordsFrom (concat words) (piece_start n + 1) first
    → piece_start n + 1 ≤ length words → WordsFrom b (query_start b 0) first × (WORD_BYTES * query_start b 0 ≤ length b)
first_words b words first n cut e W h =
    let start : piece_start n + 1 ≡ query_start b 0 = start_is b n (e ∙ ap piece_count cut.0) in
    (subst (λ s. WordsFrom b s first) start (subst (λ l. WordsFrom l (piece_start n + 1) first) cut.0 W), omega (arith, start, h, cut.1))

-- the tests by which a job is read
pub ruleset reading = (too_long, no_count, not_exact)
