-- Reading words: the four bytes of one, that those of the bytes are all of them, and clauses from pairs of words.
use Prim.Native.Nat.{ℕ, zero, suc, ◌+◌, ◌-◌, ◌*◌, ◌/◌, ◌%◌, ◌≤◌, ◌<◌}
use mathlib.Core.Path.{◌≡◌, refl, sym, ap, ◌∙◌}
use mathlib.Core.List.{List, [], ◌∷◌, ◌++◌, map}
use native.Mathlib.Omega.{arith}
use native.Mathlib.Nat.{add-zero, div-add-mod}
use lib.ListN.{length, take, drop, get_or, get_or-append, take-append-drop, length-append, length-drop}
use lib.Seq.{get_or-append-add, drop-append-add, length-take-le}
use Rattle.std.specs.Int.{w32, from_le_bytes}
use Rattle.std.specs.List.{concat}
use Rattle.std.specs.Simd.{first_chunks}
use Rattle.std.proofs.lemmas.List.{get_or-take, get_or-drop, drop-drop, map-append}
use Rattle.pages.specs.Rectangles.{rect_of}
use Rattle.job.specs.Sizes.{WORD_BYTES, CLAUSE_WORDS}
use Rattle.job.specs.Words.{word_at, clause_at, clauses_at, rect_at}
use Rattle.job.specs.Steps.{WordsFrom, clause_in}

-- each has four bytes
abbrev pub Cut : List (List ℕ) → Type 0
Cut ws = (i : ℕ) → i < length ws → length (get_or ws i []) ≡ WORD_BYTES

byte-of : (ws : List (List ℕ)) (i k n : ℕ) → Cut ws → i < length ws → k < WORD_BYTES → n ≡ WORD_BYTES * i + k → get_or (concat ws) n 0 ≡ get_or (get_or ws i []) k 0
byte-of [] i k n cut h l e = absurd (omega arith)
byte-of (w ∷ ws) zero k n cut h l e =
    let same : n ≡ k = omega arith in
    rw same (get_or-append w (concat ws) 0 k (omega (arith, cut 0 (omega arith))))
byte-of (w ∷ ws) (suc i) k n cut h l e =
    let behind : n ≡ length w + (WORD_BYTES * i + k) = omega (arith, cut 0 (omega arith)) in
    rw behind (get_or-append-add w (concat ws) (WORD_BYTES * i + k) 0 ∙ byte-of ws i k (WORD_BYTES * i + k) (λ j s. cut (suc j) (omega arith)) (omega arith) l refl)

-- word i, by its bytes
pub word_of : (ws : List (List ℕ)) (i : ℕ) → Cut ws → i < length ws → from_le_bytes w32 (get_or ws i []) ≡ word_at (concat ws) i
unfolding word_at
word_of ws i cut h =
    let byte : (k n : ℕ) → k < WORD_BYTES → n ≡ WORD_BYTES * i + k → get_or (concat ws) n 0 ≡ get_or (get_or ws i []) k 0 = λ k n l e. byte-of ws i k n cut h l e in
    omega (
      arith,
      byte 0 (WORD_BYTES * i) (omega arith) (omega arith),
      byte 1 (WORD_BYTES * i + 1) (omega arith) refl,
      byte 2 (WORD_BYTES * i + 2) (omega arith) refl,
      byte 3 (WORD_BYTES * i + 3) (omega arith) refl,
    )

-- the bytes of the words behind the first n
drop-words : (ws : List (List ℕ)) (n : ℕ) → Cut ws → n ≤ length ws → concat (drop n ws) ≡ drop (WORD_BYTES * n) (concat ws)
drop-words ws zero cut h = refl
drop-words [] (suc n) cut h = absurd (omega arith)
drop-words (w ∷ ws) (suc n) cut h =
    let four : length w ≡ WORD_BYTES = cut 0 (omega arith) in
    let more : WORD_BYTES * suc n ≡ length w + WORD_BYTES * n = omega (arith, four) in
    drop-words ws n (λ i l. cut (suc i) (omega arith)) (omega arith)
    ∙ sym (ap (λ k. drop k (w ++ concat ws)) more ∙ drop-append-add w (concat ws) (WORD_BYTES * n))

-- words have four bytes each
length-words : (ws : List (List ℕ)) → Cut ws → length (concat ws) ≡ WORD_BYTES * length ws
length-words [] cut = refl
length-words (w ∷ ws) cut = omega (arith, length-append w (concat ws), cut 0 (omega arith), length-words ws (λ i l. cut (suc i) (omega arith)))

-- the words behind the first n, and word k of the bytes from some word on
pub words_from : (ws : List (List ℕ)) (n : ℕ) → Cut ws → n ≤ length ws → WordsFrom (concat ws) n (drop n ws)
words_from ws n cut h = (drop-words ws n cut h, omega (arith, length-drop (WORD_BYTES * n) (concat ws), length-drop n ws, length-words ws cut))

-- word k of those from word s on
pub word-behind : (b : List ℕ) (s k : ℕ) → word_at (drop (WORD_BYTES * s) b) k ≡ word_at b (s + k)
unfolding word_at
word-behind b s k =
    let byte : (j i n : ℕ) → j ≡ i → WORD_BYTES * s + i ≡ n → get_or (drop (WORD_BYTES * s) b) j 0 ≡ get_or b n 0
    = λ j i n e l. ap (λ j. get_or (drop (WORD_BYTES * s) b) j 0) e ∙ get_or-drop (WORD_BYTES * s) b i 0 ∙ ap (λ n. get_or b n 0) l in
    omega (
      arith,
      byte (WORD_BYTES * k) _ (WORD_BYTES * (s + k)) refl (omega arith),
      byte (WORD_BYTES * k + 1) _ (WORD_BYTES * (s + k) + 1) refl (omega arith),
      byte (WORD_BYTES * k + 2) _ (WORD_BYTES * (s + k) + 2) refl (omega arith),
      byte (WORD_BYTES * k + 3) _ (WORD_BYTES * (s + k) + 3) refl (omega arith),
    )

pub word-front : (b : List ℕ) (s k : ℕ) (ws : List (List ℕ)) → WordsFrom b s ws → word_at (concat ws) k ≡ word_at b (s + k)
word-front b s k ws W = ap (λ l. word_at l k) W.0 ∙ word-behind b s k

-- the words of a query at the front, and those behind it
pub words_behind : (b : List ℕ) (s n e : ℕ) (ws rest : List (List ℕ)) → WordsFrom b s ws → WordsFrom (concat ws) n rest → s + n ≡ e → WordsFrom b e rest
words_behind b s n e ws rest W R same =
    let place : WORD_BYTES * s + WORD_BYTES * n ≡ WORD_BYTES * e = omega (arith, same) in
    let joined : drop (WORD_BYTES * n) (concat ws) ≡ drop (WORD_BYTES * e) b
    = ap (drop (WORD_BYTES * n)) W.0 ∙ drop-drop (WORD_BYTES * n) (WORD_BYTES * s) b ∙ ap (λ k. drop k b) place in
    (R.0 ∙ joined, ap length (sym joined) ∙ R.1)

-- what its bytes are worth
value_of : (w : List ℕ) → from_le_bytes w32 w ≡ word_at w 0
unfolding word_at
value_of w = omega arith

-- chunks of all elements
all_chunks : (n k : ℕ) (b : List ℕ) → length b ≡ k * n → concat (first_chunks n k b) ≡ b
all_chunks n zero [] e = refl
all_chunks n zero (x ∷ b) e = absurd (omega arith)
all_chunks n (suc k) b e = ap (λ l. take n b ++ l) (all_chunks n k (drop n b) (omega (arith, length-drop n b))) ∙ take-append-drop n b

-- the words that all the bytes make up
pub joined : (b : List ℕ) (ws : List (List ℕ)) → ws ≡ first_chunks WORD_BYTES (length b / WORD_BYTES) b → length b % WORD_BYTES ≡ 0 → concat ws ≡ b
joined b ws e none = ap concat e ∙ all_chunks WORD_BYTES (length b / WORD_BYTES) b (omega (arith, div-add-mod (length b) WORD_BYTES))

-- one chunk more
last-chunk : (n k : ℕ) (xs : List (List ℕ)) → first_chunks n (suc k) xs ≡ first_chunks n k xs ++ (take n (drop (k * n) xs) ∷ [])
last-chunk n zero xs = let none : 0 * n ≡ 0 = omega arith in rw none refl
last-chunk n (suc k) xs =
    let more : suc k * n ≡ n + k * n = omega arith in
    ap (λ l. take n xs ∷ l) (last-chunk n k (drop n xs)) ∙ rw (more, drop-drop) refl

-- what the definition says of no clause, and of one more
pub no_clause : (bytes : List ℕ) (at : ℕ) → clauses_at bytes at 0 ≡ []
unfolding clauses_at
no_clause bytes at = refl

pub last-clause : (bytes : List ℕ) (at n : ℕ) → clauses_at bytes at (suc n) ≡ clauses_at bytes at n ++ (clause_at bytes (at + CLAUSE_WORDS * n) ∷ [])
unfolding clauses_at
last-clause bytes at n = refl

pub length-clauses : (b : List ℕ) (at n : ℕ) → length (clauses_at b at n) ≡ n
unfolding clauses_at
length-clauses b at zero = refl
length-clauses b at (suc n) = omega (arith, length-append (clauses_at b at n) (clause_at b (at + CLAUSE_WORDS * n) ∷ []), length-clauses b at n)

-- a clause of the words `two`, which are those from place j on
clause_of : (ws two : List (List ℕ)) (j : ℕ) → Cut ws → j + CLAUSE_WORDS ≤ length ws → ((k : ℕ) → k < CLAUSE_WORDS → get_or two k [] ≡ get_or ws (j + k) [])
    → clause_in two ≡ clause_at (concat ws) j
clause_of ws two j cut room same =
    let word : (k : ℕ) → k < CLAUSE_WORDS → word_at (get_or two k []) 0 ≡ word_at (concat ws) (j + k) = λ k l.
    sym (value_of (get_or two k [])) ∙ ap (from_le_bytes w32) (same k l) ∙ word_of ws (j + k) cut (omega arith) in
    rw (word 0 (omega arith), word 1 (omega arith), add-zero) refl

-- the clauses of the words `xs`, which are those from place `at` on
clause-pairs : (ws xs : List (List ℕ)) (at n : ℕ) → Cut ws → at + CLAUSE_WORDS * n ≤ length ws → ((k : ℕ) → k < CLAUSE_WORDS * n → get_or xs k [] ≡ get_or ws (at + k) [])
    → CLAUSE_WORDS * n ≤ length xs → map clause_in (first_chunks CLAUSE_WORDS n xs) ≡ clauses_at (concat ws) at n
clause-pairs ws xs at zero cut room same long = sym (no_clause (concat ws) at)
clause-pairs ws xs at (suc n) cut room same long =
    let two = take CLAUSE_WORDS (drop (n * CLAUSE_WORDS) xs) in
    let first = n * CLAUSE_WORDS in
    let read = clause-pairs ws xs at n cut (omega arith) (λ k h. same k (omega arith)) (omega arith) in
    let last = clause_of ws two (at + CLAUSE_WORDS * n) cut (omega arith)
    (λ k h. get_or-take CLAUSE_WORDS (drop first xs) k [] h ∙ get_or-drop first xs k [] ∙ same (first + k) (omega arith)
    ∙ (let place : at + (first + k) ≡ at + CLAUSE_WORDS * n + k = omega arith in ap (λ i. get_or ws i []) place)) in
    ap (map clause_in) (last-chunk CLAUSE_WORDS n xs)
    ∙ map-append clause_in (first_chunks CLAUSE_WORDS n xs) (two ∷ [])
    ∙ rw (read, last) (sym (last-clause (concat ws) at n))

-- the same of a part, cut in two and two
pub clauses_of : (ws : List (List ℕ)) (pairs : List (List (List ℕ))) (i n : ℕ) → Cut ws → i + CLAUSE_WORDS * n ≤ length ws
    → (let part = take (i + CLAUSE_WORDS * n - i) (drop i ws) in pairs ≡ first_chunks CLAUSE_WORDS (length part / CLAUSE_WORDS) part) → map clause_in pairs ≡ clauses_at (concat ws) i n
clauses_of ws pairs i n cut room e =
    let part = take (i + CLAUSE_WORDS * n - i) (drop i ws) in
    let long : length part ≡ CLAUSE_WORDS * n = length-take-le _ (drop i ws) (omega (arith, length-drop i ws)) ∙ omega arith in
    let half : length part / CLAUSE_WORDS ≡ n = omega (arith, long) in
    ap (map clause_in) (e ∙ ap (λ k. first_chunks CLAUSE_WORDS k part) half)
    ∙ clause-pairs ws part i n cut room (λ k h. get_or-take _ (drop i ws) k [] (omega arith) ∙ get_or-drop i ws k []) (omega (arith, long))

pub rect-is : (a b c d a' b' c' d' : ℕ) → a ≡ a' → b ≡ b' → c ≡ c' → d ≡ d' → rect_of a b c d ≡ rect_of a' b' c' d'
rect-is a b c d a' b' c' d' p q r s = cc

-- the reference and the clauses of a query at the front
pub rect-front : (b : List ℕ) (s : ℕ) (ws : List (List ℕ)) → WordsFrom b s ws → rect_at (concat ws) 0 ≡ rect_at b s
rect-front b s ws W =
    let zeroth : s + 0 ≡ s = omega arith in
    rect-is _ _ _ _ _ _ _ _ (word-front b s 0 ws W ∙ ap (word_at b) zeroth) (word-front b s 1 ws W) (word-front b s 2 ws W) (word-front b s 3 ws W)

pub clauses-front : (b : List ℕ) (s at n : ℕ) (ws : List (List ℕ)) → WordsFrom b s ws → clauses_at (concat ws) at n ≡ clauses_at b (s + at) n
clauses-front b s at zero ws W = no_clause (concat ws) at ∙ sym (no_clause b (s + at))
clauses-front b s at (suc n) ws W =
    let place : (j i : ℕ) → s + j ≡ i → word_at (concat ws) j ≡ word_at b i = λ j i e. word-front b s j ws W ∙ ap (word_at b) e in
    let low = place (at + CLAUSE_WORDS * n) (s + at + CLAUSE_WORDS * n) (omega arith) in
    let high = place (at + CLAUSE_WORDS * n + 1) (s + at + CLAUSE_WORDS * n + 1) (omega arith) in
    last-clause (concat ws) at n ∙ rw (clauses-front b s at n ws W, low, high) (sym (last-clause b (s + at) n))
