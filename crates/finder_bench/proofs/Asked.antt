-- One query more, and one point more; and a table that check refuses, where none is answered.
use Rattle.std.proofs.Common.{◌≡◌, ℕ, zero, suc, ◌+◌, ◌*◌, ◌/◌, ◌%◌, ◌^◌, ◌≤◌, ◌<◌, T, List, [], length, get_or, take, drop, drop-drop, mul-zero, arith, sym, refl, ap, ◌∙◌, ap₂, add-one}
use Rattle.std.specs.Prelude.{Result}
use Rattle.std.specs.Simd.{first_chunks}
use Rattle.refusals.specs.declared.Refusal.{Refusal}
use Rattle.refusals.specs.Numbers.{number_of}
use Rattle.pages.specs.declared.Rect.{Rect}
use Rattle.pages.specs.Sizes.{TABLE_WORDS}
use Rattle.pages.specs.Rectangles.{rect_of}
use Rattle.pages.specs.Sound.{sound}
use Rattle.pages.proofs.Cells.{cell-word}
use Rattle.soundness.specs.Calls.{check_call}
use Rattle.query.specs.declared.Found.{Found}
use Rattle.query.specs.declared.Answer.{Answer}
use Rattle.query.specs.Calls.{answer_of, query_sound, query_call}
use Rattle.query.proofs.Whole.{query-unchecked, query-whole}
use Rattle.nearest.specs.declared.NearestAnswer.{NearestAnswer}
use Rattle.nearest.specs.Calls.{nearest_sound}
use Rattle.nearest.proofs.Calls.{call-whole, call-unchecked}
use Rattle.finder_bench.specs.Asked.{RECT_WORDS, reference_at, asked, asked_all, POINT_WORDS, nearest_at, with_answer, nearest_of, nearest_all}

-- words in a row are a reference, or a point
chunk-at : (w n : ℕ) (ws : List ℕ) (i : ℕ) → i < n → get_or (first_chunks w n ws) i [] ≡ take w (drop (w * i) ws)
chunk-at w zero ws i l = absurd (omega arith)
chunk-at w (suc n) ws zero l = rw mul-zero
chunk-at w (suc n) ws (suc i) l =
    let e : w + w * i ≡ w * suc i = omega arith in
    chunk-at w n (drop w ws) i (omega arith) ∙ rw (drop-drop, e)

pub word-at : (w n : ℕ) (ws : List ℕ) (chunks : List (List ℕ)) → chunks ≡ first_chunks w n ws → (i : ℕ) → i < n → (j at : ℕ) → j < w → w * i + j ≡ at
    → get_or (get_or chunks i []) j 0 ≡ get_or ws at 0
word-at w n ws chunks c i l j at m e = ap (λ xs. get_or (get_or xs i []) j 0) c ∙ ap (λ xs. get_or xs j 0) (chunk-at w n ws i l) ∙ cell-word ws (w * i) w j m ∙ ap (λ k. get_or ws k 0) e

abbrev pub rect_in : List ℕ → Rect
rect_in c = rect_of (get_or c 0 0) (get_or c 1 0) (get_or c 2 0) (get_or c 3 0)

pub reference-is : (n : ℕ) (ws : List ℕ) (chunks : List (List ℕ)) → chunks ≡ first_chunks RECT_WORDS n ws → (i : ℕ) → i < n
    → rect_in (get_or chunks i []) ≡ reference_at ws (RECT_WORDS * i)
reference-is n ws chunks c i l =
    let word = word-at RECT_WORDS n ws chunks c i l in
    let e0 = word 0 (RECT_WORDS * i) (omega arith) (omega arith) in
    let e1 = word 1 _ (omega arith) refl in
    let e2 = word 2 _ (omega arith) refl in
    let e3 = word 3 _ (omega arith) refl in
    λ k. rect_of (e0 k) (e1 k) (e2 k) (e3 k)

-- what no step changes
stays : {A : Type 0} (start : A) (s : ℕ → A) (next : ℕ → A → A) → start ≡ s zero → ((n : ℕ) → next n (s n) ≡ s (suc n)) → ((n : ℕ) → start ≡ next n start)
    → (n : ℕ) → start ≡ s n
stays start s next none more same zero = none
stays start s next none more same (suc n) = same n ∙ ap (next n) (stays start s next none more same n) ∙ more n

-- what a query adds
abbrev after : ℕ × List ℕ → Answer × List ℕ → ℕ × List ℕ
after s r = ((s.0 + r.0.hits) % 2 ^ 64, r.1)

module _ (w references clauses answer : List ℕ) where
  abbrev so_far : ℕ → ℕ × List ℕ
  so_far = asked w references clauses answer

  abbrev answered : ℕ → List ℕ → Answer × List ℕ
  answered n left = query_call w (reference_at references (RECT_WORDS * n)) clauses left

  asked-none : ◌≡◌ {A = ℕ × List ℕ} (0, answer) (so_far zero)
  unfolding asked
  asked-none = refl

  asked-more : (n : ℕ) → so_far (suc n) ≡ after (so_far n) (answered n (so_far n).1)
  unfolding asked
  asked-more n = refl

  all-is : so_far (length references / RECT_WORDS) ≡ asked_all w references clauses answer
  unfolding asked_all
  all-is = refl

  pub all_asked : (n : ℕ) (s : ℕ × List ℕ) → n ≡ length references / RECT_WORDS → s ≡ so_far n → s ≡ asked_all w references clauses answer
  all_asked n s e p = p ∙ ap so_far e ∙ all-is

  -- where the table is refused
  pub all-refused : (why : Refusal) → number_of why ≡ (check_call w).refusal → ◌≡◌ {A = ℕ × List ℕ} (0, answer) (asked_all w references clauses answer)
  all-refused why e =
      let refused = λ (n : ℕ). ap (after (0, answer)) (query-unchecked w why e (reference_at references (RECT_WORDS * n)) clauses answer) in
      stays (0, answer) so_far (λ n s. after s (answered n s.1)) asked-none (λ n. sym (asked-more n)) refused (length references / RECT_WORDS) ∙ all-is

  pub one_more : TABLE_WORDS ≤ length w → T (sound w) → (n hits h : ℕ) (left words : List ℕ) (r : Result Found Refusal) (q : Rect) → ◌≡◌ {A = ℕ × List ℕ} (hits, left) (so_far n)
      → q ≡ reference_at references (RECT_WORDS * n) → ◌≡◌ {A = Answer × List ℕ} (answer_of r, words) (query_sound w q clauses left) → h ≡ (hits + (answer_of r).hits) % 2 ^ 64
      → ◌≡◌ {A = ℕ × List ℕ} (h, words) (so_far (n + 1))
  one_more long holds n hits h left words r q e at s p =
      ap (λ (x : ℕ). (x, words)) p
      ∙ ap₂ after e (s ∙ (ap (λ x. query_sound w x clauses left) at ∙ sym (query-whole w long holds (reference_at references (RECT_WORDS * n)) clauses left)) ∙ ap (λ s. answered n s.1) e)
      ∙ sym (asked-more n)
      ∙ ap so_far (sym (add-one n))

module _ (w points : List ℕ) (allowance : ℕ) where
  abbrev total : ℕ → ℕ
  total = nearest_of w points allowance

  abbrev answer_at : ℕ → NearestAnswer
  answer_at n = nearest_at w points allowance (POINT_WORDS * n)

  total-none : 0 ≡ total zero
  unfolding nearest_of
  total-none = refl

  total-more : (n : ℕ) → with_answer (answer_at n) (total n) ≡ total (suc n)
  unfolding nearest_of
  total-more n = refl

  nearest-all-is : total (length points / POINT_WORDS) ≡ nearest_all w points allowance
  unfolding nearest_all
  nearest-all-is = refl

  pub all_nearest : (n s : ℕ) → n ≡ length points / POINT_WORDS → s ≡ total n → s ≡ nearest_all w points allowance
  all_nearest n s e p = p ∙ ap total e ∙ nearest-all-is

  pub none-nearest : (why : Refusal) → number_of why ≡ (check_call w).refusal → 0 ≡ nearest_all w points allowance
  none-nearest why e =
      let refused = λ (n : ℕ). ap (λ a. with_answer a 0) (call-unchecked w (get_or points (POINT_WORDS * n) 0) (get_or points (POINT_WORDS * n + 1) 0) allowance why e) in
      stays 0 total (λ n. with_answer (answer_at n)) total-none total-more refused (length points / POINT_WORDS) ∙ nearest-all-is

  pub one_nearest : TABLE_WORDS ≤ length w → T (sound w) → (n s h x y : ℕ) (a : NearestAnswer) → s ≡ total n → x ≡ get_or points (POINT_WORDS * n) 0
      → y ≡ get_or points (POINT_WORDS * n + 1) 0 → a ≡ nearest_sound w x y allowance → h ≡ with_answer a s → h ≡ total (n + 1)
  one_nearest long holds n s h x y a e ex ey is p =
      p
      ∙ ap₂ with_answer (is ∙ (λ i. nearest_sound w (ex i) (ey i) allowance) ∙ sym (call-whole w _ _ allowance long holds)) e
      ∙ total-more n
      ∙ ap total (sym (add-one n))
