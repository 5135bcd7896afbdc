-- A query's line: it heeds only the length of the answer slice, and of more than eight clauses nine are as good as all.
use Prim.Native.Nat.{ℕ, ◌+◌, ◌≤◌, ◌<◌}
use mathlib.Core.Path.{◌≡◌, refl, sym, ap, ◌∙◌, subst}
use mathlib.Core.Bool.{Bool, true, false, not, cond}
use mathlib.Core.List.{List, [], ◌∷◌, ◌++◌}
use native.Mathlib.Omega.{arith}
use borrow.Author.Tests.{leb-true, leb-false}
use lib.ListN.{length, take, drop, length-append}
use lib.Dec.{leb, ltb, eqb}
use lib.Seq.{take-append_seam, length-take-le}
use Rattle.std.proofs.lemmas.List.{take_all}
use Rattle.relations.specs.Query.{CLAUSES, CLAUSE_COUNT, refusal_of}
use Rattle.relations.proofs.Answer.{refuse-many}
use Rattle.pages.specs.declared.Rect.{Rect}
use Rattle.pages.specs.Rectangles.{valid}
use Rattle.pages.specs.Layout.{table_in}
use Rattle.pages.specs.Refusals.{ACCEPTED, RECTANGLE_NOT_VALID, ANSWER_TOO_SHORT}
use Rattle.query.specs.declared.Answer.{Answer}
use Rattle.query.specs.Calls.{sound_refusal, no_answer, query_listing, query_opened, query_sound}
use Rattle.job.specs.Lines.{ANSWERED, REFUSED, line}
use Rattle.job.specs.Output.{query_line}

-- what a query call gives, by its refusal, listing and number of opened pages
abbrev outcome : ℕ → List ℕ → ℕ → List ℕ → Bool → Answer × List ℕ
outcome refusal listed opened answer accepted =
    cond accepted (record { refusal = ACCEPTED; hits = length listed; opened = opened }, listed ++ drop (length listed) answer)
    (no_answer refusal, answer)

module _ (refusal : ℕ) (listed : List ℕ) (opened : ℕ) where
  line_of : ℕ → Bool → List ℕ
  line_of i accepted = cond accepted (line ANSWERED (i ∷ length listed ∷ opened ∷ listed)) (line REFUSED (i ∷ refusal ∷ []))

  line-by : (i : ℕ) (answer : List ℕ) (x : Bool) → eqb refusal ACCEPTED ≡ x → query_line i (outcome refusal listed opened answer x) ≡ line_of i x
  unfolding query_line line_of
  line-by i answer true e = ap (λ l. line ANSWERED (i ∷ length listed ∷ opened ∷ l)) (take-append_seam listed (drop (length listed) answer))
  line-by i answer false e = rw e

  line-of : (i : ℕ) (answer : List ℕ) → query_line i (outcome refusal listed opened answer (eqb refusal ACCEPTED)) ≡ line_of i (eqb refusal ACCEPTED)
  line-of i answer = line-by i answer (eqb refusal ACCEPTED) refl

  hits-in : (answer : List ℕ) (x : Bool) → (outcome refusal listed opened answer x).0.hits ≤ length (outcome refusal listed opened answer x).1
  hits-in answer true = omega (arith, length-append listed (drop (length listed) answer))
  hits-in answer false = omega arith

module _ (w : List ℕ) (q : Rect) (clauses : List ℕ) where
  abbrev refusal_in : List ℕ → ℕ
  refusal_in answer = sound_refusal q clauses (length answer) (table_in w).count

  sound-is : (answer : List ℕ) → query_sound w q clauses answer
      ≡ outcome (refusal_in answer) (query_listing w q clauses) (length (query_opened w q clauses)) answer (eqb (refusal_in answer) ACCEPTED)
  unfolding query_sound
  sound-is answer = refl

  -- lines from answer slices of one length
  pub same_line : (i : ℕ) (a a' : List ℕ) → length a ≡ length a' → query_line i (query_sound w q clauses a) ≡ query_line i (query_sound w q clauses a')
  same_line i a a' e =
      let listed = query_listing w q clauses in
      let opened = length (query_opened w q clauses) in
      ap (query_line i) (sound-is a)
      ∙ line-of (refusal_in a) listed opened i a
      ∙ ap (λ n. line_of (sound_refusal q clauses n (table_in w).count) listed opened i (eqb (sound_refusal q clauses n (table_in w).count) ACCEPTED)) e
      ∙ sym (line-of (refusal_in a') listed opened i a')
      ∙ sym (ap (query_line i) (sound-is a'))

  hits-within : (a : List ℕ) → (query_sound w q clauses a).0.hits ≤ length (query_sound w q clauses a).1
  hits-within a =
      subst (λ x. x.0.hits ≤ length x.1) (sym (sound-is a))
      (hits-in (refusal_in a) (query_listing w q clauses) (length (query_opened w q clauses)) a (eqb (refusal_in a) ACCEPTED))

refusal-tests : (q : Rect) (clauses : List ℕ) (size needed : ℕ) → sound_refusal q clauses size needed
    ≡ cond (not (valid q)) RECTANGLE_NOT_VALID (cond (eqb (refusal_of clauses) ACCEPTED) (cond (ltb size needed) ANSWER_TOO_SHORT ACCEPTED) (refusal_of clauses))
unfolding sound_refusal
refusal-tests q clauses size needed = refl

-- a query with too many clauses is refused for its rectangle or for their number
many-refused : (q : Rect) (clauses : List ℕ) (size needed : ℕ) → CLAUSES < length clauses → sound_refusal q clauses size needed ≡ cond (valid q) CLAUSE_COUNT RECTANGLE_NOT_VALID
many-refused q clauses size needed h =
    refusal-tests q clauses size needed ∙ rw (sym (refuse-many clauses (λ e. omega arith) h)) (go (valid q))
  where
    go : (v : Bool) → cond (not v) RECTANGLE_NOT_VALID (cond (eqb CLAUSE_COUNT ACCEPTED) (cond (ltb size needed) ANSWER_TOO_SHORT ACCEPTED) CLAUSE_COUNT)
        ≡ cond v CLAUSE_COUNT RECTANGLE_NOT_VALID
    go true = refl
    go false = refl

many_is : (w : List ℕ) (q : Rect) (clauses answer : List ℕ) → CLAUSES < length clauses → query_sound w q clauses answer ≡ (no_answer (cond (valid q) CLAUSE_COUNT RECTANGLE_NOT_VALID), answer)
many_is w q clauses answer h = sound-is w q clauses answer ∙ rw (many-refused q clauses (length answer) (table_in w).count h) (go (valid q))
  where
    go : (v : Bool) → outcome (cond v CLAUSE_COUNT RECTANGLE_NOT_VALID) (query_listing w q clauses) (length (query_opened w q clauses)) answer (eqb (cond v CLAUSE_COUNT RECTANGLE_NOT_VALID) ACCEPTED)
        ≡ (no_answer (cond v CLAUSE_COUNT RECTANGLE_NOT_VALID), answer)
    go true = refl
    go false = refl

-- the clauses that are read: all, or nine
pub enough : (w : List ℕ) (q : Rect) (clauses answer : List ℕ) → query_sound w q (take (CLAUSES + 1) clauses) answer ≡ query_sound w q clauses answer
enough w q clauses answer = go (leb (length clauses) (CLAUSES + 1)) refl
  where
    go : (x : Bool) → leb (length clauses) (CLAUSES + 1) ≡ x → query_sound w q (take (CLAUSES + 1) clauses) answer ≡ query_sound w q clauses answer
    go true h = ap (λ l. query_sound w q l answer) (take_all _ clauses (leb-true (length clauses) (CLAUSES + 1) h))
    go false h =
        let many = leb-false (length clauses) (CLAUSES + 1) h in
        many_is w q (take (CLAUSES + 1) clauses) answer (omega (arith, many, length-take-le (CLAUSES + 1) clauses (omega (arith, many))))
        ∙ sym (many_is w q clauses answer (omega (arith, many)))

pub hits-of : (w : List ℕ) (q : Rect) (clauses answer : List ℕ) (a : Answer) (after : List ℕ) → (a, after) ≡ query_sound w q clauses answer → a.hits ≤ length after
hits-of w q clauses answer a after e = subst (λ x. x.0.hits ≤ length x.1) (sym e) (hits-within w q clauses answer)
