-- The answers of the calls on a sound table, refused and accepted.
use Prim.Native.Nat.{ℕ, zero, suc, ◌+◌, ◌≤◌, ◌<◌}
use native.Mathlib.Omega.{arith}
use native.Mathlib.Nat.{le_trans}
use mathlib.Core.Path.{◌≡◌, refl, sym, ap, ap₂, subst, ◌∙◌}
use mathlib.Core.Logic.{◌≢◌}
use mathlib.Core.Bool.{Bool, true, false, not, cond}
use mathlib.Core.List.{List, ◌++◌}
use lib.ListN.{length, drop}
use lib.Seq.{sets, sets-eq}
use lib.Dec.{T, ltb, eqb}
use borrow.Author.Tests.{ltb-false, lt-ltb, le-ltb, ne_eqb}
use Rattle.relations.specs.Query.{refusal_of}
use Rattle.relations.specs.Steps.{joined_of}
use Rattle.pages.specs.declared.Rect.{Rect}
use Rattle.pages.specs.Sizes.{PAGES, PIECES}
use Rattle.pages.specs.Rectangles.{valid}
use Rattle.pages.specs.Refusals.{ACCEPTED, RECTANGLE_NOT_VALID, ANSWER_TOO_SHORT}
use Rattle.pages.specs.Lists.{concat_map}
use Rattle.pages.specs.Layout.{Table, table_in}
use Rattle.pages.specs.Sound.{sound}
use Rattle.pages.proofs.Lists.{true-T, T_true}
use Rattle.pages.proofs.Whole.{sound-in}
use Rattle.pages.proofs.Counting.{count-few}
use Rattle.query.specs.declared.Answer.{Answer}
use Rattle.query.specs.declared.Opened.{Opened}
use Rattle.query.specs.declared.searches.Search.{Search}
use Rattle.query.specs.Admission.{admits_rect, opens}
use Rattle.query.specs.Opening.{opened_pages}
use Rattle.query.specs.Calls.{sound_refusal, no_answer, no_opened, query_listing, query_opened, query_answer, query_sound, opened_sound}
use Rattle.query.specs.Steps.{admits_by, opens_by, hits_on, opened_listed}
use Rattle.query.specs.Marks.{marked, no_marks, marked_numbers}
use Rattle.query.specs.Search.{admits_in, opens_in, SearchFor, table_of, opened_in}
use Rattle.query.specs.Visits.{VisitsAll}
use Rattle.query.proofs.Root.{opened-few}
use Rattle.query.proofs.Tests.{admits-same, opens-same, proper, reaches}
use Rattle.query.proofs.Walking.{pieces-marked}
use Rattle.query.proofs.Listed.{found, listing-few}

-- the tests in their order
module _ (q : Rect) (clauses : List ℕ) (size needed : ℕ) where
  pub refused-rectangle : valid q ≡ false → RECTANGLE_NOT_VALID ≡ sound_refusal q clauses size needed
  unfolding sound_refusal
  refused-rectangle v = rw v

  module _ (v : valid q ≡ true) where
    pub refused-clauses : (r : ℕ) → r ≡ refusal_of clauses → r ≢ 0 → r ≡ sound_refusal q clauses size needed
    unfolding sound_refusal
    refused-clauses r e n = rw (v, ← e, ne_eqb r 0 n)

    module _ (e : refusal_of clauses ≡ 0) where
      pub refused-size : size < needed → ANSWER_TOO_SHORT ≡ sound_refusal q clauses size needed
      unfolding sound_refusal
      refused-size l = rw (v, e, lt-ltb size needed l)

      pub accepted-all : needed ≤ size → 0 ≡ sound_refusal q clauses size needed
      unfolding sound_refusal
      accepted-all l = rw (v, e, le-ltb size needed l)

pub record Accepted (q : Rect) (clauses : List ℕ) (size needed : ℕ) : Type 0 where
  pub rectangle : T (valid q)
  pub query : refusal_of clauses ≡ 0
  pub room : needed ≤ size

pub accepted : (q : Rect) (clauses : List ℕ) (size needed : ℕ) → sound_refusal q clauses size needed ≡ 0 → Accepted q clauses size needed
unfolding sound_refusal
accepted q clauses size needed e = go (valid q) refl (refusal_of clauses) refl (ltb size needed) refl e
  where
    go : (v : Bool) → valid q ≡ v → (r : ℕ) → refusal_of clauses ≡ r → (b : Bool) → ltb size needed ≡ b
        → cond (not v) RECTANGLE_NOT_VALID (cond (eqb r ACCEPTED) (cond b ANSWER_TOO_SHORT ACCEPTED) r) ≡ 0 → Accepted q clauses size needed
    go false a r c b d z = absurd (omega arith)
    go true a zero c true d z = absurd (omega arith)
    go true a zero c false d z = record { rectangle = true-T (valid q) a; query = c; room = ltb-false size needed d }
    go true a (suc r) c b d z = absurd (omega (arith, rw (ne_eqb (suc r) 0 (λ y. omega arith)) at z))

pub accepts : (q : Rect) (clauses : List ℕ) (size needed : ℕ) → Accepted q clauses size needed → sound_refusal q clauses size needed ≡ 0
unfolding sound_refusal
accepts q clauses size needed a = rw (T_true (valid q) a.rectangle, a.query, le-ltb size needed a.room)

sets-front : (o l : List ℕ) → length l ≤ length o → sets o 0 l ≡ l ++ drop (length l) o
sets-front o l h = sets-eq l o 0 (omega arith) ∙ (let e : 0 + length l ≡ length l = omega arith in rw e)

module _ (w : List ℕ) (q : Rect) (clauses o : List ℕ) where
  pub query-refused : (r : ℕ) → r ≢ 0 → r ≡ sound_refusal q clauses (length o) (table_in w).count → ◌≡◌ {A = Answer × List ℕ} (no_answer r, o) (query_sound w q clauses o)
  unfolding query_sound
  query-refused r n e = rw (← e, ne_eqb r 0 n)

  pub query-accepted : (h p : ℕ) (l o' : List ℕ) → 0 ≡ sound_refusal q clauses (length o) (table_in w).count → l ≡ query_listing w q clauses → h ≡ length l → p ≡ length (query_opened w q clauses)
      → length l ≤ length o → o' ≡ sets o 0 l → ◌≡◌ {A = Answer × List ℕ} (record { refusal = ACCEPTED; hits = h; opened = p }, o') (query_sound w q clauses o)
  unfolding query_sound query_answer
  query-accepted h p l o' e a b c k s = rw (← e, ← a, b, c, s, sets-front o l k)

  pub opened-refused : (r : ℕ) → r ≢ 0 → r ≡ sound_refusal q clauses (length o) (length (table_in w).pages) → ◌≡◌ {A = Opened × List ℕ} (no_opened r, o) (opened_listed w q clauses o)
  unfolding opened_listed opened_sound
  opened-refused r n e = rw (← e, ne_eqb r 0 n, ne_eqb r 0 n)

  pub opened-accepted : (p : ℕ) (l o' : List ℕ) → 0 ≡ sound_refusal q clauses (length o) (length (table_in w).pages) → l ≡ query_opened w q clauses
      → p ≡ length l → length l ≤ length o → o' ≡ sets o 0 l → ◌≡◌ {A = Opened × List ℕ} (record { refusal = ACCEPTED; count = p }, o') (opened_listed w q clauses o)
  unfolding opened_listed opened_sound
  opened-accepted p l o' e a c k s = rw (← e, ← a, c, s, sets-front o l k)

-- what is listed and opened fits
module _ (w : List ℕ) (holds : T (sound w)) (q : Rect) (clauses : List ℕ) where
  pub listing-room : length (query_listing w q clauses) ≤ (table_in w).count
  unfolding query_listing
  listing-room = listing-few (table_in w) (admits_rect clauses q) (sound-in w holds)

  pub listing-small : length (query_listing w q clauses) ≤ PIECES
  listing-small = le_trans listing-room (count-few (table_in w) (sound-in w holds))

  pub opened-room : length (query_opened w q clauses) ≤ length (table_in w).pages
  unfolding query_opened
  opened-room = opened-few (table_in w) (sound-in w holds) (opens clauses q)

  pub opened-small : length (query_opened w q clauses) ≤ PAGES
  opened-small = le_trans opened-room (sound-in w holds).most

pub record Lists (w : List ℕ) (q : Rect) (clauses o m : List ℕ) : Type 0 where
  pub is : marked_numbers m ≡ query_listing w q clauses
  pub room : length (marked_numbers m) ≤ length o
  pub small : length (marked_numbers m) ≤ PIECES

-- the search of an accepted query
module _ {w : List ℕ} {q : Rect} {clauses : List ℕ} {s : Search} (search : SearchFor w q clauses s) where
  admits-is : admits_in s ≡ admits_rect clauses q
  admits-is = ap₂ admits_by search.rows search.reference ∙ admits-same clauses q

  opens-is : opens_in s ≡ opens clauses q
  opens-is = ap₂ opens_by (s.joined ∙ ap joined_of search.rows) search.reference ∙ opens-same clauses q

  pub opened-is : opened_in s ≡ query_opened w q clauses
  unfolding query_opened
  opened-is = ap₂ (λ f x. opened_pages f (table_in x)) opens-is search.table

  holds : T (sound w)
  holds = subst (λ x. T (sound x)) search.table s.table.holds

  listed-is : (m : List ℕ) → m ≡ marked no_marks (concat_map (hits_on (admits_in s) (table_of s)) (opened_in s)) → marked_numbers m ≡ query_listing w q clauses
  unfolding query_listing
  listed-is m e =
      let v : T (valid q) = subst (λ x. T (valid x)) search.reference s.reference.holds in
      let hits : (Rect → Bool) → (Rect → Bool) → Table → List ℕ = λ f g x. concat_map (hits_on f x) (opened_pages g x) in
      ap marked_numbers (e ∙ ap (marked no_marks) (ap₂ (λ f g. hits f g (table_of s)) admits-is opens-is ∙ ap (λ x. hits (admits_rect clauses q) (opens clauses q) (table_in x)) search.table))
      ∙ found (table_in w) (sound-in w holds) (admits_rect clauses q) (opens clauses q) (reaches clauses q (proper q v))

  -- what the marks of its walk list
  pub lists : (o u m : List ℕ) → 0 ≡ sound_refusal q clauses (length o) (table_in w).count → u ≡ no_marks
      → VisitsAll (λ x n p y. y ≡ marked x (hits_on (admits_in s) (table_of s) p)) u 0 (opened_in s) m → Lists w q clauses o m
  lists o u m e z v =
      let l = listed-is m (pieces-marked (admits_in s) (table_of s) (opened_in s) u m 0 v ∙ ap (λ x. marked x (concat_map (hits_on (admits_in s) (table_of s)) (opened_in s))) z) in
      record {
        is = l;
        room = rw l (le_trans (listing-room w holds q clauses) (accepted q clauses (length o) (table_in w).count (sym e)).room);
        small = rw l (listing-small w holds q clauses);
      }

  -- and the pages that it opens
  pub few-opened : length (opened_in s) ≤ PAGES
  few-opened = rw opened-is (opened-small w holds q clauses)

  pub opened-fits : (o : List ℕ) → 0 ≡ sound_refusal q clauses (length o) (length (table_in w).pages) → length (table_of s).pages ≤ length o
  opened-fits o e = rw search.table (accepted q clauses (length o) (length (table_in w).pages) (sym e)).room

  pub opened-writes : (o : List ℕ) → 0 ≡ sound_refusal q clauses (length o) (length (table_in w).pages) → length (opened_in s) ≤ length o
  opened-writes o e = rw opened-is (le_trans (opened-room w holds q clauses) (accepted q clauses (length o) (length (table_in w).pages) (sym e)).room)
