-- Place calls one after the other: one call more, and the refusals written so far.
use Prim.Native.Nat.{ℕ, zero, suc, ◌/◌, ◌≤◌, ◌<◌}
use native.Mathlib.Omega.{arith}
use native.Mathlib.Numerals.{add-one}
use mathlib.Core.Path.{◌≡◌, refl, sym, ap, ◌∙◌, subst}
use mathlib.Core.Bool.{cond}
use mathlib.Core.List.{List, [], ◌∷◌, ◌++◌, map, append_assoc}
use lib.ListN.{length, get_or, take, drop, set, length-append}
use lib.Dec.{ltb}
use lib.Seq.{drop-cons, set_at}
use borrow.Author.Tests.{lt-ltb, le-ltb}
use Rattle.std.specs.Simd.{first_chunks}
use Rattle.refusals.specs.declared.Refusal.{Refusal}
use Rattle.refusals.specs.Numbers.{number_of}
use Rattle.refusals.proofs.Numbers.{number-some}
use Rattle.pages.specs.Sizes.{TABLE_WORDS}
use Rattle.pages.specs.Refusals.{ACCEPTED, TABLE_TOO_SHORT, ANSWER_TOO_SHORT}
use Rattle.pages.specs.Layout.{unpack}
use Rattle.pages.specs.Calls.{empty_call}
use Rattle.pages.proofs.Round.{length-unpack}
use Rattle.pages.proofs.Zeros.{empty-accepted}
use Rattle.placing.specs.Calls.{place_sound, place_call}
use Rattle.history.specs.Book.{Call, blank, fed}
use Rattle.history.specs.History.{placed, table_after}
use Rattle.history.specs.Replay.{CALL_WORDS, call_in, calls_of, refusals_from, refusals_after, replayed, replay_call}
use Rattle.history.proofs.Reached.{Reached, call-sound, reached-calls}

-- one call more
pub placed-more : (cs : List Call) (w : List ℕ) (c : Call) → placed w (cs ++ (c ∷ [])) ≡ (place_call (placed w cs) c.number c.rect).1
unfolding placed
placed-more [] w c = refl
placed-more (d ∷ cs) w c = placed-more cs (place_call w d.number d.rect).1 c

refusals-more : (cs : List Call) (w : List ℕ) (c : Call)
    → refusals_from w (cs ++ (c ∷ [])) ≡ refusals_from w cs ++ ((place_call (placed w cs) c.number c.rect).0 ∷ [])
unfolding placed refusals_from
refusals-more [] w c = refl
refusals-more (d ∷ cs) w c = ap (λ xs. (place_call w d.number d.rect).0 ∷ xs) (refusals-more cs (place_call w d.number d.rect).1 c)

length-refusals : (cs : List Call) (w : List ℕ) → length (refusals_from w cs) ≡ length cs
unfolding refusals_from
length-refusals [] w = refl
length-refusals (c ∷ cs) w = ap suc (length-refusals cs (place_call w c.number c.rect).1)

-- the calls in the words are those of the groups of five
unpack-chunks : {A : Type 0} (g : List ℕ → A) (w n : ℕ) (words : List ℕ) → unpack g w n words ≡ map g (first_chunks w n words)
unpack-chunks g w zero words = refl
unpack-chunks g w (suc n) words = ap (λ xs. g (take w words) ∷ xs) (unpack-chunks g w n (drop w words))

pub calls-grouped : (words : List ℕ) → calls_of words ≡ map call_in (first_chunks CALL_WORDS (length words / CALL_WORDS) words)
unfolding calls_of
calls-grouped words = unpack-chunks call_in CALL_WORDS (length words / CALL_WORDS) words

pub length-calls : (words : List ℕ) → length (calls_of words) ≡ length words / CALL_WORDS
unfolding calls_of
length-calls words = length-unpack call_in CALL_WORDS (length words / CALL_WORDS) words

-- what holds after some calls, from the table that `empty` left and the refusal words as they were
pub record Progress (first before : List ℕ) (done : List Call) (table answer : List ℕ) : Type 0 where
  pub start : Reached first (λ n. blank)
  pub table_is : table ≡ placed first done
  pub answer-is : answer ≡ refusals_from first done ++ drop (length done) before

pub progress-none : (first before : List ℕ) → Reached first (λ n. blank) → Progress first before [] first before
unfolding placed refusals_from
progress-none first before R = record { start = R; table_is = refl; answer-is = refl }

module _ {first before : List ℕ} {done : List Call} {table answer : List ℕ} (P : Progress first before done table answer) where
  pub progress-reached : Reached table (fed (λ n. blank) done)
  progress-reached = subst (λ x. Reached x (fed (λ n. blank) done)) (sym P.table_is) (reached-calls done first (λ n. blank) P.start)

  -- one call more
  module _ (c : Call) (u : List ℕ) (r i : ℕ) (m : length done ≡ i) (l : i < length before) (s : (r, u) ≡ place_sound table c.number c.rect) where
    called : (r, u) ≡ place_call (placed first done) c.number c.rect
    called = s ∙ (sym (call-sound table (fed (λ n. blank) done) progress-reached c) ∙ ap (λ v. place_call v c.number c.rect) P.table_is)

    pub progress-more : Progress first before (done ++ (c ∷ [])) u (set answer i r)
    progress-more = record {
      start = P.start;
      table_is = ap (λ x. x.1) called ∙ sym (placed-more done first c);
      answer-is = rw (
        P.answer-is,
        length-append done (c ∷ []),
        m,
        add-one,
        drop-cons before i 0 l,
        set_at (refusals_from first done) (get_or before i 0) (drop (suc i) before) r i (length-refusals done first ∙ m),
        refusals-more done first c,
        ← called,
      ) (sym (append_assoc (refusals_from first done) (r ∷ []) (drop (suc i) before)));
    }

-- a table that holds enough words is emptied
pub emptied : (w u : List ℕ) (why : Refusal) → TABLE_WORDS ≤ length w → (number_of why, u) ≡ empty_call w → ⊥
emptied w u why l e = number-some why (ap (λ x. x.0) (e ∙ empty-accepted w l))

-- the three returns
module _ (table words answer : List ℕ) where
  replay-tests : replay_call table words answer
      ≡ cond (ltb (length table) TABLE_WORDS) (TABLE_TOO_SHORT, table, answer)
      (cond (ltb (length answer) (length (calls_of words))) (ANSWER_TOO_SHORT, table, answer)
      (ACCEPTED, placed (empty_call table).1 (calls_of words), refusals_from (empty_call table).1 (calls_of words) ++ drop (length (calls_of words)) answer))
  unfolding replay_call replayed table_after refusals_after
  replay-tests = refl

  pub replay_short : length table < TABLE_WORDS → (TABLE_TOO_SHORT, table, answer) ≡ replay_call table words answer
  replay_short l = sym (replay-tests ∙ rw (lt-ltb (length table) TABLE_WORDS l))

  pub replay_few : TABLE_WORDS ≤ length table → length answer < length words / CALL_WORDS → (ANSWER_TOO_SHORT, table, answer) ≡ replay_call table words answer
  replay_few l k = sym (replay-tests ∙ rw (le-ltb (length table) TABLE_WORDS l, lt-ltb (length answer) (length (calls_of words)) (omega (arith, length-calls words))))

  pub replay-done : (first t a : List ℕ) (r : ℕ) → TABLE_WORDS ≤ length table → length words / CALL_WORDS ≤ length answer
      → (r, first) ≡ empty_call table → Progress first answer (calls_of words) t a → (ACCEPTED, t, a) ≡ replay_call table words answer
  replay-done first t a r l k m P =
      rw (P.table_is, P.answer-is, ap (λ x. x.1) m)
      (sym (replay-tests ∙ rw (le-ltb (length table) TABLE_WORDS l, le-ltb (length answer) (length (calls_of words)) (omega (arith, length-calls words)))))
