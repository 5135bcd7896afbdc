-- The public calls: a table that is short or not sound is refused, any other goes to the call on a sound table.
use Prim.Native.Nat.{ℕ, zero, suc, ◌≤◌}
use native.Mathlib.Omega.{arith}
use native.Mathlib.Nat.{le_trans}
use mathlib.Core.Path.{◌≡◌, refl, sym, ap, ap₂, ◌∙◌}
use mathlib.Core.Bool.{false}
use mathlib.Core.List.{List, ◌++◌}
use lib.ListN.{length, take, drop, length-append, length-drop}
use lib.Seq.{take_at, drop_at}
use lib.Dec.{T, eqb}
use borrow.Author.Tests.{ne_eqb}
use Rattle.refusals.specs.declared.Refusal.{Refusal}
use Rattle.refusals.specs.Numbers.{number_of}
use Rattle.refusals.proofs.Numbers.{number-some}
use Rattle.pages.specs.declared.Rect.{Rect}
use Rattle.pages.specs.Sizes.{TABLE_WORDS}
use Rattle.pages.specs.Refusals.{ACCEPTED, TABLE_TOO_SHORT, TABLE_NOT_SOUND}
use Rattle.pages.specs.Layout.{table_in}
use Rattle.pages.specs.Sound.{sound}
use Rattle.pages.proofs.Whole.{sound-in}
use Rattle.soundness.specs.Calls.{check_call}
use Rattle.soundness.proofs.Answers.{refused-as, checked-passed}
use Rattle.query.specs.declared.Answer.{Answer}
use Rattle.query.specs.declared.Opened.{Opened}
use Rattle.query.specs.Admission.{opens}
use Rattle.pages.specs.Lists.{times}
use Rattle.query.specs.Calls.{sound_refusal, no_answer, no_opened, query_opened, query_sound, query_call, opened_sound, opened_call, OpenedWords}
use Rattle.query.specs.Steps.{opened_listed}
use Rattle.query.proofs.Root.{opened-few}
use Rattle.query.proofs.Calls.{accepted}

-- a table that check refuses
module _ (w : List ℕ) (why : Refusal) (e : number_of why ≡ (check_call w).refusal) where
  pub query-unchecked : (q : Rect) (clauses o : List ℕ) → ◌≡◌ {A = Answer × List ℕ} (no_answer (number_of why), o) (query_call w q clauses o)
  unfolding query_call
  query-unchecked q clauses o = refused-as w why e {A = Answer × List ℕ} (λ r. (no_answer r, o)) (query_sound w q clauses o)

  pub opened-unchecked : (q : Rect) (clauses o : List ℕ) → OpenedWords w q clauses o o (no_opened (number_of why))
  unfolding opened_call
  opened-unchecked q clauses o = record {
    result = refused-as w why e no_opened (opened_sound w q clauses o);
    listed = λ z. absurd (number-some why z);
    rest = refl;
    size = refl;
  }

module _ (w : List ℕ) (words : TABLE_WORDS ≤ length w) (holds : T (sound w)) (q : Rect) (clauses o : List ℕ) where
  pub query-whole : query_call w q clauses o ≡ query_sound w q clauses o
  unfolding query_call
  query-whole = checked-passed w words holds {A = Answer × List ℕ} (no_answer TABLE_TOO_SHORT, o) (query_sound w q clauses o) (no_answer TABLE_NOT_SOUND, o)

  opened-whole : opened_call w q clauses o ≡ opened_sound w q clauses o
  unfolding opened_call
  opened-whole = checked-passed w words holds (no_opened TABLE_TOO_SHORT) (opened_sound w q clauses o) (no_opened TABLE_NOT_SOUND)

  room : sound_refusal q clauses (length o) (length (table_in w).pages) ≡ 0 → length (query_opened w q clauses) ≤ length o
  unfolding query_opened
  room e = le_trans (opened-few (table_in w) (sound-in w holds) (opens clauses q)) (accepted q clauses (length o) (length (table_in w).pages) e).room

  -- the list in the order of the walk is one of its rearrangements
  pub opened-listed : (r : Opened) (o' : List ℕ) → ◌≡◌ {A = Opened × List ℕ} (r, o') (opened_listed w q clauses o) → OpenedWords w q clauses o o' r
  unfolding opened_listed opened_sound
  opened-listed r o' e = go (sound_refusal q clauses (length o) (length (table_in w).pages)) refl
    where
      l : List ℕ
      l = query_opened w q clauses

      is-result : r ≡ opened_call w q clauses o
      is-result = ap (λ x. x.0) e ∙ sym opened-whole

      go : (n : ℕ) → sound_refusal q clauses (length o) (length (table_in w).pages) ≡ n → OpenedWords w q clauses o o' r
      go zero z =
          let a : r ≡ record { refusal = ACCEPTED; count = length l } = ap (λ x. x.0) e ∙ rw z in
          let b : o' ≡ l ++ drop (length l) o = ap (λ x. x.1) e ∙ rw z in
          let n : r.count ≡ length l = ap (λ x. x.count) a in
          record {
            result = is-result;
            listed = λ y c. ap (times c) (ap₂ take n b ∙ take_at l (drop (length l) o) (length l) refl);
            rest = ap₂ drop n b ∙ (drop_at l (drop (length l) o) (length l) refl ∙ ap (λ x. drop x o) (sym n));
            size = ap length b ∙ omega (arith, length-append l (drop (length l) o), length-drop (length l) o, room z);
          }
      go (suc m) z =
          let f : eqb (suc m) 0 ≡ false = ne_eqb (suc m) 0 (λ y. omega arith) in
          let a : r ≡ no_opened (suc m) = ap (λ x. x.0) e ∙ rw (z, f) in
          let b : o' ≡ o = ap (λ x. x.1) e ∙ rw (z, f, f) in
          record {
            result = is-result;
            listed = λ y. absurd (omega (arith, y, ap (λ x. x.refusal) a));
            rest = ap (λ x. drop r.count x) b;
            size = ap length b;
          }
