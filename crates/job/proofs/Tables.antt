-- The tables between the pieces are sound and of the table's size, so a place or query call on one tests nothing of it.
use Prim.Native.Nat.{ℕ, zero, suc, ◌≤◌}
use mathlib.Core.Path.{◌≡◌, refl, sym, ap, ◌∙◌, subst}
use mathlib.Core.List.{List, [], append-nil}
use native.Mathlib.Omega.{arith}
use lib.ListN.{length, drop_of_length-le}
use lib.Dec.{T}
use Rattle.std.proofs.Common.{Result, Ok, Err, IsOk}
use Rattle.refusals.specs.declared.Refusal.{Refusal}
use Rattle.refusals.specs.Numbers.{refusal_of}
use Rattle.refusals.proofs.Numbers.{number-some}
use Rattle.pages.specs.declared.Rect.{Rect}
use Rattle.pages.specs.Sizes.{TABLE_WORDS}
use Rattle.pages.specs.Sound.{sound}
use Rattle.pages.specs.Calls.{empty_words, empty_call}
use Rattle.pages.proofs.Round.{length-encode}
use Rattle.pages.proofs.Zeros.{empty-accepted}
use Rattle.pages.proofs.EmptyTable.{empty_table, empty-words, empty-sound}
use Rattle.placing.specs.Calls.{place_sound, place_call}
use Rattle.placing.proofs.Called.{call-keeps}
use Rattle.placing.proofs.Tested.{call-tested}
use Rattle.query.specs.Calls.{query_sound, query_call}
use Rattle.query.proofs.Whole.{query-whole}
use Rattle.job.specs.Words.{piece_at}
use Rattle.job.specs.Steps.{table_at}

pub record Fine (w : List ℕ) : Type 0 where
  pub size : length w ≡ TABLE_WORDS
  pub sound : T (sound w)

module _ (w : List ℕ) (F : Fine w) where
  long : TABLE_WORDS ≤ length w
  long = omega (arith, F.size)

  pub place_is : (n : ℕ) (r : Rect) → place_call w n r ≡ place_sound w n r
  place_is n r = call-tested w n r long F.sound

  pub query-is : (q : Rect) (clauses answer : List ℕ) → query_call w q clauses answer ≡ query_sound w q clauses answer
  query-is = query-whole w long F.sound

  fine-after : (n : ℕ) (r : Rect) → Fine (place_call w n r).1
  fine-after n r =
      let k = call-keeps w n r long F.sound in
      subst (λ x. Fine x.1) (sym (place_is n r)) (record { size = k.1 ∙ F.size; sound = k.0 })

fine-empty : Fine empty_words
fine-empty = record {
  size = ap length (sym empty-words) ∙ length-encode empty_table;
  sound = subst (λ x. T (sound x)) (append-nil empty_words) (empty-sound []);
}

pub fine-table : (b : List ℕ) (i : ℕ) → Fine (table_at b i)
unfolding table_at
fine-table b zero = fine-empty
fine-table b (suc i) = fine-after (table_at b i) (fine-table b i) (piece_at b i).number (piece_at b i).rect

pub fine_of : (t b : List ℕ) (i : ℕ) → t ≡ table_at b i → Fine t
fine_of t b i e = rw e (fine-table b i)

-- the table before the first piece
pub emptied : (w t : List ℕ) (r : ℕ) → length w ≡ TABLE_WORDS → (r, t) ≡ empty_call w → t ≡ empty_words
emptied w t r size e = ap (λ x. x.1) (e ∙ empty-accepted w (omega arith)) ∙ rw (drop_of_length-le w {i = TABLE_WORDS} (omega arith), append-nil)

pub emptied-ok : (w t : List ℕ) (r : Result (Unit {0}) Refusal) → length w ≡ TABLE_WORDS → (refusal_of r, t) ≡ empty_call w → IsOk r
emptied-ok w t (Ok _) size e = refl
emptied-ok w t (Err why) size e = absurd (number-some why (ap (λ x. x.0) (e ∙ empty-accepted w (omega arith))))

pub first-table : (b : List ℕ) → table_at b 0 ≡ empty_words
unfolding table_at
first-table b = refl
