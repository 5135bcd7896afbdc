-- What the answer of check says of the words.
use Prim.Native.Nat.{ℕ, ◌≤◌, ◌<◌}
use native.Mathlib.Omega.{arith}
use native.Mathlib.Decide.{dec_lt}
use mathlib.Core.Path.{◌≡◌, refl, sym, ap, subst, ◌∙◌}
use mathlib.Core.Logic.{◌≢◌}
use mathlib.Core.Bool.{Bool, true, false, cond}
use mathlib.Core.List.{List}
use lib.ListN.{length, get_or}
use lib.Seq.{get_or-take}
use lib.Dec.{T, ltb}
use borrow.Author.Tests.{lt-ltb, le-ltb}
use Rattle.std.specs.Prelude.{Ok, Err}
use Rattle.std.specs.Array.{IsFirstChunk}
use Rattle.refusals.specs.declared.Refusal.{Refusal}
use Rattle.refusals.specs.Numbers.{number_of}
use Rattle.refusals.proofs.Numbers.{number-some}
use Rattle.pages.specs.Sizes.{TABLE_WORDS}
use Rattle.pages.specs.Refusals.{ACCEPTED, TABLE_TOO_SHORT, TABLE_NOT_SOUND}
use Rattle.pages.specs.Layout.{table_in}
use Rattle.pages.specs.Sound.{sound}
use Rattle.pages.proofs.Lists.{true-T, T_true, false-T, T_false}
use Rattle.soundness.specs.declared.Checked.{Checked}
use Rattle.soundness.specs.Calls.{checked_of, check_call}
use Rattle.soundness.proofs.Words.{pieces-word}
use Rattle.soundness.proofs.Firsts.{sound-firsts}

abbrev too_short : Checked
too_short = record { refusal = TABLE_TOO_SHORT; pieces = 0 }

abbrev not_sound : Checked
not_sound = record { refusal = TABLE_NOT_SOUND; pieces = 0 }

-- the three answers
pub answer_short : (w : List ℕ) → length w < TABLE_WORDS → check_call w ≡ record { refusal = TABLE_TOO_SHORT; pieces = 0 }
unfolding check_call
answer_short w l = rw (lt-ltb (length w) TABLE_WORDS l)

module _ (w : List ℕ) (long : TABLE_WORDS ≤ length w) where
  answer-long : check_call w ≡ cond (sound w) (record { refusal = ACCEPTED; pieces = (table_in w).count }) not_sound
  unfolding check_call
  answer-long = ap (λ b. cond b too_short (cond (sound w) (record { refusal = ACCEPTED; pieces = (table_in w).count }) not_sound)) (le-ltb (length w) TABLE_WORDS long)

  pub answer-unsound : (T (sound w) → ⊥) → check_call w ≡ record { refusal = TABLE_NOT_SOUND; pieces = 0 }
  answer-unsound n = answer-long ∙ ap (λ b. cond b (record { refusal = ACCEPTED; pieces = (table_in w).count }) not_sound) (T_false (sound w) n)

  pub answer-sound : T (sound w) → check_call w ≡ record { refusal = ACCEPTED; pieces = (table_in w).count }
  answer-sound s = answer-long ∙ ap (λ b. cond b (record { refusal = ACCEPTED; pieces = (table_in w).count }) not_sound) (T_true (sound w) s)

-- the last two by the first words, v
module _ (w : List ℕ) {v : List ℕ} (first : IsFirstChunk w v TABLE_WORDS) where
  same : sound w ≡ sound v
  same = sym (ap sound first.same ∙ sound-firsts w)

  pub answer_unsound : sound v ≡ false → check_call w ≡ record { refusal = TABLE_NOT_SOUND; pieces = 0 }
  answer_unsound e = answer-unsound w first.enough (false-T (sound w) (same ∙ e))

  pub answer_words : sound v ≡ true → check_call w ≡ record { refusal = ACCEPTED; pieces = get_or v 2 0 }
  answer_words e =
      let pieces : (table_in w).count ≡ get_or v 2 0 = pieces-word w first.enough ∙ sym (ap (λ x. get_or x 2 0) first.same ∙ get_or-take TABLE_WORDS w 2 0 (omega arith)) in
      answer-sound w first.enough (true-T (sound w) (same ∙ e)) ∙ (λ i. record { refusal = ACCEPTED; pieces = pieces i })

-- and there is no fourth one
answers : (w : List ℕ) (P : Checked → Type 0) → (length w < TABLE_WORDS → P too_short) → (TABLE_WORDS ≤ length w → (T (sound w) → ⊥) → P not_sound)
    → (TABLE_WORDS ≤ length w → T (sound w) → P (record { refusal = ACCEPTED; pieces = (table_in w).count })) → P (check_call w)
answers w P a b c = go (dec_lt (length w) TABLE_WORDS)
  where
    decided : TABLE_WORDS ≤ length w → (t : Bool) → sound w ≡ t → P (check_call w)
    decided l true e = subst P (sym (answer-sound w l (true-T (sound w) e))) (c l (true-T (sound w) e))
    decided l false e = subst P (sym (answer-unsound w l (false-T (sound w) e))) (b l (false-T (sound w) e))

    go : Dec (length w < TABLE_WORDS) → P (check_call w)
    go (yes l) = subst P (sym (answer_short w l)) (a l)
    go (no n) = decided (omega arith) (sound w) refl

-- so a refusal says why
pub accepted : (w : List ℕ) → (check_call w).refusal ≡ ACCEPTED → (TABLE_WORDS ≤ length w) × T (sound w)
accepted w = answers w (λ r. r.refusal ≡ ACCEPTED → (TABLE_WORDS ≤ length w) × T (sound w)) (λ l e. absurd (omega arith)) (λ l n e. absurd (omega arith)) (λ l s e. (l, s))

-- a refusal reports no pieces
pub refused_none : (w : List ℕ) → (check_call w).refusal ≢ ACCEPTED → (check_call w).pieces ≡ 0
refused_none w = answers w (λ r. r.refusal ≢ ACCEPTED → r.pieces ≡ 0) (λ l n. refl) (λ l u n. refl) (λ l s n. absurd (n refl))

-- a call that asks check first: it refuses as check does, and goes on where check accepts
module _ (w : List ℕ) (c : Checked) (e : c ≡ check_call w) where
  pub checked-sound : c.refusal ≡ ACCEPTED → (TABLE_WORDS ≤ length w) × T (sound w)
  checked-sound z = accepted w (ap (λ x. x.refusal) (sym e) ∙ z)

  pub checked_refused : {A : Type 0} (refuse : ℕ → A) (go_on : A) → c.refusal ≢ ACCEPTED
      → refuse c.refusal ≡ cond (ltb (length w) TABLE_WORDS) (refuse TABLE_TOO_SHORT) (cond (sound w) go_on (refuse TABLE_NOT_SOUND))
  checked_refused refuse go_on n =
      ap (λ x. refuse x.refusal) e
      ∙ answers w (λ r. r.refusal ≢ ACCEPTED → refuse r.refusal ≡ cond (ltb (length w) TABLE_WORDS) (refuse TABLE_TOO_SHORT) (cond (sound w) go_on (refuse TABLE_NOT_SOUND)))
      (λ l m. rw (lt-ltb (length w) TABLE_WORDS l)) (λ l u m. rw (le-ltb (length w) TABLE_WORDS l, T_false (sound w) u)) (λ l s m. absurd (m refl)) (λ z. n (ap (λ x. x.refusal) e ∙ z))

-- the same at the two ways on from a `?`
module _ (w : List ℕ) where
  pub ok-sound : (n : ℕ) → checked_of (Ok n) ≡ check_call w → (TABLE_WORDS ≤ length w) × T (sound w)
  ok-sound n e = checked-sound w (checked_of (Ok n)) e refl

  pub err_refused : (why : Refusal) → checked_of (Err why) ≡ check_call w → {A : Type 0} (refuse : ℕ → A) (go_on : A)
      → refuse (number_of why) ≡ cond (ltb (length w) TABLE_WORDS) (refuse TABLE_TOO_SHORT) (cond (sound w) go_on (refuse TABLE_NOT_SOUND))
  err_refused why e refuse go_on = checked_refused w (checked_of (Err why)) e refuse go_on (number-some why)

-- an answer of another type that has the same refusal
pub refused-as : (w : List ℕ) (why : Refusal) → number_of why ≡ (check_call w).refusal → {A : Type 0} (refuse : ℕ → A) (go_on : A)
    → refuse (number_of why) ≡ cond (ltb (length w) TABLE_WORDS) (refuse TABLE_TOO_SHORT) (cond (sound w) go_on (refuse TABLE_NOT_SOUND))
refused-as w why e refuse go_on = ap refuse e ∙ checked_refused w (check_call w) refl refuse go_on (λ z. number-some why (e ∙ z))

pub checked-passed : (w : List ℕ) → TABLE_WORDS ≤ length w → T (sound w) → {A : Type 0} (x y z : A) → cond (ltb (length w) TABLE_WORDS) x (cond (sound w) y z) ≡ y
checked-passed w l s x y z = rw (le-ltb (length w) TABLE_WORDS l, T_true (sound w) s)
