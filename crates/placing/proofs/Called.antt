-- The place call on a sound table: its answer in each case, and that the slice stays sound and as long.
use Prim.Native.Nat.{ℕ, ◌≤◌, ◌<◌}
use native.Mathlib.Omega.{arith}
use mathlib.Core.Path.{◌≡◌, refl, sym, ap, ◌∙◌}
use mathlib.Core.Logic.{◌≢◌}
use mathlib.Core.Bool.{Bool, true, false, not, cond}
use mathlib.Core.List.{List}
use lib.ListN.{length}
use lib.Dec.{T, leb, eqb}
use Rattle.std.proofs.lemmas.Bool.{eqb-false}
use borrow.Author.Tests.{leb-false, le-leb, lt-leb, eqb-true, eq-eqb, ne_eqb}
use Rattle.std.specs.Prelude.{Err}
use Rattle.std.specs.Bool.{MatchBool}
use Rattle.refusals.specs.declared.Refusal.{Refusal}
use Rattle.refusals.specs.declared.Refusal.TheVariants.{RectangleNotValid, NumberTooLarge}
use Rattle.refusals.specs.Numbers.{number_of}
use Rattle.pages.specs.declared.Rect.{Rect}
use Rattle.pages.specs.declared.piece.Piece.{Piece}
use Rattle.pages.specs.Pieces.{IsValidPieceOf}
use Rattle.pages.specs.Sizes.{PIECES, TABLE_WORDS}
use Rattle.pages.specs.Refusals.{ACCEPTED, RECTANGLE_NOT_VALID, NUMBER_TOO_LARGE, ALREADY_STANDING}
use Rattle.pages.specs.Rectangles.{valid}
use Rattle.pages.specs.Layout.{table_in}
use Rattle.pages.specs.Sound.{stored, sound}
use Rattle.placing.specs.Calls.{place_refusal, placed_words, place_sound}
use Rattle.placing.proofs.Joined.{place-keeps}

-- the first refusal whose condition holds: a the rectangle is valid, b the number is too large, d the number does not stand
abbrev pub first : Bool → Bool → Bool → ℕ
first a b d = cond (not a) RECTANGLE_NOT_VALID (cond b NUMBER_TOO_LARGE (cond d ACCEPTED ALREADY_STANDING))

pub refusal-open : (w : List ℕ) (n : ℕ) (r : Rect) → place_refusal w n r ≡ first (valid r) (leb PIECES n) (eqb (stored (table_in w) n) 0)
unfolding place_refusal
refusal-open w n r = refl

-- the answer, where the refusal is m; b: it is none
abbrev pub answered : List ℕ → ℕ → Rect → ℕ → Bool → ℕ × List ℕ
answered w n r m b = cond b (ACCEPTED, placed_words w n r) (m, w)

pub sound-open : (w : List ℕ) (n : ℕ) (r : Rect) → place_sound w n r ≡ answered w n r (place_refusal w n r) (eqb (place_refusal w n r) ACCEPTED)
unfolding place_sound
sound-open w n r = refl

-- accepted: none of the conditions holds
first-none : (a b d : Bool) → first a b d ≡ ACCEPTED → T a × (b ≡ false) × (d ≡ true)
first-none true false true e = (tt, refl, refl)
first-none true false false e = absurd (omega arith)
first-none true true d e = absurd (omega arith)
first-none false b d e = absurd (omega arith)

pub call-accepted : (w : List ℕ) (n : ℕ) (r : Rect) → place_refusal w n r ≡ ACCEPTED → T (valid r) × (n < PIECES) × (stored (table_in w) n ≡ 0)
call-accepted w n r e =
    let f = first-none (valid r) (leb PIECES n) (eqb (stored (table_in w) n) 0) (sym (refusal-open w n r) ∙ e) in
    (f.0, leb-false PIECES n f.1, eqb-true (stored (table_in w) n) 0 f.2)

answer : (w : List ℕ) (n : ℕ) (r : Rect) (m : ℕ) → place_refusal w n r ≡ m → place_sound w n r ≡ answered w n r m (eqb m ACCEPTED)
answer w n r m e = sound-open w n r ∙ ap (λ k. answered w n r k (eqb k ACCEPTED)) e

pub call-not-valid : (w : List ℕ) (n : ℕ) (r : Rect) → valid r ≡ false → (RECTANGLE_NOT_VALID, w) ≡ place_sound w n r
call-not-valid w n r e = sym (answer w n r RECTANGLE_NOT_VALID (refusal-open w n r ∙ ap (λ a. first a (leb PIECES n) (eqb (stored (table_in w) n) 0)) e))

pub call_too_large : (w : List ℕ) (n : ℕ) (r : Rect) → valid r ≡ true → PIECES ≤ n → (NUMBER_TOO_LARGE, w) ≡ place_sound w n r
call_too_large w n r e l = sym (answer w n r NUMBER_TOO_LARGE (refusal-open w n r ∙ rw (e, le-leb PIECES n l)))

pub call-stands : (w : List ℕ) (n : ℕ) (r : Rect) → valid r ≡ true → n < PIECES → stored (table_in w) n ≢ 0 → (ALREADY_STANDING, w) ≡ place_sound w n r
call-stands w n r e l s = sym (answer w n r ALREADY_STANDING (refusal-open w n r ∙ rw (e, lt-leb PIECES n l, ne_eqb (stored (table_in w) n) 0 s)))

pub call-done : (w : List ℕ) (n : ℕ) (r : Rect) → valid r ≡ true → n < PIECES → stored (table_in w) n ≡ 0 → (ACCEPTED, placed_words w n r) ≡ place_sound w n r
call-done w n r e l s = sym (answer w n r ACCEPTED (refusal-open w n r ∙ rw (e, lt-leb PIECES n l, eq-eqb (stored (table_in w) n) 0 s)))

pub call-not-piece : (w : List ℕ) (p : Piece) (why : Refusal) → IsValidPieceOf p (Err why) → (number_of why, w) ≡ place_sound w p.number p.rect
call-not-piece w p why h = go (valid p.rect) refl h
  where
    go : (b : Bool) → valid p.rect ≡ b → MatchBool b ((PIECES ≤ p.number) × (why ≡ NumberTooLarge)) (why ≡ RectangleNotValid) → (number_of why, w) ≡ place_sound w p.number p.rect
    go true e (l, is) = rw is (call_too_large w p.number p.rect e l)
    go false e is = rw is (call-not-valid w p.number p.rect e)

-- what an answer says of the words that are left
module _ (w : List ℕ) (n : ℕ) (r : Rect) (m : ℕ) (v : List ℕ) (h : (m, v) ≡ place_sound w n r) where
  pub answer-accepted : m ≡ ACCEPTED → (place_refusal w n r ≡ ACCEPTED) × (v ≡ placed_words w n r)
  answer-accepted z = go (eqb (place_refusal w n r) ACCEPTED) refl (h ∙ sound-open w n r)
    where
      go : (b : Bool) → eqb (place_refusal w n r) ACCEPTED ≡ b → (m, v) ≡ answered w n r (place_refusal w n r) b → (place_refusal w n r ≡ ACCEPTED) × (v ≡ placed_words w n r)
      go true e p = (eqb-true _ ACCEPTED e, ap (λ x. x.1) p)
      go false e p = absurd (eqb-false _ ACCEPTED e (sym (ap (λ x. x.0) p) ∙ z))

  pub answer-refused : m ≢ ACCEPTED → v ≡ w
  answer-refused k = go (eqb (place_refusal w n r) ACCEPTED) (h ∙ sound-open w n r)
    where
      go : (b : Bool) → (m, v) ≡ answered w n r (place_refusal w n r) b → v ≡ w
      go true p = absurd (k (ap (λ x. x.0) p))
      go false p = ap (λ x. x.1) p

-- accepted or refused, the table is sound again, and the slice as long
pub call-keeps : (w : List ℕ) (n : ℕ) (r : Rect) → TABLE_WORDS ≤ length w → T (sound w) → T (sound (place_sound w n r).1) × (length (place_sound w n r).1 ≡ length w)
call-keeps w n r wl h = rw (sound-open w n r) (go (eqb (place_refusal w n r) ACCEPTED) refl)
  where
    m : ℕ
    m = place_refusal w n r

    go : (b : Bool) → eqb m ACCEPTED ≡ b → T (sound (answered w n r m b).1) × (length (answered w n r m b).1 ≡ length w)
    go true e =
        let f = call-accepted w n r (eqb-true m ACCEPTED e) in
        place-keeps w n r wl h f.0 f.1 f.2
    go false e = (h, refl)
