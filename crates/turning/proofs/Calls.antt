-- Lists of place calls: a call is answered by what stands, so the turned call, which finds the turned rectangles standing, is answered
-- alike and leaves them turned again.
use Prim.Native.Nat.{ℕ, ◌<◌}
use mathlib.Core.Path.{◌≡◌, refl, sym, ap, ap₂, ◌∙◌}
use mathlib.Core.Bool.{Bool, true, false, cond, ◌&&◌}
use mathlib.Core.List.{List, [], ◌∷◌}
use lib.Dec.{T, leb, eqb}
use borrow.Author.Tests.{leb-false, eqb-true}
use Rattle.pages.specs.Sizes.{PIECES}
use Rattle.pages.specs.Lists.{Every}
use Rattle.pages.specs.Rectangles.{valid}
use Rattle.pages.specs.Refusals.{ACCEPTED}
use Rattle.pages.specs.Layout.{table_in}
use Rattle.pages.specs.Sound.{stored}
use Rattle.placing.specs.Calls.{place_refusal, place_call}
use Rattle.placing.proofs.Called.{first, refusal-open, answered, sound-open, call-accepted}
use Rattle.history.specs.Book.{Slot, Call, Book, blank, stands, is_blank, writes, feed, fed}
use Rattle.history.specs.History.{placed}
use Rattle.history.specs.Replay.{refusals_from}
use Rattle.history.proofs.Reached.{Reached, stored-blank, refusal_is, call-sound, reached-call}
use Rattle.turning.specs.Turn.{turn_calls, turned_rect, turned_call, turned_calls}
use Rattle.turning.proofs.Rects.{turned-is, returned-valid}

unfoldable pub turn_slot : Slot → Slot
turn_slot blank = blank
turn_slot (stands r) = stands (turned_rect r)

-- b' holds the turned rectangles of b
abbrev pub TurnedBook : Book → Book → Type 0
TurnedBook b b' = (n : ℕ) → b' n ≡ turn_slot (b n)

blank-turned : (s : Slot) → is_blank (turn_slot s) ≡ is_blank s
unfolding is_blank turn_slot
blank-turned blank = refl
blank-turned (stands r) = refl

-- a sound table is not refused, so what a call returns is its refusal
module _ (w : List ℕ) (b : Book) (R : Reached w b) (c : Call) where
  abbrev refusal : ℕ
  refusal = place_refusal w c.number c.rect

  returned : (place_call w c.number c.rect).0 ≡ refusal
  returned = ap (λ x. x.0) (call-sound w b R c ∙ sound-open w c.number c.rect) ∙ go (eqb refusal ACCEPTED) refl
    where
      go : (x : Bool) → eqb refusal ACCEPTED ≡ x → (answered w c.number c.rect refusal x).0 ≡ refusal
      go true e = sym (eqb-true refusal ACCEPTED e)
      go false e = refl

  accepted-valid : (place_call w c.number c.rect).0 ≡ ACCEPTED → T (valid c.rect)
  accepted-valid e = (call-accepted w c.number c.rect (sym returned ∙ e)).0

-- words that calls reach, and words that the turned calls reach
pub record Turned (w w' : List ℕ) (b b' : Book) : Type 0 where
  pub reached : Reached w b
  pub turned : Reached w' b'
  pub same : TurnedBook b b'

-- one call and the turned one
module _ {w w' : List ℕ} {b b' : Book} (R : Turned w w' b b') (c : Call) where
  abbrev n : ℕ
  n = c.number

  refusal-same : place_refusal w' n (turned_rect c.rect) ≡ place_refusal w n c.rect
  refusal-same = refusal-open w' n (turned_rect c.rect) ∙ (go (leb PIECES n) refl ∙ sym (refusal-open w n c.rect))
    where
      free : n < PIECES → eqb (stored (table_in w') n) 0 ≡ eqb (stored (table_in w) n) 0
      free l = stored-blank w' b' R.turned (turned_call c) l ∙ (ap is_blank (R.same n) ∙ (blank-turned (b n) ∙ sym (stored-blank w b R.reached c l)))

      go : (h : Bool) → leb PIECES n ≡ h
          → first (valid (turned_rect c.rect)) h (eqb (stored (table_in w') n) 0) ≡ first (valid c.rect) h (eqb (stored (table_in w) n) 0)
      go true e = ap (λ v. first v true true) (returned-valid c.rect)
      go false e = ap₂ (λ v f. first v false f) (returned-valid c.rect) (free (leb-false PIECES n e))

  return-same : (place_call w' n (turned_rect c.rect)).0 ≡ (place_call w n c.rect).0
  return-same = returned w' b' R.turned (turned_call c) ∙ (refusal-same ∙ sym (returned w b R.reached c))

  writes-same : writes b' (turned_call c) ≡ writes b c
  writes-same = sym (refusal_is w' b' R.turned (turned_call c)) ∙ (ap (λ x. eqb x ACCEPTED) refusal-same ∙ refusal_is w b R.reached c)

  feed-turned : TurnedBook (feed b c) (feed b' (turned_call c))
  unfolding feed turn_slot
  feed-turned m = ap (λ x. cond (x && eqb m n) (stands (turned_rect c.rect)) (b' m)) writes-same ∙ go (writes b c && eqb m n)
    where
      go : (x : Bool) → cond x (stands (turned_rect c.rect)) (b' m) ≡ turn_slot (cond x (stands c.rect) (b m))
      go true = refl
      go false = R.same m

  after-call : Turned (place_call w n c.rect).1 (place_call w' n (turned_rect c.rect)).1 (feed b c) (feed b' (turned_call c))
  after-call = record { reached = reached-call w b R.reached c; turned = reached-call w' b' R.turned (turned_call c); same = feed-turned }

-- lists of calls
pub refusals-same : (cs : List Call) {w w' : List ℕ} {b b' : Book} → Turned w w' b b' → refusals_from w' (turned_calls cs) ≡ refusals_from w cs
unfolding refusals_from
refusals-same [] R = refl
refusals-same (c ∷ cs) R = ap₂ ◌∷◌ (return-same R c) (refusals-same cs (after-call R c))

pub after-calls : (cs : List Call) {w w' : List ℕ} {b b' : Book} → Turned w w' b b' → Turned (placed w cs) (placed w' (turned_calls cs)) (fed b cs) (fed b' (turned_calls cs))
unfolding placed fed
after-calls [] R = R
after-calls (c ∷ cs) R = after-calls cs (after-call R c)

-- of accepted calls, what `turned_rect` returns is the turned rectangle
pub accepted-calls : (cs : List Call) (w : List ℕ) (b : Book) → Reached w b → Every (λ r. r ≡ ACCEPTED) (refusals_from w cs) → turned_calls cs ≡ turn_calls cs
unfolding refusals_from
accepted-calls [] w b R h = refl
accepted-calls (c ∷ cs) w b R h =
    ap₂ ◌∷◌ (ap (λ r. record { number = c.number; rect = r }) (turned-is c.rect (accepted-valid w b R c h.0)))
    (accepted-calls cs (place_call w c.number c.rect).1 (feed b c) (reached-call w b R c) h.1)
