-- Turned lays answer alike: what stands after the turned calls is what stands, turned, and the turned query admits a turned rectangle
-- exactly when the query admits the rectangle.
use Prim.Native.Nat.{ℕ, ◌≤◌, ◌<◌}
use mathlib.Core.Path.{◌≡◌, refl, sym, ap, ◌∙◌, subst}
use mathlib.Core.List.{List}
use lib.ListN.{length}
use lib.Dec.{T}
use Rattle.pages.specs.declared.Rect.{Rect}
use Rattle.pages.specs.Sizes.{TABLE_WORDS, PIECES}
use Rattle.pages.specs.Lists.{Every}
use Rattle.pages.specs.Refusals.{ACCEPTED}
use Rattle.pages.specs.Rectangles.{valid}
use Rattle.pages.specs.Calls.{empty_call}
use Rattle.query.proofs.Marks.{rising-same}
use Rattle.query.specs.Admission.{admits_rect}
use Rattle.history.specs.Book.{Slot, Call, Book, blank, stands, book_after}
use Rattle.history.specs.History.{table_after}
use Rattle.history.specs.Demand3.{Asked}
use Rattle.history.specs.Replay.{refusals_after}
use Rattle.history.proofs.Book.{book-valid, book-other}
use Rattle.history.proofs.Reached.{reached-emptied}
use Rattle.history.proofs.Listed.{admits_slot, admitted_standing, out-hits, out-listing, query-lists}
use Rattle.turning.specs.Turn.{turn_rect, turn_query, turn_calls, turned_calls}
use Rattle.turning.specs.Lays.{AllAccepted, SameAnswers, TurnedLay, TurnedLays, AllAnsweredAlike}
use Rattle.turning.proofs.Clauses.{refusal-turned}
use Rattle.turning.proofs.Rects.{turned-valid, turned-is, rect-turned}
use Rattle.turning.proofs.Calls.{turn_slot, TurnedBook, Turned, refusals-same, after-calls, accepted-calls}

-- the turned query admits what stands turned exactly when the query admits what stands
module _ (clauses : List ℕ) (q : Rect) (v : T (valid q)) where
  slot-turned : (s : Slot) → ((r : Rect) → s ≡ stands r → T (valid r)) → admits_slot (turn_query clauses) (turn_rect q) (turn_slot s) ≡ admits_slot clauses q s
  unfolding admits_slot turn_slot
  slot-turned blank h = refl
  slot-turned (stands r) h =
      ap (λ x. admits_rect (turn_query clauses) (turn_rect q) x) (turned-is r (h r refl)) ∙ rect-turned q r v (h r refl) clauses

  standing-turned : (b b' : Book) → TurnedBook b b' → ((n : ℕ) → n < PIECES → (r : Rect) → b n ≡ stands r → T (valid r))
      → admitted_standing b' (turn_query clauses) (turn_rect q) ≡ admitted_standing b clauses q
  unfolding admitted_standing
  standing-turned b b' same h =
      rising-same PIECES (λ n. admits_slot (turn_query clauses) (turn_rect q) (b' n)) (λ n. admits_slot clauses q (b n))
      (λ n l. ap (admits_slot (turn_query clauses) (turn_rect q)) (same n) ∙ slot-turned (b n) (h n l))

module _ (slice slice' : List ℕ) (l : TABLE_WORDS ≤ length slice) (l' : TABLE_WORDS ≤ length slice') (calls : List Call) where
  emptied : Turned (empty_call slice).1 (empty_call slice').1 (λ n. blank) (λ n. blank)
  unfolding turn_slot
  emptied = record {
    reached = reached-emptied slice (empty_call slice).1 (empty_call slice).0 l refl;
    turned = reached-emptied slice' (empty_call slice').1 (empty_call slice').0 l' refl;
    same = λ n. refl;
  }

  refused-alike : refusals_after slice' (turned_calls calls) ≡ refusals_after slice calls
  unfolding refusals_after
  refused-alike = refusals-same calls emptied

  after : Turned (table_after slice calls) (table_after slice' (turned_calls calls)) (book_after calls) (book_after (turned_calls calls))
  unfolding table_after book_after
  after = after-calls calls emptied

  listed-alike : SameAnswers (table_after slice calls) (table_after slice' (turned_calls calls))
  listed-alike clauses q A answer answer' k k' =
      let w = table_after slice calls in
      let w' = table_after slice' (turned_calls calls) in
      let b = book_after calls in
      let b' = book_after (turned_calls calls) in
      let R = after.reached in
      let R' = after.turned in
      let A' : Asked (turn_query clauses) (turn_rect q) = record { query = refusal-turned clauses ∙ A.query; rectangle = turned-valid q A.rectangle } in
      let e = standing-turned clauses q A.rectangle b b' after.same (λ n nl r h. book-valid calls n r nl h) in
      record {
        accepted = (query-lists w b R clauses q A answer k (book-other calls)).accepted;
        turned-accepted = (query-lists w' b' R' (turn_query clauses) (turn_rect q) A' answer' k' (book-other (turned_calls calls))).accepted;
        listing = record {
          hits = out-hits w b R clauses q A answer k ∙ (ap length (sym e) ∙ sym (out-hits w' b' R' (turn_query clauses) (turn_rect q) A' answer' k'));
          words = out-listing w b R clauses q A answer k ∙ (sym e ∙ sym (out-listing w' b' R' (turn_query clauses) (turn_rect q) A' answer' k'));
        };
      }

  as-accepted : AllAccepted slice calls → turned_calls calls ≡ turn_calls calls
  unfolding refusals_after
  as-accepted ok = accepted-calls calls (empty_call slice).1 (λ n. blank) emptied.reached ok

  turned-lay : AllAccepted slice calls → TurnedLay slice slice' calls
  turned-lay ok =
      let e = as-accepted ok in
      record {
        placed = subst (λ cs. AllAccepted slice' cs) e (subst (Every (λ r. r ≡ ACCEPTED)) (sym refused-alike) ok);
        listed = subst (λ cs. SameAnswers (table_after slice calls) (table_after slice' cs)) e listed-alike;
      }

pub lays : TurnedLays
lays slice slice' l l' calls ok = turned-lay slice slice' l l' calls ok

pub refused-too : AllAnsweredAlike
refused-too slice slice' l l' calls = record { refusals = refused-alike slice slice' l l' calls; listed = listed-alike slice slice' l l' calls }
