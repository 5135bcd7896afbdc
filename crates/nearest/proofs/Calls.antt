-- The call on a sound table, accepted, and the call that tests the table first.
use Prim.Native.Nat.{ℕ, ◌≤◌}
use mathlib.Core.Path.{◌≡◌}
use mathlib.Core.Logic.{◌≢◌}
use mathlib.Core.List.{List}
use lib.ListN.{length}
use lib.Dec.{T}
use borrow.Author.Tests.{le-ltb, ne_eqb}
use Rattle.refusals.specs.declared.Refusal.{Refusal}
use Rattle.refusals.specs.Numbers.{number_of}
use Rattle.pages.specs.Sizes.{EDGE, PAGES, TABLE_WORDS}
use Rattle.pages.specs.Refusals.{TABLE_TOO_SHORT, TABLE_NOT_SOUND}
use Rattle.pages.specs.Layout.{table_in}
use Rattle.pages.specs.Sound.{sound}
use Rattle.soundness.specs.Calls.{check_call}
use Rattle.soundness.proofs.Answers.{refused-as, checked-passed}
use Rattle.nearest.specs.Search.{opened_on}
use Rattle.nearest.specs.Calls.{answer_for, no_nearest, found_on, out_of_range, nearest_sound, nearest_call}

module _ (w : List ℕ) (x y allowance : ℕ) where
  pub sound-accepts : x ≤ EDGE → y ≤ EDGE → allowance ≢ 0 → allowance ≤ PAGES → (table_in w).count ≢ 0
      → answer_for (found_on x y (table_in w) (opened_on x y (table_in w) allowance)) ≡ nearest_sound w x y allowance
  unfolding nearest_sound out_of_range
  sound-accepts a b n m c = rw (le-ltb EDGE x a, le-ltb EDGE y b, ne_eqb allowance 0 n, le-ltb PAGES allowance m, ne_eqb (table_in w).count 0 c)

  pub call-whole : TABLE_WORDS ≤ length w → T (sound w) → nearest_call w x y allowance ≡ nearest_sound w x y allowance
  unfolding nearest_call
  call-whole long holds = checked-passed w long holds (no_nearest TABLE_TOO_SHORT) (nearest_sound w x y allowance) (no_nearest TABLE_NOT_SOUND)

  pub call-unchecked : (why : Refusal) → number_of why ≡ (check_call w).refusal → no_nearest (number_of why) ≡ nearest_call w x y allowance
  unfolding nearest_call
  call-unchecked why e = refused-as w why e no_nearest (nearest_sound w x y allowance)
