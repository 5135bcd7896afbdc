-- The place call on any words, by the answer of the check.
use Prim.Native.Nat.{ℕ, ◌≤◌}
use mathlib.Core.Path.{◌≡◌}
use mathlib.Core.List.{List}
use lib.ListN.{length}
use lib.Dec.{T}
use Rattle.std.specs.Prelude.{Err}
use Rattle.refusals.specs.declared.Refusal.{Refusal}
use Rattle.refusals.specs.Numbers.{number_of}
use Rattle.pages.specs.declared.Rect.{Rect}
use Rattle.pages.specs.Refusals.{TABLE_TOO_SHORT, TABLE_NOT_SOUND}
use Rattle.pages.specs.Sizes.{TABLE_WORDS}
use Rattle.pages.specs.Sound.{sound}
use Rattle.soundness.specs.Calls.{checked_of, check_call}
use Rattle.soundness.proofs.Answers.{err_refused, checked-passed}
use Rattle.placing.specs.Calls.{place_sound, place_call}

pub call-tested : (w : List ℕ) (n : ℕ) (r : Rect) → TABLE_WORDS ≤ length w → T (sound w) → place_call w n r ≡ place_sound w n r
unfolding place_call
call-tested w n r l s = checked-passed w l s {A = ℕ × List ℕ} (TABLE_TOO_SHORT, w) (place_sound w n r) (TABLE_NOT_SOUND, w)

pub call-refused : (w : List ℕ) (n : ℕ) (r : Rect) (why : Refusal) → checked_of (Err why) ≡ check_call w → (number_of why, w) ≡ place_call w n r
unfolding place_call
call-refused w n r why e = err_refused w why e (λ m. (m, w)) (place_sound w n r)
