-- Zeros written one after the other, and the empty table's words.
use Prim.Native.Nat.{ℕ, zero, suc, ◌<◌, ◌≤◌}
use mathlib.Core.Path.{◌≡◌, refl, sym, ap, ◌∙◌}
use mathlib.Core.List.{List, ◌++◌}
use lib.ListN.{length, get_or, drop, set, replicate}
use borrow.Author.Tests.{lt-ltb, le-ltb}
use Rattle.pages.specs.Sizes.{TABLE_WORDS}
use Rattle.pages.specs.Refusals.{ACCEPTED, TABLE_TOO_SHORT}
use Rattle.pages.specs.Calls.{empty_words, empty_call}

pub zero-at : (n i : ℕ) → get_or {A = ℕ} (replicate n 0) i 0 ≡ 0
zero-at zero i = refl
zero-at (suc n) zero = refl
zero-at (suc n) (suc i) = zero-at n i

pub empty_refused : (w : List ℕ) → length w < TABLE_WORDS → (TABLE_TOO_SHORT, w) ≡ empty_call w
unfolding empty_call
empty_refused w h = rw (lt-ltb (length w) TABLE_WORDS h)

pub empty-accepted : (w : List ℕ) → TABLE_WORDS ≤ length w → empty_call w ≡ (ACCEPTED, empty_words ++ drop TABLE_WORDS w)
unfolding empty_call
empty-accepted w h = rw (le-ltb (length w) TABLE_WORDS h)

-- k in place of the number, since a list of so many zeros would be written out
pub empty_done : (w z : List ℕ) (k : ℕ) → TABLE_WORDS ≤ length w → k ≡ TABLE_WORDS → z ≡ replicate k 0 → (ACCEPTED, set (z ++ drop TABLE_WORDS w) 0 1) ≡ empty_call w
unfolding empty_words
empty_done w z k h n e = ap (λ x. (ACCEPTED, set (x ++ drop TABLE_WORDS w) 0 1)) (e ∙ ap (λ m. replicate {A = ℕ} m 0) n) ∙ sym (empty-accepted w h)
