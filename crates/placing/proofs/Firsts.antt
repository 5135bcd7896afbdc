-- A call reads and writes the first words, which are the table: on words of any length it is the call on these, with the rest left.
use Prim.Native.Nat.{ℕ, ◌≤◌}
use native.Mathlib.Omega.{arith}
use mathlib.Core.Path.{◌≡◌}
use mathlib.Core.List.{List, [], ◌++◌, append-nil}
use lib.ListN.{length, take, drop, length-take, drop_of_length-le}
use Rattle.pages.specs.declared.Rect.{Rect}
use Rattle.pages.specs.Sizes.{TABLE_WORDS}
use Rattle.pages.specs.Layout.{encode, table_in}
use Rattle.placing.specs.Place.{place}
use Rattle.placing.specs.Calls.{placed_words}
use Rattle.soundness.proofs.Firsts.{table-firsts}
use Rattle.placing.proofs.Joined.{words_open}

pub placed-firsts : (w : List ℕ) (n : ℕ) (r : Rect) → placed_words (take TABLE_WORDS w) n r ++ drop TABLE_WORDS w ≡ placed_words w n r
placed-firsts w n r =
    let few : length (take TABLE_WORDS w) ≤ TABLE_WORDS = omega (arith, length-take TABLE_WORDS w) in
    let none : drop TABLE_WORDS (take TABLE_WORDS w) ≡ [] = drop_of_length-le (take TABLE_WORDS w) few in
    rw (words_open (take TABLE_WORDS w) n r, words_open w n r, none, append-nil (encode (place (table_in (take TABLE_WORDS w)) n r)), table-firsts w)
