-- The first words of a longer slice are the table.
use Prim.Native.Nat.{ℕ}
use native.Mathlib.Omega.{arith}
use mathlib.Core.Path.{◌≡◌, ap}
use mathlib.Core.Bool.{◌&&◌}
use mathlib.Core.List.{List}
use lib.ListN.{take, length-take}
use lib.Seq.{take_all}
use Rattle.pages.specs.Sizes.{TABLE_WORDS}
use Rattle.pages.specs.Lists.{all_of}
use Rattle.pages.specs.Layout.{decode, table_in}
use Rattle.pages.specs.Sound.{stored, sound_table, sound_blank, sound}

firsts-twice : (w : List ℕ) → take TABLE_WORDS (take TABLE_WORDS w) ≡ take TABLE_WORDS w
firsts-twice w = take_all TABLE_WORDS (take TABLE_WORDS w) (omega (arith, length-take TABLE_WORDS w))

pub table-firsts : (w : List ℕ) → table_in (take TABLE_WORDS w) ≡ table_in w
unfolding table_in
table-firsts w = ap decode (firsts-twice w)

pub stored-firsts : (w : List ℕ) (n : ℕ) → stored (table_in (take TABLE_WORDS w)) n ≡ stored (table_in w) n
stored-firsts w n = ap (λ t. stored t n) (table-firsts w)

pub sound-firsts : (w : List ℕ) → sound (take TABLE_WORDS w) ≡ sound w
unfolding sound
sound-firsts w = ap (λ u. sound_table (decode u) && all_of (sound_blank u)) (firsts-twice w)
