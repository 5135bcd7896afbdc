-- The empty table's words are those of a root that is an empty leaf, and they are sound.
use Prim.Native.Nat.{ℕ}
use mathlib.Core.Path.{◌≡◌, ap, subst}
use mathlib.Core.List.{List, [], ◌∷◌, ◌++◌}
use lib.Dec.{T}
use Rattle.pages.specs.Sizes.{PAGE_WORDS, PAGES}
use Rattle.pages.specs.Layout.{Table, table_of, no_page, encode, encode_page, decode_page}
use Rattle.pages.specs.Sound.{sound, sound_table}
use Rattle.pages.specs.Calls.{empty_words}
use Rattle.pages.proofs.Facts.{Facts, facts}
use Rattle.pages.proofs.Round.{size-page, blank-page, pack-blank}
use Rattle.pages.proofs.Whole.{sound-encode}

unfoldable pub empty_table : Table
empty_table = table_of 0 0 (no_page ∷ [])

pub empty-facts : Facts empty_table
unfolding empty_table sound_table
empty-facts = facts empty_table tt

pub empty-words : encode empty_table ≡ empty_words
unfolding empty_table encode empty_words
empty-words = ap (λ (x : List ℕ). 1 ∷ 0 ∷ 0 ∷ x) (pack-blank encode_page no_page PAGE_WORDS size-page decode_page blank-page PAGES)

pub empty-sound : (rest : List ℕ) → T (sound (empty_words ++ rest))
empty-sound rest = subst (λ w. T (sound (w ++ rest))) empty-words (sound-encode empty_table rest empty-facts)
