-- Sets of piece numbers, and their words: c is in the set by bit c % 64 of word c / 64.
use Rattle.std.specs.Prelude.{ℕ, ◌*◌, ◌/◌, ◌%◌, ◌^◌, ◌<◌, Bool, false, ◌≡◌, List, [], ◌∷◌, get_or, set, replicate}
use Rattle.std.specs.Int.Bits.{bit_or}
use Rattle.pages.specs.Sizes.{PIECES}
use Rattle.relations.specs.Sets.{bit, ones_from}
use Rattle.query.specs.Listing.{rising}

abbrev pub MARK_BITS : ℕ
MARK_BITS = 64

abbrev pub MARK_WORDS : ℕ
MARK_WORDS = 16

unfoldable pub is_marked : List ℕ → ℕ → Bool
is_marked words c = bit (get_or words (c / MARK_BITS) 0) (c % MARK_BITS)

-- a word whose bit is not set in `named` has no mark
pub record Summed (words : List ℕ) (named : ℕ) : Type 0 where
  pub small : named < 2 ^ MARK_WORDS
  pub unnamed : (w : ℕ) → bit named w ≡ false → get_or words w 0 ≡ 0

abbrev pub no_marks : List ℕ
no_marks = replicate MARK_WORDS 0

unfoldable pub with_mark : List ℕ → ℕ → List ℕ
with_mark words c = set words (c / MARK_BITS) (bit_or (get_or words (c / MARK_BITS) 0) (2 ^ (c % MARK_BITS)))

-- the numbers of a list are marked too
unfoldable pub marked : List ℕ → List ℕ → List ℕ
marked words [] = words
marked words (c ∷ cs) = marked (with_mark words c) cs

-- the numbers that word w marks, and all marked numbers, rising
abbrev pub numbers_in : List ℕ → ℕ → List ℕ
numbers_in words w = ones_from (MARK_BITS * w) MARK_BITS (get_or words w 0)

unfoldable pub marked_numbers : List ℕ → List ℕ
unfolding is_marked
marked_numbers words = rising PIECES (is_marked words)
