-- "What stands is kept in a book".
use Rattle.std.specs.Prelude.{ℕ, Bool, true, false, ◌&&◌, cond, List, [], ◌∷◌, ltb, eqb}
use Rattle.pages.specs.declared.Rect.{Rect}
use Rattle.pages.specs.Sizes.{PIECES}
use Rattle.pages.specs.Lists.{all_of}
use Rattle.pages.specs.Rectangles.{valid}

-- "the number and rectangle of each place call"
pub record Call : Type 0 where
  pub number : ℕ
  pub rect : Rect

-- "A number stands when its slot is filled, and what the slot holds is its standing rectangle"
pub data Slot : Type 0 where
  blank : Slot
  stands : Rect → Slot

-- "one slot for each number from 0 to 1,023"; at other numbers it stays blank
abbrev pub Book : Type 0
Book = ℕ → Slot

unfoldable pub is_blank : Slot → Bool
is_blank blank = true
is_blank (stands r) = false

-- "If the number is at most 1,023, the rectangle valid and the slot of that number blank"
unfoldable pub writes : Book → Call → Bool
unfolding is_blank valid
writes b c = all_of (ltb c.number PIECES ∷ valid c.rect ∷ is_blank (b c.number) ∷ [])

-- "the rectangle is written there. Every other place call is a refused one and changes nothing in the book"
unfoldable pub feed : Book → Call → Book
unfolding writes
feed b c = λ n. cond (writes b c && eqb n c.number) (stands c.rect) (b n)

unfoldable pub fed : Book → List Call → Book
unfolding feed
fed b [] = b
fed b (c ∷ cs) = fed (feed b c) cs

-- "all blank at the start", and fed each place call in turn
unfoldable pub book_after : List Call → Book
unfolding fed
book_after calls = fed (λ n. blank) calls

-- "for each number from 0 to 1,023, the first call that brings a valid rectangle"
unfoldable pub first_valid : ℕ → List Call → Slot
unfolding valid
first_valid n [] = blank
first_valid n (c ∷ cs) = cond (eqb n c.number && valid c.rect) (stands c.rect) (first_valid n cs)
