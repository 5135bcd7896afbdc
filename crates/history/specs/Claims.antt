-- What is computed of the book.
use Rattle.std.specs.Prelude.{◌≡◌, List, [], ◌∷◌}
use Rattle.pages.specs.Rectangles.{rect_of}
use Rattle.history.specs.Book.{Call, blank, stands, book_after}

-- four place calls: the second for 5, the one for 1,024 and the one with x1 = x2 write nothing
unfoldable pub four : List Call
four =
    record { number = 5; rect = rect_of 0 0 1 1 }
    ∷ record { number = 5; rect = rect_of 0 0 2 2 }
    ∷ record { number = 1_024; rect = rect_of 0 0 3 3 }
    ∷ record { number = 6; rect = rect_of 3 3 3 4 }
    ∷ []

-- "If the number is at most 1,023, the rectangle valid and the slot of that number blank, the rectangle is written there."
pub record Claims : Type 0 where
  -- "the slot of that number blank": the first rectangle of 5 stays
  pub first-stays : book_after four 5 ≡ stands (rect_of 0 0 1 1)
  -- "the number is at most 1,023"
  pub above-1023 : book_after four 1_024 ≡ blank
  -- "the rectangle valid"
  pub not_valid : book_after four 6 ≡ blank
