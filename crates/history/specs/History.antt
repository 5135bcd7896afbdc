-- The table after a list of place calls, and what is compared.
use Rattle.std.specs.Prelude.{ℕ, ◌≡◌, List, [], ◌∷◌, take}
use Rattle.pages.specs.Calls.{empty_call}
use Rattle.placing.specs.Calls.{place_call}
use Rattle.query.specs.declared.Answer.{Answer}
use Rattle.history.specs.Book.{Call}

-- "Each place call gets the table as the call before it left it"
unfoldable pub placed : List ℕ → List Call → List ℕ
unfolding place_call
placed words [] = words
placed words (c ∷ cs) = placed (place_call words c.number c.rect).1 cs

-- "After every list of place calls, refused ones included, from the table that the empty call leaves"
unfoldable pub table_after : List ℕ → List Call → List ℕ
unfolding placed empty_call
table_after slice calls = placed (empty_call slice).1 calls

-- "Two listings are equal when the hits are equal and so are that many words at the start of the answer slices"
pub record SameListing (a b : Answer × List ℕ) : Type 0 where
  pub hits : a.0.hits ≡ b.0.hits
  pub words : take a.0.hits a.1 ≡ take b.0.hits b.1
