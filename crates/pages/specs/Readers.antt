-- What the readers over a page's words give: the entry at a place, and the first n entries.
use Rattle.std.specs.Prelude.{ℕ, zero, suc, ◌+◌, ◌*◌, List, [], ◌∷◌, ◌++◌, get_or}
use Rattle.pages.specs.declared.Entry.{Entry}
use Rattle.pages.specs.Sizes.{PAGE_HEAD, ENTRY_WORDS}
use Rattle.pages.specs.Rectangles.{rect_of, entry_of}

abbrev pub entry_in : List ℕ → ℕ → Entry
entry_in w i =
    entry_of
    (rect_of (get_or w (PAGE_HEAD + ENTRY_WORDS * i) 0) (get_or w (PAGE_HEAD + ENTRY_WORDS * i + 1) 0)
    (get_or w (PAGE_HEAD + ENTRY_WORDS * i + 2) 0) (get_or w (PAGE_HEAD + ENTRY_WORDS * i + 3) 0))
    (get_or w (PAGE_HEAD + ENTRY_WORDS * i + 4) 0)

unfoldable pub entries_in : List ℕ → ℕ → List Entry
entries_in w zero = []
entries_in w (suc n) = entries_in w n ++ (entry_in w n ∷ [])
