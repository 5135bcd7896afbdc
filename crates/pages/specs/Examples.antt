-- The table of the nine pieces of the paper: "Pieces 0 to 8, piece c at (10c, 0, 10c + 5, 5), placed in order".
use Rattle.std.specs.Prelude.{ℕ, ◌+◌, ◌*◌, [], ◌∷◌}
use Rattle.pages.specs.declared.Rect.{Rect}
use Rattle.pages.specs.Rectangles.{rect_of, entry_of}
use Rattle.pages.specs.Layout.{Table, page_of, table_of}

abbrev pub piece : ℕ → Rect
piece c = rect_of (10 * c) 0 (10 * c + 5) 5

-- "pages 0 (pieces 0 to 3) and 1 (4 to 8), root 2, entries (0, 0, 35, 5, 0) and (40, 0, 85, 5, 1)"
unfoldable pub nine_pieces : Table
nine_pieces =
    table_of 2 9
    (page_of 0 (entry_of (piece 0) 0 ∷ entry_of (piece 1) 1 ∷ entry_of (piece 2) 2 ∷ entry_of (piece 3) 3 ∷ [])
    ∷ page_of 0
    (entry_of (piece 4) 4 ∷ entry_of (piece 5) 5 ∷ entry_of (piece 6) 6 ∷ entry_of (piece 7) 7 ∷ entry_of (piece 8) 8 ∷ [])
    ∷ page_of 1 (entry_of (rect_of 0 0 35 5) 0 ∷ entry_of (rect_of 40 0 85 5) 1 ∷ [])
    ∷ [])
