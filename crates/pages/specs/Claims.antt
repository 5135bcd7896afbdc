-- What is shown of page tables: the limits suffice, words and pages say the same, and the walk from the root meets each page once.
use Rattle.std.specs.Prelude.{ℕ, suc, ◌≤◌, ◌<◌, ◌≡◌, Bool, true, List, ◌∷◌, ◌++◌, length, take, T, ltb, eqb}
use Rattle.pages.specs.Sizes.{FANOUT, PAGES, TABLE_WORDS, TOP_LEVEL}
use Rattle.pages.specs.Lists.{one, all_of}
use Rattle.pages.specs.Layout.{Table, page, encode, decode, table_in}
use Rattle.pages.specs.Sound.{every_child, sound_refs, sound_sizes, sound_bounds, sound_pieces, sound}
use Rattle.pages.specs.Under.{seen}
use Rattle.pages.specs.Examples.{nine_pieces}

-- sound but for the limits 341 and 4: there may be any number of pages, and they may be at any level
unfoldable pub sound_but : Table → List Bool
unfolding sound_refs sound_sizes sound_bounds sound_pieces
sound_but t =
    ltb t.root (length t.pages)
    ∷ every_child t (λ p e. eqb p.level (suc (page t e.r).level))
    ∷ (sound_refs t ++ (sound_sizes t ++ (sound_bounds t ++ sound_pieces t)))

pub record Claims : Type 0 where
  -- "The 341 pages always suffice", and so does level 4
  pub suffice : (t : Table) → T (all_of (sound_but t)) → (length t.pages ≤ PAGES) × ((p : ℕ) → p < length t.pages → (page t p).level ≤ TOP_LEVEL)
  -- "A table is the first 14,325 words": those of a sound table are the words of the pages read from them
  pub words : (w : List ℕ) → TABLE_WORDS ≤ length w → T (sound w) → encode (table_in w) ≡ take TABLE_WORDS w
  -- "Then come 341 pages", "then 8 entries": a table that has room in the words is read back from them
  pub read : (t : Table) → length t.pages ≤ PAGES → ((p : ℕ) → p < length t.pages → length (page t p).entries ≤ FANOUT) → decode (encode t) ≡ t
  -- "the walk goes from a page to its children one level lower": from the root of a sound table it comes to each page one time
  pub once : (w : List ℕ) → T (sound w) → (q : ℕ) → q < length (table_in w).pages
      → seen (λ x. one (eqb x q)) (table_in w).pages (page (table_in w) (table_in w).root).level (table_in w).root ≡ 1
  -- "Pieces 0 to 8, piece c at (10c, 0, 10c + 5, 5), placed in order": the table is sound, and read back
  pub nine : sound (encode nine_pieces) ≡ true
  pub nine-read : decode (encode nine_pieces) ≡ nine_pieces
