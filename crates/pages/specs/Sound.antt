-- "Sound means all of these": the bullets, one definition each.
use Rattle.std.specs.Prelude.{ℕ, suc, ◌+◌, ◌*◌, Bool, ◌&&◌, cond, length, get_or, take, drop}
use mathlib.Core.List.{List, [], ◌∷◌, ◌++◌}
use Rattle.std.proofs.Math.Dec.{leb, ltb, eqb}
use Rattle.pages.specs.declared.Entry.{Entry}
use Rattle.pages.specs.Sizes.{PIECES, PAGE_HEAD, FANOUT, ENTRY_WORDS, PAGE_WORDS, TABLE_HEAD, PAGES, TABLE_WORDS, TOP_LEVEL, FEWEST, ROOT_LEAST}
use Rattle.pages.specs.Lists.{one, sum, all, all_of, all_below}
use Rattle.pages.specs.Rectangles.{valid, same_rect, bounds}
use Rattle.pages.specs.Layout.{Page, Table, page, page_words, table_in}

abbrev pub leaf : Page → Bool
leaf p = eqb p.level 0

-- the entries of a page above the leaves, and of a leaf
abbrev pub child_entries : Page → List Entry
child_entries p = cond (leaf p) [] p.entries

abbrev pub piece_entries : Page → List Entry
piece_entries p = cond (leaf p) p.entries []

-- 1 where n is the r of the entry
abbrev pub is : ℕ → Entry → ℕ
is n e = one (eqb e.r n)

module _ (t : Table) where
  -- a test of every entry above the leaves, with its page; of every entry in the leaves
  abbrev pub every_child : (Page → Entry → Bool) → Bool
  every_child q = all (λ p. all (q p) (child_entries p)) t.pages

  abbrev pub every_piece : (Entry → Bool) → Bool
  every_piece q = all (λ p. all q (piece_entries p)) t.pages

  -- how many entries above the leaves have the r q; how many entries in the leaves have the r c; how many there are in the leaves
  abbrev pub parents : ℕ → ℕ
  parents q = sum (λ p. sum (is q) (child_entries p)) t.pages

  abbrev pub stored : ℕ → ℕ
  stored c = sum (λ p. sum (is c) (piece_entries p)) t.pages

  abbrev pub pieces : ℕ
  pieces = sum (λ p. length (piece_entries p)) t.pages

  -- "k is 1 to 341 and the root is below k"
  unfoldable pub sound_root : List Bool
  sound_root =
      leb 1 (length t.pages)
      ∷ leb (length t.pages) PAGES
      ∷ ltb t.root (length t.pages)
      ∷ []

  -- "Levels are 0 to 4, and a child is one level below its parent"
  unfoldable pub sound_levels : List Bool
  sound_levels =
      all (λ p. leb p.level TOP_LEVEL) t.pages
      ∷ every_child (λ p e. eqb p.level (suc (page t e.r).level))
      ∷ []

  -- "Every page below k but the root is the r of exactly one entry above the leaves; the root of none; no r there reaches k"
  unfoldable pub sound_refs : List Bool
  sound_refs =
      all_below (length t.pages) (λ q. eqb (parents q) (cond (eqb q t.root) 0 1))
      ∷ every_child (λ p e. ltb e.r (length t.pages))
      ∷ []

  -- "n is 4 to 8. A root above level 0 may have 2 to 8, a leaf root 0 to 8"
  unfoldable pub fewest : ℕ → ℕ
  fewest p = cond (eqb p t.root) (cond (leaf (page t p)) 0 ROOT_LEAST) FEWEST

  unfoldable pub sound_sizes : List Bool
  unfolding fewest
  sound_sizes =
      all_below (length t.pages) (λ p. leb (fewest p) (length (page t p).entries))
      ∷ all_below (length t.pages) (λ p. leb (length (page t p).entries) FANOUT)
      ∷ []

  -- "An entry above the leaves holds exactly the bounding rectangle of its child's entries"
  unfoldable pub sound_bounds : List Bool
  unfolding same_rect bounds
  sound_bounds = every_child (λ p e. same_rect e.rect (bounds (page t e.r).entries)) ∷ []

  -- "Piece rectangles are valid, piece numbers are at most 1,023 and distinct, and word 2 counts them"
  unfoldable pub sound_pieces : List Bool
  unfolding valid
  sound_pieces =
      every_piece (λ e. valid e.rect)
      ∷ every_piece (λ e. ltb e.r PIECES)
      ∷ all_below PIECES (λ c. leb (stored c) 1)
      ∷ eqb t.count pieces
      ∷ []

  unfoldable pub sound_table : Bool
  unfolding sound_root sound_levels sound_refs sound_sizes sound_bounds sound_pieces
  sound_table = all_of (sound_root ++ (sound_levels ++ (sound_refs ++ (sound_sizes ++ (sound_bounds ++ sound_pieces)))))

-- "Words of entries from n on, and of pages from k on, are zero"
abbrev pub zeros : List ℕ → Bool
zeros w = all (λ x. eqb x 0) w

unfoldable pub sound_blank : List ℕ → List Bool
sound_blank w =
    all_below (get_or w 0 0) (λ p. zeros (drop (PAGE_HEAD + ENTRY_WORDS * get_or (page_words w p) 1 0) (page_words w p)))
    ∷ zeros (drop (TABLE_HEAD + PAGE_WORDS * get_or w 0 0) w)
    ∷ []

-- of the first 14,325 words
unfoldable pub sound : List ℕ → Bool
unfolding sound_table sound_blank table_in
sound w = sound_table (table_in w) && all_of (sound_blank (take TABLE_WORDS w))
