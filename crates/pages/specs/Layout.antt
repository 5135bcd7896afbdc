-- The page table: pages of entries, and their words.
use Rattle.std.specs.Prelude.{ℕ, zero, suc, ◌+◌, ◌*◌, List, [], ◌∷◌, ◌++◌, length, get_or, take, drop}
use Rattle.pages.specs.declared.Entry.{Entry}
use Rattle.pages.specs.Sizes.{PAGE_HEAD, FANOUT, ENTRY_WORDS, PAGE_WORDS, TABLE_HEAD, PAGES, TABLE_WORDS}
use Rattle.pages.specs.Rectangles.{rect_of, entry_of}

-- in a leaf, level 0, the r of an entry is a piece number, above it a child's page number
pub record Page : Type 0 where
  pub level : ℕ
  pub entries : List Entry

-- the page count k is the length of `pages`; `count` is the piece count
pub record Table : Type 0 where
  pub root : ℕ
  pub count : ℕ
  pub pages : List Page

abbrev pub page_of : ℕ → List Entry → Page
page_of l es = record { level = l; entries = es }

abbrev pub table_of : ℕ → ℕ → List Page → Table
table_of r c ps = record { root = r; count = c; pages = ps }

-- what zero words say
abbrev pub no_entry : Entry
no_entry = entry_of (rect_of 0 0 0 0) 0

abbrev pub no_page : Page
no_page = page_of 0 []

-- page p of a list of pages, and of a table
abbrev pub page_at : List Page → ℕ → Page
page_at ps p = get_or ps p no_page

abbrev pub page : Table → ℕ → Page
page t p = page_at t.pages p

-- cells of equal width, one after the other: those of the list, then blank ones; and n cells of w words read
module _ {A : Type 0} where
  abbrev pub pack : (A → List ℕ) → A → ℕ → List A → List ℕ
  pack f b zero xs = []
  pack f b (suc n) [] = f b ++ pack f b n []
  pack f b (suc n) (x ∷ xs) = f x ++ pack f b n xs

  abbrev pub unpack : (List ℕ → A) → ℕ → ℕ → List ℕ → List A
  unpack g w zero ws = []
  unpack g w (suc n) ws = g (take w ws) ∷ unpack g w n (drop w ws)

-- "8 entries of x1, y1, x2, y2, r"
unfoldable pub encode_entry : Entry → List ℕ
encode_entry e = e.rect.x1 ∷ e.rect.y1 ∷ e.rect.x2 ∷ e.rect.y2 ∷ e.r ∷ []

-- "its level (leaf 0), its entry count n, then 8 entries"
unfoldable pub encode_page : Page → List ℕ
unfolding encode_entry
encode_page p = p.level ∷ length p.entries ∷ pack encode_entry no_entry FANOUT p.entries

-- "Word 0 is the page count k, word 1 the root's page number, word 2 the piece count. Then come 341 pages"
unfoldable pub encode : Table → List ℕ
unfolding encode_page
encode t = length t.pages ∷ t.root ∷ t.count ∷ pack encode_page no_page PAGES t.pages

-- and read
unfoldable pub decode_entry : List ℕ → Entry
decode_entry w = entry_of (rect_of (get_or w 0 0) (get_or w 1 0) (get_or w 2 0) (get_or w 3 0)) (get_or w 4 0)

unfoldable pub decode_page : List ℕ → Page
unfolding decode_entry
decode_page w = page_of (get_or w 0 0) (unpack decode_entry ENTRY_WORDS (get_or w 1 0) (drop PAGE_HEAD w))

unfoldable pub decode : List ℕ → Table
unfolding decode_page
decode w = table_of (get_or w 1 0) (get_or w 2 0) (unpack decode_page PAGE_WORDS (get_or w 0 0) (drop TABLE_HEAD w))

-- "a page is the 42 words that begin at word 3 + 42 times its number"
abbrev pub page_words : List ℕ → ℕ → List ℕ
page_words w p = take PAGE_WORDS (drop (TABLE_HEAD + PAGE_WORDS * p) w)

-- "A table is the first 14,325 words of a lent slice"
unfoldable pub table_in : List ℕ → Table
unfolding decode
table_in w = decode (take TABLE_WORDS w)
