-- The words of a page: its entries, one changed, and where they lie in a slice.
use Prim.Native.Nat.{ℕ, ◌+◌, ◌*◌, ◌≤◌, ◌<◌}
use native.Mathlib.Omega.{arith}
use mathlib.Core.Path.{◌≡◌, sym, ap, ◌∙◌}
use mathlib.Core.Logic.{◌≢◌}
use mathlib.Core.List.{List, ◌++◌}
use lib.ListN.{length, get_or, take, drop, length-take, length-drop, take-append-drop}
use lib.Seq.{take-append-le, drop-append-le, get_or-take, get_or-drop, drop-drop}
use lib.Dec.{T}
use Rattle.pages.specs.declared.Entry.{Entry}
use Rattle.pages.specs.Sizes.{PAGE_HEAD, FANOUT, ENTRY_WORDS, PAGE_WORDS, TABLE_HEAD, PAGES, TABLE_WORDS}
use Rattle.pages.specs.Rectangles.{rect_of, entry_of}
use Rattle.pages.specs.Layout.{Page, page_of, no_entry, page, encode_entry, encode_page, decode_entry, page_words, table_in}
use Rattle.pages.specs.Sound.{sound}
use Rattle.pages.specs.Readers.{entry_in}
use Rattle.pages.proofs.Round.{cell, recell, size-entry, words-of-page}
use Rattle.pages.proofs.Whole.{entry-back, sound-is}

-- the word j of the cell of w words at a place
pub cell-word : (ws : List ℕ) (at w j : ℕ) → j < w → get_or (take w (drop at ws)) j 0 ≡ get_or ws (at + j) 0
cell-word ws at w j l = get_or-take w (drop at ws) j 0 l ∙ get_or-drop at ws j 0

-- and so the entry at place i of a page's words
pub entry_at : (c : List ℕ) (i : ℕ) → decode_entry (take ENTRY_WORDS (drop (PAGE_HEAD + ENTRY_WORDS * i) c)) ≡ entry_in c i
unfolding decode_entry
entry_at c i =
    let a : ℕ = PAGE_HEAD + ENTRY_WORDS * i in
    let z : a + 0 ≡ a = omega arith in
    let e0 = cell-word c a ENTRY_WORDS 0 (omega arith) ∙ ap (λ x. get_or c x 0) z in
    let e1 = cell-word c a ENTRY_WORDS 1 (omega arith) in
    let e2 = cell-word c a ENTRY_WORDS 2 (omega arith) in
    let e3 = cell-word c a ENTRY_WORDS 3 (omega arith) in
    let e4 = cell-word c a ENTRY_WORDS 4 (omega arith) in
    λ k. entry_of (rect_of (e0 k) (e1 k) (e2 k) (e3 k)) (e4 k)

pub entry-is : (c : List ℕ) (i : ℕ) → decode_entry (take ENTRY_WORDS (drop (ENTRY_WORDS * i) (drop PAGE_HEAD c))) ≡ entry_in c i
entry-is c i = ap (λ x. decode_entry (take ENTRY_WORDS x)) (drop-drop (ENTRY_WORDS * i) PAGE_HEAD c) ∙ entry_at c i

module _ (p : Page) where
  page-cell : (i : ℕ) → i < FANOUT → take ENTRY_WORDS (drop (ENTRY_WORDS * i) (drop PAGE_HEAD (encode_page p))) ≡ encode_entry (get_or p.entries i no_entry)
  unfolding encode_page
  page-cell i il = cell encode_entry no_entry ENTRY_WORDS size-entry FANOUT p.entries i il

  -- the entry at place i of a page is read from its words
  pub entry-in : (i : ℕ) → i < FANOUT → entry_in (encode_page p) i ≡ get_or p.entries i no_entry
  entry-in i il = sym (entry-is (encode_page p) i) ∙ (ap decode_entry (page-cell i il) ∙ entry-back (get_or p.entries i no_entry))

  -- one entry changed, or one more: the page's words are the same but for its two first and the 5 at PAGE_HEAD + ENTRY_WORDS * i
  pub entry-change : (es : List Entry) (i : ℕ) → i < 8 → ((j : ℕ) → j ≢ i → get_or es j no_entry ≡ get_or p.entries j no_entry)
      → drop 2 (encode_page (page_of p.level es)) ≡ take (ENTRY_WORDS * i) (drop 2 (encode_page p)) ++ (encode_entry (get_or es i no_entry) ++ drop (ENTRY_WORDS * i + 5) (drop 2 (encode_page p)))
  unfolding encode_page
  entry-change es i il h = recell encode_entry no_entry ENTRY_WORDS size-entry FANOUT p.entries es i il h

-- a page's words lie in the first n
pub front : (w : List ℕ) (n p : ℕ) → n ≤ length w → 45 + PAGE_WORDS * p ≤ n → page_words w p ≡ page_words (take n w) p
front w n p l k =
    let x : List ℕ = take n w in
    let xl : length x ≡ n = omega (arith, length-take n w) in
    let a : drop (TABLE_HEAD + PAGE_WORDS * p) (x ++ drop n w) ≡ drop (TABLE_HEAD + PAGE_WORDS * p) x ++ drop n w = drop-append-le (TABLE_HEAD + PAGE_WORDS * p) x (drop n w) (omega arith) in
    let b : take PAGE_WORDS (drop (TABLE_HEAD + PAGE_WORDS * p) x ++ drop n w) ≡ take PAGE_WORDS (drop (TABLE_HEAD + PAGE_WORDS * p) x) =
    take-append-le PAGE_WORDS (drop (TABLE_HEAD + PAGE_WORDS * p) x) (drop n w) (omega (arith, length-drop (TABLE_HEAD + PAGE_WORDS * p) x)) in
    ap (λ y. page_words y p) (sym (take-append-drop n w)) ∙ (ap (take PAGE_WORDS) a ∙ b)

-- the words of a sound slice are those of the table in it
pub page-in : (w : List ℕ) (p : ℕ) → TABLE_WORDS ≤ length w → T (sound w) → p < PAGES → page_words w p ≡ encode_page (page (table_in w) p)
page-in w p l h pl = front w TABLE_WORDS p l (omega arith) ∙ (ap (λ y. page_words y p) (sym (sound-is w l h)) ∙ words-of-page (table_in w) p pl)
