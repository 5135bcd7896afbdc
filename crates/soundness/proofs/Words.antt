-- What the words of a table say of it before it is known to be sound.
use Prim.Native.Nat.{ℕ, zero, suc, ◌+◌, ◌*◌, ◌≤◌, ◌<◌}
use native.Mathlib.Omega.{arith}
use native.Mathlib.Nat.{mul-zero}
use mathlib.Core.Path.{◌≡◌, refl, sym, ap, ◌∙◌}
use mathlib.Core.List.{List, [], ◌∷◌, ◌++◌}
use lib.ListN.{length, get_or, take, drop}
use lib.Seq.{drop-drop, get_or-take}
use Rattle.pages.specs.Sizes.{PAGE_HEAD, ENTRY_WORDS, PAGE_WORDS, TABLE_HEAD, PAGES, TABLE_WORDS}
use Rattle.pages.specs.Layout.{page, unpack, decode_entry, decode_page, decode, page_words, table_in}
use Rattle.pages.specs.Readers.{entries_in}
use Rattle.pages.specs.Sound.{zeros}
use Rattle.pages.proofs.Round.{length-unpack, page-at}
use Rattle.pages.proofs.Cells.{entry-is, front}

module _ {A : Type 0} (g : List ℕ → A) (w : ℕ) where
  unpack-last : (n : ℕ) (ws : List ℕ) → unpack g w (suc n) ws ≡ unpack g w n ws ++ (g (take w (drop (w * n) ws)) ∷ [])
  unpack-last zero ws = rw mul-zero
  unpack-last (suc n) ws =
      let e : w + w * n ≡ w * suc n = omega arith in
      ap (λ l. g (take w ws) ∷ l) (unpack-last n (drop w ws) ∙ rw (drop-drop, e))

entries-are : (c : List ℕ) (n : ℕ) → unpack decode_entry ENTRY_WORDS n (drop PAGE_HEAD c) ≡ entries_in c n
unfolding entries_in
entries-are c zero = refl
entries-are c (suc n) = unpack-last decode_entry ENTRY_WORDS n (drop PAGE_HEAD c) ∙ rw (entries-are c n, entry-is c n)

pub first_word : (w : List ℕ) → get_or (take TABLE_WORDS w) 0 0 ≡ get_or w 0 0
first_word w = get_or-take TABLE_WORDS w 0 0 (omega arith)

module _ (w : List ℕ) (long : TABLE_WORDS ≤ length w) where
  pub pages-word : length (table_in w).pages ≡ get_or w 0 0
  unfolding table_in decode
  pages-word = length-unpack decode_page PAGE_WORDS (get_or (take TABLE_WORDS w) 0 0) (drop TABLE_HEAD (take TABLE_WORDS w)) ∙ first_word w

  pub root-word : (table_in w).root ≡ get_or w 1 0
  unfolding table_in decode
  root-word = get_or-take TABLE_WORDS w 1 0 (omega arith)

  pub pieces-word : (table_in w).count ≡ get_or w 2 0
  unfolding table_in decode
  pieces-word = get_or-take TABLE_WORDS w 2 0 (omega arith)

  module _ (p : ℕ) (pl : p < length (table_in w).pages) (most : length (table_in w).pages ≤ PAGES) where
    front-words : page_words (take TABLE_WORDS w) p ≡ page_words w p
    front-words = sym (front w TABLE_WORDS p long (omega arith))

    page-is : page (table_in w) p ≡ decode_page (page_words w p)
    unfolding table_in
    page-is = page-at (take TABLE_WORDS w) p (omega (arith, pages-word, first_word w)) ∙ ap decode_page front-words

    pub level-word : (page (table_in w) p).level ≡ get_or (page_words w p) 0 0
    unfolding decode_page
    level-word = ap (λ x. x.level) page-is

    pub size_word : length (page (table_in w) p).entries ≡ get_or (page_words w p) 1 0
    unfolding decode_page
    size_word = ap (λ x. length x.entries) page-is ∙ length-unpack decode_entry ENTRY_WORDS (get_or (page_words w p) 1 0) (drop 2 (page_words w p))

    pub entries-words : (page (table_in w) p).entries ≡ entries_in (page_words w p) (get_or (page_words w p) 1 0)
    unfolding decode_page
    entries-words = ap (λ x. x.entries) page-is ∙ entries-are (page_words w p) (get_or (page_words w p) 1 0)

    -- the tail of a page, as soundness reads it
    pub tail-words : zeros (drop (PAGE_HEAD + ENTRY_WORDS * get_or (page_words (take TABLE_WORDS w) p) 1 0) (page_words (take TABLE_WORDS w) p))
        ≡ zeros (drop (PAGE_HEAD + ENTRY_WORDS * length (page (table_in w) p).entries) (page_words w p))
    tail-words = ap (λ x. zeros (drop (PAGE_HEAD + ENTRY_WORDS * get_or x 1 0) x)) front-words ∙ ap (λ n. zeros (drop (PAGE_HEAD + ENTRY_WORDS * n) (page_words w p))) (sym size_word)
