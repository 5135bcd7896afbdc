-- The words of a page of a sound table are its level, its entry count and its entries.
use Prim.Native.Nat.{ℕ, ◌≤◌, ◌<◌}
use native.Mathlib.Omega.{arith}
use mathlib.Core.Path.{◌≡◌, sym, ap, ◌∙◌}
use mathlib.Core.List.{List}
use lib.ListN.{length, get_or}
use lib.Dec.{T}
use Rattle.std.proofs.lemmas.List.{ext_get_or}
use Rattle.pages.specs.Sizes.{FANOUT, PAGES, TABLE_WORDS}
use Rattle.pages.specs.Layout.{no_entry, page, page_words, table_in}
use Rattle.pages.specs.Sound.{sound}
use Rattle.pages.specs.Readers.{entry_in, entries_in}
use Rattle.pages.proofs.Bounds.{length-entries}
use Rattle.pages.proofs.Firsts.{get_or-entries}
use Rattle.pages.proofs.Facts.{Facts}
use Rattle.pages.proofs.Whole.{sound-in}
use Rattle.pages.proofs.Cells as cells
use Rattle.soundness.proofs.Words.{level-word, size_word}

module _ (w : List ℕ) (long : TABLE_WORDS ≤ length w) (holds : T (sound w)) (p : ℕ) (inside : p < length (table_in w).pages) where
  table-facts : Facts (table_in w)
  table-facts = sound-in w holds

  pub page-few : p < PAGES
  page-few = omega (arith, inside, table-facts.most)

  pub size-most : length (page (table_in w) p).entries ≤ FANOUT
  size-most = table-facts.eight p inside

  -- v are the words of the page
  module _ (v : List ℕ) (e : v ≡ page_words w p) where
    pub size_in : get_or v 1 0 ≡ length (page (table_in w) p).entries
    size_in = ap (λ x. get_or x 1 0) e ∙ sym (size_word w long p inside table-facts.most)

    pub level_in : get_or v 0 0 ≡ (page (table_in w) p).level
    level_in = ap (λ x. get_or x 0 0) e ∙ sym (level-word w long p inside table-facts.most)

    entry-in : (i : ℕ) → i < length (page (table_in w) p).entries → entry_in v i ≡ get_or (page (table_in w) p).entries i no_entry
    entry-in i l = ap (λ x. entry_in x i) (e ∙ cells.page-in w p long holds page-few) ∙ cells.entry-in (page (table_in w) p) i (omega (arith, size-most))

    pub entries-read : entries_in v (get_or v 1 0) ≡ (page (table_in w) p).entries
    entries-read =
        let n : length (entries_in v (get_or v 1 0)) ≡ get_or v 1 0 = length-entries v (get_or v 1 0) in
        ext_get_or no_entry _ _ (n ∙ size_in)
        (λ i l. get_or-entries v (get_or v 1 0) i no_entry (omega (arith, n)) ∙ entry-in i (omega (arith, n, size_in)))
