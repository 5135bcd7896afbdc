-- What stands in a page's words before the entry at a place and in it.
use Prim.Native.Nat.{ℕ, ◌+◌, ◌*◌, ◌<◌}
use native.Mathlib.Omega.{arith}
use mathlib.Core.Path.{◌≡◌, refl, ap, sym, ◌∙◌}
use mathlib.Core.List.{List, ◌++◌, append_assoc}
use lib.ListN.{length, get_or, take, drop, length-take, length-append}
use lib.Seq.{take_at, take-add, drop-drop}
use Rattle.pages.specs.declared.Entry.{Entry}
use Rattle.pages.specs.Sizes.{PAGE_HEAD, FANOUT, ENTRY_WORDS, PAGE_WORDS}
use Rattle.pages.specs.Layout.{no_entry, page_of, pack, encode_entry, encode_page}
use Rattle.pages.proofs.Round.{size-entry, cell}
use Rattle.placing.specs.Steps.{entry_set}
use Rattle.placing.proofs.PageWords.{entry-over}

-- what stands before place i and in it
entry-take : (w : List ℕ) (i : ℕ) (e : Entry) → length w ≡ PAGE_WORDS → i < FANOUT → take (PAGE_HEAD + ENTRY_WORDS * (i + 1)) (entry_set w i e) ≡ take (PAGE_HEAD + ENTRY_WORDS * i) w ++ encode_entry e
entry-take w i e l h =
    let n : PAGE_HEAD + ENTRY_WORDS * (i + 1) ≡ PAGE_HEAD + ENTRY_WORDS * i + ENTRY_WORDS = omega arith in
    let front : List ℕ = take (PAGE_HEAD + ENTRY_WORDS * i) w ++ encode_entry e in
    let size : length front ≡ PAGE_HEAD + ENTRY_WORDS * i + ENTRY_WORDS = simp (length-append, length-take, size-entry) (omega arith) in
    ap (take (PAGE_HEAD + ENTRY_WORDS * (i + 1))) (entry-over w i e l h ∙ sym (append_assoc (take (PAGE_HEAD + ENTRY_WORDS * i) w) (encode_entry e) _))
    ∙ take_at front _ (PAGE_HEAD + ENTRY_WORDS * (i + 1)) (size ∙ sym n)

page-tail : (l : ℕ) (es : List Entry) → drop PAGE_HEAD (encode_page (page_of l es)) ≡ pack encode_entry no_entry FANOUT es
unfolding encode_page
page-tail l es = refl

page-take : (l i : ℕ) (es : List Entry) → i < FANOUT
    → take (PAGE_HEAD + ENTRY_WORDS * (i + 1)) (encode_page (page_of l es)) ≡ take (PAGE_HEAD + ENTRY_WORDS * i) (encode_page (page_of l es)) ++ encode_entry (get_or es i no_entry)
page-take l i es h =
    let n : PAGE_HEAD + ENTRY_WORDS * (i + 1) ≡ PAGE_HEAD + ENTRY_WORDS * i + ENTRY_WORDS = omega arith in
    let g : List ℕ = encode_page (page_of l es) in
    ap (λ m. take m g) n ∙ take-add (PAGE_HEAD + ENTRY_WORDS * i) ENTRY_WORDS g
    ∙ ap (λ v. take (PAGE_HEAD + ENTRY_WORDS * i) g ++ v) (ap (take ENTRY_WORDS) (sym (drop-drop (ENTRY_WORDS * i) PAGE_HEAD g)) ∙ place l i es h)
  where
    place : (l i : ℕ) (es : List Entry) → i < FANOUT → take ENTRY_WORDS (drop (ENTRY_WORDS * i) (drop PAGE_HEAD (encode_page (page_of l es)))) ≡ encode_entry (get_or es i no_entry)
    place l i es h = ap (λ v. take ENTRY_WORDS (drop (ENTRY_WORDS * i) v)) (page-tail l es) ∙ cell encode_entry no_entry ENTRY_WORDS size-entry FANOUT es i h
