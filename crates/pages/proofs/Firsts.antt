-- The first n entries of a page: the one at place i, and all of them by the chunks of its words.
use Prim.Native.Nat.{ℕ, zero, suc, ◌+◌, ◌-◌, ◌*◌, ◌<◌, ◌≤◌}
use native.Mathlib.Decide.{dec_lt}
use native.Mathlib.Omega.{arith}
use native.Mathlib.Numerals.{add-one}
use native.Mathlib.Nat.{mul-zero}
use mathlib.Core.Path.{◌≡◌, refl, ap, ◌∙◌}
use mathlib.Core.List.{List, [], ◌∷◌, ◌++◌, map}
use lib.ListN.{length, get_or, take, drop, get_or-append, length-drop}
use lib.Seq.{drop-drop, take-length, get_or_at}
use Rattle.std.specs.Simd.{first_chunks}
use Rattle.std.proofs.lemmas.List.{map_more}
use Rattle.pages.specs.declared.Entry.{Entry}
use Rattle.pages.specs.Sizes.{PAGE_HEAD, ENTRY_WORDS, PAGE_WORDS}
use Rattle.pages.specs.Layout.{decode_entry}
use Rattle.pages.specs.Readers.{entry_in, entries_in}
use Rattle.pages.proofs.Bounds.{length-entries}
use Rattle.pages.proofs.Cells.{entry-is}

pub get_or-entries : (w : List ℕ) (n i : ℕ) (d : Entry) → i < n → get_or (entries_in w n) i d ≡ entry_in w i
unfolding entries_in
get_or-entries w zero i d h = absurd (omega arith)
get_or-entries w (suc n) i d h = go (dec_lt i n) (get_or-entries w n i d)
  where
    go : Dec (i < n) → (i < n → get_or (entries_in w n) i d ≡ entry_in w i) → get_or (entries_in w n ++ (entry_in w n ∷ [])) i d ≡ entry_in w i
    go (yes a) p = get_or-append (entries_in w n) (entry_in w n ∷ []) d i (omega (arith, length-entries w n)) ∙ p a
    go (no a) p =
        let e : n ≡ i = omega arith in
        get_or_at (entries_in w n) (entry_in w n) [] d i (length-entries w n ∙ e) ∙ ap (entry_in w) e

-- chunks of equal width: their number, and the one at place i
pub length-chunks : (w n : ℕ) (ws : List ℕ) → length (first_chunks w n ws) ≡ n
length-chunks w zero ws = refl
length-chunks w (suc n) ws = omega (arith, length-chunks w n (drop w ws))

pub chunk-at : (w n : ℕ) (ws : List ℕ) (i : ℕ) → i < n → get_or (first_chunks w n ws) i [] ≡ take w (drop (w * i) ws)
chunk-at w zero ws i l = absurd (omega arith)
chunk-at w (suc n) ws zero l = rw mul-zero
chunk-at w (suc n) ws (suc i) l =
    let e : w + w * i ≡ w * suc i = omega arith in
    chunk-at w n (drop w ws) i (omega arith) ∙ rw (drop-drop, e)

-- those behind a page's head are its entries
in-chunks : (w : List ℕ) (n m : ℕ) → n ≤ m → map decode_entry (take n (first_chunks ENTRY_WORDS m (drop PAGE_HEAD w))) ≡ entries_in w n
unfolding entries_in
in-chunks w zero m h = refl
in-chunks w (suc n) m h =
    let cells : List (List ℕ) = first_chunks ENTRY_WORDS m (drop PAGE_HEAD w) in
    let last : decode_entry (get_or cells n []) ≡ entry_in w n = ap decode_entry (chunk-at ENTRY_WORDS m (drop PAGE_HEAD w) n (omega arith)) ∙ entry-is w n in
    rw add-one at (map_more decode_entry cells n [] (omega (arith, length-chunks ENTRY_WORDS m (drop PAGE_HEAD w)))) ∙ rw (in-chunks w n m (omega arith), last)

pub entries-chunks : (w v : List ℕ) (cells : List (List ℕ)) (m n : ℕ) → length w ≡ PAGE_WORDS
    → v ≡ take (PAGE_WORDS - PAGE_HEAD) (drop PAGE_HEAD w) → cells ≡ first_chunks ENTRY_WORDS m v → n ≤ m → map decode_entry (take n cells) ≡ entries_in w n
entries-chunks w v cells m n l e f h =
    let k : PAGE_WORDS - PAGE_HEAD ≡ length (drop PAGE_HEAD w) = omega (arith, length-drop PAGE_HEAD w) in
    let whole : v ≡ drop PAGE_HEAD w = e ∙ (ap (λ j. take j (drop PAGE_HEAD w)) k ∙ take-length (drop PAGE_HEAD w)) in
    ap (λ xs. map decode_entry (take n xs)) (f ∙ ap (first_chunks ENTRY_WORDS m) whole) ∙ in-chunks w n m h
