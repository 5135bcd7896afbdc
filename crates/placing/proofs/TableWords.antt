-- The steps on a table's words, where the words are those of a table and others after them.
use Prim.Native.Nat.{ℕ, ◌+◌, ◌*◌, ◌≤◌, ◌<◌}
use native.Mathlib.Omega.{arith}
use mathlib.Core.Path.{◌≡◌, refl, sym, ap, ◌∙◌}
use mathlib.Core.Logic.{◌≢◌}
use mathlib.Core.List.{List, [], ◌∷◌, ◌++◌, append_assoc}
use lib.ListN.{length, get_or, take, drop, set, length-append, length-drop, length-set, take-append-drop}
use lib.Seq.{take-append-le, drop-append-le, get_or-set_same, get_or-set_other, get_or_at, set-set}
use lib.Dec.{T}
use borrow.Author.Tests.{lt-ltb}
use Rattle.pages.specs.Sizes.{FANOUT, PAGE_WORDS, TABLE_HEAD, PAGES, TABLE_WORDS}
use Rattle.pages.specs.Rectangles.{entry_of, bounds}
use Rattle.pages.specs.Layout.{Page, table_of, no_page, page_at, encode_page, encode, page_words, table_in}
use Rattle.pages.specs.Sound.{sound}
use Rattle.pages.proofs.Round.{size-page, length-encode, encode-page, words-of-page}
use Rattle.pages.proofs.Over.{over, over-past}
use Rattle.pages.proofs.Whole.{sound-is}
use Rattle.placing.specs.Place.{entry_for}
use Rattle.pages.specs.Writes.{put_page}
use Rattle.placing.specs.Steps.{filled_in, bounds_at, entry_for_in}
use Rattle.placing.proofs.PageWords.{filled-in, others_same}

-- the words of a table with the root a, the count c and the pages ps, and the words rest after them
unfoldable pub tabled : ℕ → ℕ → List Page → List ℕ → List ℕ
unfolding encode
tabled a c ps rest = encode (table_of a c ps) ++ rest

pub tabled-in : (w : List ℕ) → TABLE_WORDS ≤ length w → T (sound w) → w ≡ tabled (table_in w).root (table_in w).count (table_in w).pages (drop TABLE_WORDS w)
unfolding tabled
tabled-in w l h = sym (ap (λ v. v ++ drop TABLE_WORDS w) (sound-is w l h) ∙ take-append-drop TABLE_WORDS w)

module _ (a c : ℕ) (ps : List Page) (rest : List ℕ) where
  -- reading

  pub pages-word : get_or (tabled a c ps rest) 0 0 ≡ length ps
  unfolding tabled
  pages-word = refl

  pub root-word : get_or (tabled a c ps rest) 1 0 ≡ a
  unfolding tabled
  root-word = refl

  pub pieces-word : get_or (tabled a c ps rest) 2 0 ≡ c
  unfolding tabled
  pieces-word = refl

  pub page-words : (p : ℕ) → p < PAGES → page_words (tabled a c ps rest) p ≡ encode_page (page_at ps p)
  unfolding tabled
  page-words p l =
      let v : List ℕ = encode (table_of a c ps) in
      let b : ℕ = TABLE_HEAD + PAGE_WORDS * p in
      let vl : length v ≡ TABLE_WORDS = length-encode (table_of a c ps) in
      let e1 : drop b (v ++ rest) ≡ drop b v ++ rest = drop-append-le b v rest (omega arith) in
      let e2 : take PAGE_WORDS (drop b v ++ rest) ≡ take PAGE_WORDS (drop b v) = take-append-le PAGE_WORDS (drop b v) rest (omega (arith, length-drop b v)) in
      ap (take PAGE_WORDS) e1 ∙ (e2 ∙ words-of-page (table_of a c ps) p l)

  bounds-at : (q : ℕ) → q < PAGES → length (page_at ps q).entries ≤ FANOUT → bounds_at (tabled a c ps rest) q ≡ bounds (page_at ps q).entries
  unfolding bounds_at
  bounds-at q l m = rw (lt-ltb q PAGES l) (ap (λ w. bounds (filled_in w)) (page-words q l) ∙ ap bounds (filled-in (page_at ps q) m))

  pub entry-for : (q : ℕ) → q < PAGES → length (page_at ps q).entries ≤ FANOUT → entry_for_in (tabled a c ps rest) q ≡ entry_for q ps
  unfolding entry_for
  entry-for q l m = ap (λ r. entry_of r q) (bounds-at q l m)

  -- writing

  pub root-set : (b : ℕ) → set (tabled a c ps rest) 1 b ≡ tabled b c ps rest
  unfolding tabled
  root-set b = refl

  pub pieces-set : (b : ℕ) → set (tabled a c ps rest) 2 b ≡ tabled a b ps rest
  unfolding tabled
  pieces-set b = refl

  pages-set : (k : ℕ) → k ≡ length ps → set (tabled a c ps rest) 0 k ≡ tabled a c ps rest
  unfolding tabled
  pages-set k e = rw e

-- page p is written, and the page count is left: so of pages that are the same elsewhere
module _ (a c : ℕ) (ps qs : List Page) (rest : List ℕ) (p : ℕ) (pl : p < PAGES) (h : (q : ℕ) → q ≢ p → page_at qs q ≡ page_at ps q) where
  abbrev old : List ℕ
  old = encode (table_of a c ps)

  abbrev now : List ℕ
  now = set (encode (table_of a c qs)) 0 (length ps)

  abbrev b : ℕ
  b = TABLE_HEAD + PAGE_WORDS * p

  abbrev vs : List ℕ
  vs = encode_page (page_at qs p)

  heads : take TABLE_HEAD now ≡ take TABLE_HEAD old
  unfolding encode
  heads = refl

  tails : drop TABLE_HEAD now ≡ over (drop TABLE_HEAD old) (PAGE_WORDS * p) vs
  unfolding encode
  tails = encode-page (table_of a c ps) (table_of a c qs) p pl h ∙ rw (size-page (page_at qs p))

  table-put : put_page (old ++ rest) p vs ≡ now ++ rest
  unfolding put_page
  table-put =
      let ol : length old ≡ TABLE_WORDS = length-encode (table_of a c ps) in
      let z : length vs ≡ PAGE_WORDS = size-page (page_at qs p) in
      let e1 : take b (old ++ rest) ≡ take b old = take-append-le b old rest (omega arith) in
      let e2 : drop (b + PAGE_WORDS) (old ++ rest) ≡ drop (b + PAGE_WORDS) old ++ rest = drop-append-le (b + PAGE_WORDS) old rest (omega arith) in
      let e3 : now ≡ take b old ++ (vs ++ drop (b + length vs) old) = over-past old now TABLE_HEAD (PAGE_WORDS * p) vs heads tails in
      rw (e1, e2, e3, z) (sym (append_assoc (take b old) (vs ++ drop (b + PAGE_WORDS) old) rest ∙ ap (λ r. take b old ++ r) (append_assoc vs (drop (b + PAGE_WORDS) old) rest)))

  page-put : put_page (tabled a c ps rest) p (encode_page (page_at qs p)) ≡ set (tabled a c qs rest) 0 (length ps)
  unfolding tabled
  page-put = table-put

-- page p is another
pub page-set : (a c : ℕ) (ps : List Page) (rest : List ℕ) (p : ℕ) (g : Page) → p < length ps → p < PAGES → put_page (tabled a c ps rest) p (encode_page g) ≡ tabled a c (set ps p g) rest
page-set a c ps rest p g l pl =
    let x : page_at (set ps p g) p ≡ g = get_or-set_same ps p g no_page l in
    ap (λ y. put_page (tabled a c ps rest) p (encode_page y)) (sym x)
    ∙ (page-put a c ps (set ps p g) rest p pl (λ q n. get_or-set_other ps p q g no_page n)
    ∙ pages-set a c (set ps p g) rest (length ps) (sym (length-set ps p g)))

-- one page more
pub page-append : (a c : ℕ) (ps : List Page) (rest : List ℕ) (g : Page) → length ps < PAGES
    → set (put_page (tabled a c ps rest) (length ps) (encode_page g)) 0 (length ps + 1) ≡ tabled a c (ps ++ (g ∷ [])) rest
page-append a c ps rest g l =
    let qs : List Page = ps ++ (g ∷ []) in
    let k : ℕ = length ps in
    let x : page_at qs k ≡ g = get_or_at ps g [] no_page k refl in
    let put : put_page (tabled a c ps rest) k (encode_page g) ≡ set (tabled a c qs rest) 0 k =
    ap (λ y. put_page (tabled a c ps rest) k (encode_page y)) (sym x) ∙ page-put a c ps qs rest k l (others_same ps g no_page) in
    ap (λ w. set w 0 (k + 1)) put
    ∙ (set-set (tabled a c qs rest) 0 k (k + 1)
    ∙ pages-set a c qs rest (k + 1) (sym (length-append ps (g ∷ []))))
