-- Words and values: what is read back, and what one changed cell does.
use Prim.Native.Nat.{ℕ, zero, suc, ◌+◌, ◌*◌, ◌≤◌, ◌<◌}
use native.Mathlib.Omega.{arith}
use native.Mathlib.Nat.{le_of_suc-le-suc, not-suc-le-zero, mul-zero}
use mathlib.Core.Path.{◌≡◌, refl, sym, ap, ◌∙◌}
use mathlib.Core.Logic.{◌≢◌}
use mathlib.Core.List.{List, [], ◌∷◌, ◌++◌, append_assoc}
use lib.ListN.{length, get_or, take, drop, replicate, length-append, length-take, length-drop, take-append-drop, drop_of_length-le, replicate-append-replicate}
use lib.Seq.{take_at, drop-drop, drop-append-add, drop-append_seam, drop-cons, take-append-add}
use lib.Dec.{T, eqb, eqb→eq}
use Rattle.pages.specs.declared.Entry.{Entry}
use Rattle.pages.specs.Sizes.{PAGE_HEAD, FANOUT, ENTRY_WORDS, PAGE_WORDS, TABLE_HEAD, PAGES, TABLE_WORDS}
use Rattle.pages.specs.Lists.{all_of}
use Rattle.pages.specs.Layout.{Page, Table, no_entry, no_page, page, pack, unpack, encode_entry, encode_page, encode, decode_entry, decode_page, decode, page_words}
use Rattle.pages.specs.Sound.{sound_table, zeros, sound_blank}
use Rattle.pages.proofs.Lists.{both, holds, all-below}
use Rattle.pages.proofs.Facts.{Facts, facts}

-- zero words
pub blank : (ws : List ℕ) → T (zeros ws) → ws ≡ replicate (length ws) 0
blank [] h = refl
blank (x ∷ ws) h =
    let e : x ≡ 0 = eqb→eq x 0 (both (eqb x 0) (zeros ws) h).0 in
    cc (blank ws (both (eqb x 0) (zeros ws) h).1)

module _ {A : Type 0} (f : A → List ℕ) (b : A) (w : ℕ) (size : (x : A) → length (f x) ≡ w) where
  pub length-pack : (n : ℕ) (xs : List A) → length (pack f b n xs) ≡ w * n
  length-pack zero xs = omega arith
  length-pack (suc n) [] = omega (arith, length-append (f b) (pack f b n []), size b, length-pack n [])
  length-pack (suc n) (x ∷ xs) = omega (arith, length-append (f x) (pack f b n xs), size x, length-pack n xs)

  -- the cell at place i
  pub cell : (n : ℕ) (xs : List A) (i : ℕ) → i < n → take w (drop (w * i) (pack f b n xs)) ≡ f (get_or xs i b)
  cell zero xs i l = absurd (not-suc-le-zero l)
  cell (suc n) [] zero l = rw mul-zero (take_at (f b) _ w (size b))
  cell (suc n) (x ∷ xs) zero l = rw mul-zero (take_at (f x) _ w (size x))
  cell (suc n) [] (suc i) l =
      let e : w * suc i ≡ length (f b) + w * i = omega (arith, size b) in
      rw (e, drop-append-add) (cell n [] i (le_of_suc-le-suc l))
  cell (suc n) (x ∷ xs) (suc i) l =
      let e : w * suc i ≡ length (f x) + w * i = omega (arith, size x) in
      rw (e, drop-append-add) (cell n xs i (le_of_suc-le-suc l))

  -- the cells by a function of their places
  abbrev cells : ℕ → (ℕ → A) → List ℕ
  cells zero h = []
  cells (suc n) h = f (h 0) ++ cells n (λ i. h (suc i))

  pack-cells : (n : ℕ) (xs : List A) → pack f b n xs ≡ cells n (λ i. get_or xs i b)
  pack-cells zero xs = refl
  pack-cells (suc n) [] = rw (pack-cells n [])
  pack-cells (suc n) (x ∷ xs) = rw (pack-cells n xs)

  same-cells : (n : ℕ) (h k : ℕ → A) → ((j : ℕ) → h j ≡ k j) → cells n h ≡ cells n k
  same-cells zero h k e = refl
  same-cells (suc n) h k e = rw (e 0, same-cells n (λ j. h (suc j)) (λ j. k (suc j)) (λ j. e (suc j)))

  one_cell : (n : ℕ) (h k : ℕ → A) (i : ℕ) → i < n → ((j : ℕ) → j ≢ i → k j ≡ h j)
      → cells n k ≡ take (w * i) (cells n h) ++ (f (k i) ++ drop (w * i + w) (cells n h))
  one_cell zero h k i l e = absurd (not-suc-le-zero l)
  one_cell (suc n) h k zero l e =
      let z : w * 0 ≡ 0 = mul-zero w in
      let y : 0 + w ≡ length (f (h 0)) = omega (arith, size (h 0)) in
      rw (z, y, drop-append_seam, same-cells n (λ j. k (suc j)) (λ j. h (suc j)) (λ j. e (suc j) (omega arith)))
  one_cell (suc n) h k (suc i) l e =
      let r = one_cell n (λ j. h (suc j)) (λ j. k (suc j)) i (le_of_suc-le-suc l) (λ j q. e (suc j) (omega arith)) in
      let z : w * suc i + w ≡ length (f (h 0)) + (w * i + w) = omega (arith, size (h 0)) in
      let y : w * suc i ≡ length (f (h 0)) + w * i = omega (arith, size (h 0)) in
      rw (z, y, drop-append-add, take-append-add, r, e 0 (omega arith)) (simp append_assoc)

  -- the same cells but for the one at place i
  pub recell : (n : ℕ) (xs ys : List A) (i : ℕ) → i < n → ((j : ℕ) → j ≢ i → get_or ys j b ≡ get_or xs j b)
      → pack f b n ys ≡ take (w * i) (pack f b n xs) ++ (f (get_or ys i b) ++ drop (w * i + w) (pack f b n xs))
  recell n xs ys i l h = rw (pack-cells n xs, pack-cells n ys) (one_cell n (λ j. get_or xs j b) (λ j. get_or ys j b) i l h)

  module _ (g : List ℕ → A) (zeroes : f b ≡ replicate w 0) where
    pub pack-blank : (n : ℕ) → pack f b n [] ≡ replicate (w * n) 0
    pack-blank zero = rw mul-zero
    pack-blank (suc n) =
        let e : w * suc n ≡ w + w * n = omega arith in
        rw (e, pack-blank n, zeroes) (replicate-append-replicate w (w * n) 0)

    next : (i : ℕ) (ws : List ℕ) → drop (w * i) (drop w ws) ≡ drop (w * suc i) ws
    next i ws =
        let e : w + w * i ≡ w * suc i = omega arith in
        rw (drop-drop, e)

    pub repack : (k n : ℕ) (ws : List ℕ) → length ws ≡ w * n → k ≤ n
        → ((i : ℕ) → i < k → f (g (take w (drop (w * i) ws))) ≡ take w (drop (w * i) ws))
        → T (zeros (drop (w * k) ws)) → pack f b n (unpack g w k ws) ≡ ws
    repack zero n ws s l h z =
        let d : drop (w * 0) ws ≡ ws = rw mul-zero in
        let z' : T (zeros ws) = rw d at z in
        rw (pack-blank n, ← s) (sym (blank ws z'))
    repack (suc k) zero ws s l h z = absurd (not-suc-le-zero l)
    repack (suc k) (suc n) ws s l h z =
        let h0 : f (g (take w ws)) ≡ take w ws = rw mul-zero at (h 0 (omega arith)) in
        let r : pack f b n (unpack g w k (drop w ws)) ≡ drop w ws = repack k n (drop w ws) (omega (arith, length-drop w ws)) (le_of_suc-le-suc l)
        (λ i q. rw (next i ws) (h (suc i) (omega arith))) (rw (next k ws) z) in
        rw (r, h0) (take-append-drop w ws)

-- entries, pages, tables

pub size-entry : (e : Entry) → length (encode_entry e) ≡ 5
unfolding encode_entry
size-entry e = refl

pub size-page : (p : Page) → length (encode_page p) ≡ PAGE_WORDS
unfolding encode_page
size-page p = omega (arith, length-pack encode_entry no_entry ENTRY_WORDS size-entry FANOUT p.entries)

pub level-word : (p : Page) → get_or (encode_page p) 0 0 ≡ p.level
unfolding encode_page
level-word p = refl

pub count_word : (p : Page) → get_or (encode_page p) 1 0 ≡ length p.entries
unfolding encode_page
count_word p = refl

pub blank-entry : encode_entry no_entry ≡ replicate 5 0
unfolding encode_entry
blank-entry = refl

pub blank-page : encode_page no_page ≡ replicate PAGE_WORDS 0
unfolding encode_page
blank-page = refl

pub length-encode : (t : Table) → length (encode t) ≡ TABLE_WORDS
unfolding encode
length-encode t = omega (arith, length-pack encode_page no_page PAGE_WORDS size-page PAGES t.pages)

-- a list of which the length is known
ends : (ws : List ℕ) (i : ℕ) → i < length ws → drop i ws ≡ get_or ws i 0 ∷ drop (suc i) ws
ends ws i l = drop-cons ws i 0 l

entry-words : (c : List ℕ) → length c ≡ 5 → encode_entry (decode_entry c) ≡ c
unfolding encode_entry decode_entry
entry-words c s = sym
    (ends c 0 (omega arith) ∙ rw (ends c 1 (omega arith), ends c 2 (omega arith), ends c 3 (omega arith), ends c 4 (omega arith)) (rw (drop_of_length-le c {i = 5} (omega arith))))

pub length-unpack : {A : Type 0} (g : List ℕ → A) (w n : ℕ) (ws : List ℕ) → length (unpack g w n ws) ≡ n
length-unpack g w zero ws = refl
length-unpack g w (suc n) ws = ap suc (length-unpack g w n (drop w ws))

pub get_or-unpack : {A : Type 0} (g : List ℕ → A) (w n : ℕ) (ws : List ℕ) (d : A) (i : ℕ) → i < n → get_or (unpack g w n ws) i d ≡ g (take w (drop (w * i) ws))
get_or-unpack g w zero ws d i l = absurd (not-suc-le-zero l)
get_or-unpack g w (suc n) ws d zero l = rw mul-zero
get_or-unpack g w (suc n) ws d (suc i) l =
    let e : w + w * i ≡ w * suc i = omega arith in
    rw (get_or-unpack g w n (drop w ws) d i (le_of_suc-le-suc l), drop-drop, e)

page-words : (c : List ℕ) → length c ≡ PAGE_WORDS → get_or c 1 0 ≤ 8 → T (zeros (drop (PAGE_HEAD + ENTRY_WORDS * get_or c 1 0) c)) → encode_page (decode_page c) ≡ c
unfolding encode_page decode_page
page-words c s n z =
    let z' : T (zeros (drop (ENTRY_WORDS * get_or c 1 0) (drop 2 c))) = rw drop-drop z in
    let r : pack encode_entry no_entry FANOUT (unpack decode_entry ENTRY_WORDS (get_or c 1 0) (drop 2 c)) ≡ drop 2 c =
    repack encode_entry no_entry ENTRY_WORDS size-entry decode_entry blank-entry (get_or c 1 0) 8 (drop 2 c) (omega (arith, length-drop 2 c)) n
    (λ i l. entry-words (take 5 (drop (ENTRY_WORDS * i) (drop 2 c)))
    (omega (arith, length-take 5 (drop (ENTRY_WORDS * i) (drop 2 c)), length-drop (ENTRY_WORDS * i) (drop 2 c), length-drop 2 c))) z' in
    sym (ends c 0 (omega arith) ∙ rw (ends c 1 (omega arith), length-unpack, r))

pub page-at : (w : List ℕ) (i : ℕ) → i < get_or w 0 0 → page (decode w) i ≡ decode_page (page_words w i)
unfolding decode
page-at w i l = rw (get_or-unpack decode_page PAGE_WORDS (get_or w 0 0) (drop 3 w) no_page i l, drop-drop)

few : (w : List ℕ) → Facts (decode w) → (i : ℕ) → i < get_or w 0 0 → get_or (page_words w i) 1 0 ≤ 8
unfolding decode decode_page
few w f i l =
    let kl : length (decode w).pages ≡ get_or w 0 0 = length-unpack decode_page PAGE_WORDS (get_or w 0 0) (drop 3 w) in
    let e : length (page (decode w) i).entries ≡ length (decode_page (page_words w i)).entries = ap (λ p. length p.entries) (page-at w i l) in
    omega (arith, f.eight i (omega arith), e, length-unpack decode_entry ENTRY_WORDS (get_or (page_words w i) 1 0) (drop 2 (page_words w i)))

-- a sound table is read back as it stands
pub encode-decode : (w : List ℕ) → length w ≡ TABLE_WORDS → T (sound_table (decode w)) → T (all_of (sound_blank w)) → encode (decode w) ≡ w
unfolding encode decode sound_blank
encode-decode w s h z =
    let f : Facts (decode w) = facts (decode w) h in
    let (z1, (z2, _)) = holds (sound_blank w) z in
    let k : ℕ = get_or w 0 0 in
    let kl : length (decode w).pages ≡ k = length-unpack decode_page PAGE_WORDS k (drop 3 w) in
    let z2' : T (zeros (drop (PAGE_WORDS * k) (drop 3 w))) = rw drop-drop z2 in
    let r : pack encode_page no_page PAGES (unpack decode_page PAGE_WORDS k (drop 3 w)) ≡ drop 3 w =
    repack encode_page no_page PAGE_WORDS size-page decode_page blank-page k PAGES (drop 3 w) (omega (arith, length-drop 3 w)) (omega (arith, f.most, kl))
    (λ i l. rw drop-drop (page-words (page_words w i) (omega (arith, length-take PAGE_WORDS (drop (TABLE_HEAD + PAGE_WORDS * i) w), length-drop (TABLE_HEAD + PAGE_WORDS * i) w, f.most, kl))
    (few w f i l) (all-below k _ z1 i l))) z2' in
    sym (ends w 0 (omega arith) ∙ rw (ends w 1 (omega arith), ends w 2 (omega arith), length-unpack, r))

-- one page changed, or one page more: the words are the same but for the PAGE_WORDS at TABLE_HEAD + PAGE_WORDS * p
pub encode-page : (t u : Table) (p : ℕ) → p < PAGES → ((q : ℕ) → q ≢ p → page u q ≡ page t q)
    → drop 3 (encode u) ≡ take (PAGE_WORDS * p) (drop 3 (encode t)) ++ (encode_page (page u p) ++ drop (PAGE_WORDS * p + PAGE_WORDS) (drop 3 (encode t)))
unfolding encode
encode-page t u p l h = recell encode_page no_page PAGE_WORDS size-page PAGES t.pages u.pages p l h

-- the words of page p
pub words-of-page : (t : Table) (p : ℕ) → p < PAGES → page_words (encode t) p ≡ encode_page (page t p)
unfolding encode
words-of-page t p l = rw (← drop-drop) (cell encode_page no_page PAGE_WORDS size-page PAGES t.pages p l)
