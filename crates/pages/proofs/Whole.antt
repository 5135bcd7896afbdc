-- The words of a table that has the facts are sound, and read back as the table.
use Prim.Native.Nat.{ℕ, zero, suc, ◌+◌, ◌*◌, ◌≤◌, ◌<◌}
use native.Mathlib.Omega.{arith}
use native.Mathlib.Nat.{le_of_suc-le-suc, not-suc-le-zero, mul-zero}
use mathlib.Core.Path.{◌≡◌, refl, sym, ap, ◌∙◌, subst}
use mathlib.Core.Bool.{◌&&◌}
use mathlib.Core.List.{List, [], ◌∷◌, ◌++◌}
use lib.ListN.{length, get_or, take, drop, replicate, length-take}
use lib.Seq.{take_at, drop_at, drop-drop, drop-append-add}
use lib.Dec.{T}
use Rattle.pages.specs.declared.Entry.{Entry}
use Rattle.pages.specs.Sizes.{PAGE_HEAD, FANOUT, ENTRY_WORDS, PAGE_WORDS, PAGES, TABLE_WORDS}
use Rattle.pages.specs.Lists.{all_of, Every}
use Rattle.pages.specs.Layout.{Page, Table, table_of, no_entry, no_page, page, pack, unpack, encode_entry, encode_page, encode, decode_entry, decode_page, decode, page_words, table_in}
use Rattle.pages.specs.Sound.{sound_table, zeros, sound_blank, sound}
use Rattle.pages.proofs.Lists.{both, and, all-of, below_all, at_every}
use Rattle.pages.proofs.Facts.{Facts, facts, sound-of}
use Rattle.pages.proofs.Round.{pack-blank, size-entry, size-page, count_word, blank-entry, blank-page, length-encode, encode-decode, words-of-page}

zeros-replicate : (n : ℕ) → T (zeros (replicate n 0))
zeros-replicate zero = tt
zeros-replicate (suc n) = zeros-replicate n

module _ {A : Type 0} (f : A → List ℕ) (b : A) (w : ℕ) (size : (x : A) → length (f x) ≡ w) (g : List ℕ → A) (zeroes : f b ≡ replicate w 0) where
  -- what was packed is read back
  pub unpack-pack : (n : ℕ) (xs : List A) → length xs ≤ n → Every (λ x. g (f x) ≡ x) xs → unpack g w (length xs) (pack f b n xs) ≡ xs
  unpack-pack n [] l h = refl
  unpack-pack zero (x ∷ xs) l h = absurd (not-suc-le-zero l)
  unpack-pack (suc n) (x ∷ xs) l h =
      rw (take_at (f x) (pack f b n xs) w (size x), drop_at (f x) (pack f b n xs) w (size x), h.0, unpack-pack n xs (le_of_suc-le-suc l) h.1)

  -- and past the list there are zeros
  pub pack-rest : (n : ℕ) (xs : List A) → length xs ≤ n → T (zeros (drop (w * length xs) (pack f b n xs)))
  pack-rest n [] l =
      let e : w * 0 ≡ 0 = mul-zero w in
      rw (e, pack-blank f b w size g zeroes n) (zeros-replicate (w * n))
  pack-rest zero (x ∷ xs) l = absurd (not-suc-le-zero l)
  pack-rest (suc n) (x ∷ xs) l =
      let e : w * suc (length xs) ≡ length (f x) + w * length xs = omega (arith, size x) in
      rw (e, drop-append-add) (pack-rest n xs (le_of_suc-le-suc l))

pub entry-back : (e : Entry) → decode_entry (encode_entry e) ≡ e
unfolding decode_entry encode_entry
entry-back e = refl

page-back : (p : Page) → length p.entries ≤ 8 → decode_page (encode_page p) ≡ p
unfolding decode_page encode_page
page-back p l =
    let r =
    unpack-pack encode_entry no_entry ENTRY_WORDS size-entry decode_entry blank-entry FANOUT p.entries l
    (at_every (λ x. decode_entry (encode_entry x) ≡ x) p.entries no_entry (λ i k. entry-back (get_or p.entries i no_entry))) in
    ap (λ es. record { level = p.level; entries = es }) r

-- of any table that fits the words, also one that is not sound yet
pub decode-encode-of : (t : Table) → length t.pages ≤ PAGES → ((p : ℕ) → p < length t.pages → length (page t p).entries ≤ 8) → decode (encode t) ≡ t
unfolding decode encode
decode-encode-of t most eight =
    let r = unpack-pack encode_page no_page PAGE_WORDS size-page decode_page blank-page PAGES t.pages most
    (at_every (λ x. decode_page (encode_page x) ≡ x) t.pages no_page (λ i k. page-back (page t i) (eight i k))) in
    ap (λ ps. table_of t.root t.count ps) r

pub decode-encode : (t : Table) → Facts t → decode (encode t) ≡ t
decode-encode t F = decode-encode-of t F.most F.eight

page-rest : (p : Page) → length p.entries ≤ 8 → T (zeros (drop (PAGE_HEAD + ENTRY_WORDS * length p.entries) (encode_page p)))
unfolding encode_page
page-rest p l = rw (← drop-drop) (pack-rest encode_entry no_entry ENTRY_WORDS size-entry decode_entry blank-entry FANOUT p.entries l)

blank-encode : (t : Table) → Facts t → T (all_of (sound_blank (encode t)))
unfolding sound_blank encode
blank-encode t F = all-of (sound_blank (encode t)) (
  below_all (length t.pages) (λ p. zeros (drop (PAGE_HEAD + ENTRY_WORDS * get_or (page_words (encode t) p) 1 0) (page_words (encode t) p)))
      (λ p l. rw (words-of-page t p (omega (arith, F.most)), count_word (page t p)) (page-rest (page t p) (F.eight p l))),
  (rw (← drop-drop) (pack-rest encode_page no_page PAGE_WORDS size-page decode_page blank-page PAGES t.pages F.most), tt),
)

sound-from : (w v : List ℕ) → take TABLE_WORDS w ≡ v → T (sound_table (decode v)) → T (all_of (sound_blank v)) → T (sound w)
unfolding sound
sound-from w v e a b = subst (λ x. T (sound_table (decode x) && all_of (sound_blank x))) (sym e) (and (sound_table (decode v)) (all_of (sound_blank v)) a b)

pub sound-encode : (t : Table) (rest : List ℕ) → Facts t → T (sound (encode t ++ rest))
sound-encode t rest F = sound-from (encode t ++ rest) (encode t) (take_at (encode t) rest TABLE_WORDS (length-encode t))
    (subst (λ x. T (sound_table x)) (sym (decode-encode t F)) (sound-of t F)) (blank-encode t F)

-- read back from the words at the start of a slice
pub encode-in : (t : Table) (rest : List ℕ) → Facts t → table_in (encode t ++ rest) ≡ t
unfolding table_in
encode-in t rest F = ap decode (take_at (encode t) rest TABLE_WORDS (length-encode t)) ∙ decode-encode t F

pub sound-in : (w : List ℕ) → T (sound w) → Facts (table_in w)
unfolding sound table_in
sound-in w h = facts (decode (take TABLE_WORDS w)) (both (sound_table (decode (take TABLE_WORDS w))) _ h).0

pub sound-is : (w : List ℕ) → TABLE_WORDS ≤ length w → T (sound w) → encode (table_in w) ≡ take TABLE_WORDS w
unfolding sound table_in
sound-is w l h =
    let b = both (sound_table (decode (take TABLE_WORDS w))) _ h in
    encode-decode (take TABLE_WORDS w) (omega (arith, length-take TABLE_WORDS w)) b.0 b.1
