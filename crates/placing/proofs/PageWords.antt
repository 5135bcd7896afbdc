-- The steps on a page's words, where the words are those of a page.
use Prim.Native.Nat.{ℕ, zero, suc, ◌+◌, ◌*◌, ◌≤◌, ◌<◌}
use native.Mathlib.Omega.{arith}
use native.Mathlib.Numerals.{add-one}
use native.Mathlib.Decide.{dec_lt}
use mathlib.Core.Path.{◌≡◌, refl, sym, ap, ◌∙◌}
use mathlib.Core.Logic.{◌≢◌}
use mathlib.Core.List.{List, [], ◌∷◌, ◌++◌, append_assoc}
use lib.ListN.{length, get_or, take, drop, set, replicate, length-append, length-set, length-take, get_or-append, get_or-eq_default}
use lib.Seq.{sets, sets-eq, take-suc, take-length, get_or-set_same, get_or-set_other, get_or_at, set-set}
use Rattle.pages.specs.declared.Entry.{Entry}
use Rattle.pages.specs.Sizes.{PAGE_HEAD, FANOUT, ENTRY_WORDS, PAGE_WORDS}
use Rattle.pages.specs.Layout.{Page, page_of, no_entry, encode_entry, encode_page}
use Rattle.pages.specs.Readers.{entries_in}
use Rattle.pages.proofs.Round.{size-entry, size-page, count_word}
use Rattle.pages.proofs.Cells.{entry-in, entry-change}
use Rattle.pages.proofs.Over.{over, over-past}
use Rattle.placing.specs.Steps.{count_in, filled_in, entry_set, appended}

-- reading

module _ (g : Page) where
  entries-in : (n : ℕ) → n ≤ length g.entries → n ≤ FANOUT → entries_in (encode_page g) n ≡ take n g.entries
  unfolding entries_in
  entries-in zero l m = refl
  entries-in (suc n) l m =
      rw (entries-in n (omega arith) (omega arith), entry-in g n m) (sym (take-suc g.entries n no_entry l))

  pub all_in : length g.entries ≤ FANOUT → entries_in (encode_page g) (length g.entries) ≡ g.entries
  all_in l = entries-in (length g.entries) (omega arith) l ∙ take-length g.entries

  pub filled-in : length g.entries ≤ FANOUT → filled_in (encode_page g) ≡ g.entries
  filled-in l =
      let e : count_in (encode_page g) ≡ length g.entries = omega (arith, count_word g) in
      ap (entries_in (encode_page g)) e ∙ all_in l

-- writing

-- five words are written over those of place i
pub entry-over : (w : List ℕ) (i : ℕ) (e : Entry) → length w ≡ PAGE_WORDS → i < FANOUT → entry_set w i e ≡ over w (PAGE_HEAD + ENTRY_WORDS * i) (encode_entry e)
unfolding entry_set encode_entry
entry-over w i e l h =
    five (PAGE_HEAD + ENTRY_WORDS * i) ∙ (sets-eq (encode_entry e) w (PAGE_HEAD + ENTRY_WORDS * i) (omega arith) ∙ append_assoc (take (PAGE_HEAD + ENTRY_WORDS * i) w) (encode_entry e) _)
  where
    five : (a : ℕ) → set (set (set (set (set w a e.rect.x1) (a + 1) e.rect.y1) (a + 2) e.rect.x2) (a + 3) e.rect.y2) (a + 4) e.r ≡ sets w a (encode_entry e)
    five a =
        let e1 : a + 1 ≡ suc a = omega arith in
        let e2 : a + 2 ≡ suc (suc a) = omega arith in
        let e3 : a + 3 ≡ suc (suc (suc a)) = omega arith in
        let e4 : a + 4 ≡ suc (suc (suc (suc a))) = omega arith in
        rw (e1, e2, e3, e4)

-- the entry at place i is written, and the count is left: so of entries that are the same elsewhere
module _ (l : ℕ) (es fs : List Entry) (i : ℕ) (il : i < FANOUT) (h : (j : ℕ) → j ≢ i → get_or fs j no_entry ≡ get_or es j no_entry) where
  abbrev old : List ℕ
  old = encode_page (page_of l es)

  abbrev now : List ℕ
  now = set (encode_page (page_of l fs)) 1 (length es)

  abbrev x : Entry
  x = get_or fs i no_entry

  heads : take PAGE_HEAD now ≡ take PAGE_HEAD old
  unfolding encode_page
  heads = refl

  tails : drop PAGE_HEAD now ≡ over (drop PAGE_HEAD old) (ENTRY_WORDS * i) (encode_entry x)
  unfolding encode_page
  tails = entry-change (page_of l es) fs i il h ∙ rw (size-entry x)

  entry-put : entry_set old i x ≡ now
  entry-put =
      entry-over old i x (size-page (page_of l es)) il ∙ sym (over-past old now PAGE_HEAD (ENTRY_WORDS * i) (encode_entry x) heads tails)

set-count : (l m : ℕ) (fs : List Entry) → m ≡ length fs → set (encode_page (page_of l fs)) 1 m ≡ encode_page (page_of l fs)
unfolding encode_page
set-count l m fs e = rw e

-- the entry at a place that is filled is another
pub entry-set : (g : Page) (i : ℕ) (e : Entry) → i < length g.entries → length g.entries ≤ FANOUT
    → entry_set (encode_page g) i e ≡ encode_page (page_of g.level (set g.entries i e))
entry-set g i e il most =
    let fs : List Entry = set g.entries i e in
    let x : get_or fs i no_entry ≡ e = get_or-set_same g.entries i e no_entry il in
    ap (entry_set (encode_page g) i) (sym x)
    ∙ (entry-put g.level g.entries fs i (omega arith) (λ j n. get_or-set_other g.entries i j e no_entry n)
    ∙ set-count g.level (length g.entries) fs (sym (length-set g.entries i e)))

-- one element more: the others are the same
pub others_same : {A : Type 0} (xs : List A) (x d : A) (j : ℕ) → j ≢ length xs → get_or (xs ++ (x ∷ [])) j d ≡ get_or xs j d
others_same xs x d j n = go (dec_lt j (length xs))
  where
    go : Dec (j < length xs) → get_or (xs ++ (x ∷ [])) j d ≡ get_or xs j d
    go (yes l) = get_or-append xs (x ∷ []) d j l
    go (no l) =
        get_or-eq_default (xs ++ (x ∷ [])) d {n = j} (omega (arith, length-append xs (x ∷ [])))
        ∙ sym (get_or-eq_default xs d {n = j} (omega arith))

-- one entry more
pub appended-is : (g : Page) (e : Entry) → length g.entries < FANOUT → appended (encode_page g) e ≡ encode_page (page_of g.level (g.entries ++ (e ∷ [])))
unfolding appended
appended-is g e l =
    let es : List Entry = g.entries in
    let fs : List Entry = es ++ (e ∷ []) in
    let x : get_or fs (length es) no_entry ≡ e = get_or_at es e [] no_entry (length es) refl in
    let put : entry_set (encode_page g) (length es) e ≡ set (encode_page (page_of g.level fs)) 1 (length es) =
    ap (entry_set (encode_page g) (length es)) (sym x) ∙ entry-put g.level es fs (length es) l (others_same es e no_entry) in
    ap (λ n. set (entry_set (encode_page g) n e) 1 (n + 1)) (count_word g)
    ∙ (ap (λ w. set w 1 (length es + 1)) put
    ∙ (set-set (encode_page (page_of g.level fs)) 1 (length es) (length es + 1)
    ∙ set-count g.level (length es + 1) fs (sym (length-append es (e ∷ [])))))

-- a page is written: first its level over zeros, then one entry more each time
pub written_none : (w : List ℕ) (l : ℕ) → w ≡ replicate PAGE_WORDS 0 → set w 0 l ≡ encode_page (page_of l [])
unfolding encode_page encode_entry
written_none w l e = ap (λ v. set v 0 l) e

pub written-room : (w : List ℕ) (i l : ℕ) (es : List Entry) → i < length es → length es ≤ FANOUT → w ≡ encode_page (page_of l (take i es)) → get_or w 1 0 < FANOUT
written-room w i l es h k p = omega (arith, ap (λ v. get_or v 1 0) p, count_word (page_of l (take i es)), length-take i es)

pub written-more : (w v : List ℕ) (i l : ℕ) (es : List Entry) → i < length es → length es ≤ FANOUT → w ≡ encode_page (page_of l (take i es)) → v ≡ appended w (get_or es i no_entry)
    → v ≡ encode_page (page_of l (take (i + 1) es))
written-more w v i l es h k p q =
    q ∙ (ap (λ x. appended x (get_or es i no_entry)) p ∙ (appended-is (page_of l (take i es)) (get_or es i no_entry) (omega (arith, length-take i es))
    ∙ ap (λ fs. encode_page (page_of l fs)) (sym (rw add-one (take-suc es i no_entry h)))))
