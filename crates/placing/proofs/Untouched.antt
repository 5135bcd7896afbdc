-- "Only words 0 to 2 and the pages on the path or newly made may change": every other page has its words as before.
use Prim.Native.Nat.{ℕ, zero, suc, ◌≤◌, ◌<◌}
use native.Mathlib.Omega.{arith}
use native.Mathlib.Nat.{le_trans}
use mathlib.Core.Path.{◌≡◌, refl, sym, ap, ◌∙◌}
use mathlib.Core.Logic.{◌≢◌}
use mathlib.Core.Bool.{Bool, true, false, cond}
use mathlib.Core.List.{List, [], ◌∷◌, ◌++◌}
use lib.ListN.{length, get_or, take, drop, set, length-append, length-set, get_or-append, get_or-eq_default}
use lib.Seq.{get_or-set_other, drop_at}
use lib.Dec.{T, leb}
use Rattle.pages.specs.Lists.{Every}
use Rattle.pages.specs.declared.Rect.{Rect}
use Rattle.pages.specs.declared.Entry.{Entry}
use Rattle.pages.specs.Sizes.{FANOUT, PAGES, TABLE_WORDS}
use Rattle.pages.specs.Rectangles.{entry_of}
use Rattle.pages.specs.Layout.{Page, Table, page_of, table_of, no_entry, no_page, page_at, page, encode, encode_page, page_words, table_in}
use Rattle.pages.specs.Sound.{sound}
use Rattle.pages.proofs.Round.{length-encode}
use Rattle.pages.proofs.Whole.{sound-in}
use Rattle.placing.specs.Place.{STAY, Step, step_of, choose, ordered, fill, renew, down, new_root, place, path_from, path}
use Rattle.placing.specs.Calls.{placed_words}
use Rattle.placing.proofs.Adding.{fill-grows}
use Rattle.placing.proofs.TableWords.{tabled, tabled-in, page-words}

-- filling page p leaves every other page
fill-other : (p : ℕ) (es : List Entry) (ps : List Page) (q : ℕ) → q < length ps → q ≢ p → page_at (fill p es ps).pages q ≡ page_at ps q
unfolding fill
fill-other p es ps q l n = go (leb (length es) FANOUT)
  where
    go : (b : Bool)
        → page_at (cond b (step_of (set ps p (page_of (page_at ps p).level es)) false)
        (step_of (set ps p (page_of (page_at ps p).level (take STAY (ordered es))) ++ (page_of (page_at ps p).level (drop STAY (ordered es)) ∷ [])) true)).pages q ≡ page_at ps q
    go true = get_or-set_other ps p q (page_of (page_at ps p).level es) no_page n
    go false =
        let first : Page = page_of (page_at ps p).level (take STAY (ordered es)) in
        let rest : List Page = page_of (page_at ps p).level (drop STAY (ordered es)) ∷ [] in
        get_or-append (set ps p first) rest no_page q (omega (arith, length-set ps p first)) ∙ get_or-set_other ps p q first no_page n

down-grows : (l p : ℕ) (e : Entry) (ps : List Page) → length ps ≤ length (down l p e ps).pages
unfolding down
down-grows zero p e ps = fill-grows p ((page_at ps p).entries ++ (e ∷ [])) ps
down-grows (suc l) p e ps =
    let es : List Entry = (page_at ps p).entries in
    let i : ℕ = choose e.rect es in
    let s : Step = down l (get_or es i no_entry).r e ps in
    le_trans (down-grows l (get_or es i no_entry).r e ps) (fill-grows p (renew es i s) s.pages)

down-other : (l p : ℕ) (e : Entry) (ps : List Page) (q : ℕ) → q < length ps → Every (λ x. q ≢ x) (path_from l p e.rect ps)
    → page_at (down l p e ps).pages q ≡ page_at ps q
unfolding down path_from
down-other zero p e ps q l n = fill-other p ((page_at ps p).entries ++ (e ∷ [])) ps q l n.0
down-other (suc k) p e ps q l n =
    let es : List Entry = (page_at ps p).entries in
    let i : ℕ = choose e.rect es in
    let s : Step = down k (get_or es i no_entry).r e ps in
    fill-other p (renew es i s) s.pages q (omega (arith, down-grows k (get_or es i no_entry).r e ps)) n.0
    ∙ down-other k (get_or es i no_entry).r e ps q l n.1

module _ (t : Table) (n : ℕ) (r : Rect) where
  abbrev s : Step
  s = down (page t t.root).level t.root (entry_of r n) t.pages

  -- the table, by whether the root was split
  abbrev made : Bool → Table
  made b = cond b (table_of (length s.pages) (suc t.count) (new_root t.root s.pages)) (table_of t.root (suc t.count) s.pages)

  grows : length t.pages ≤ length s.pages
  grows = down-grows (page t t.root).level t.root (entry_of r n) t.pages

  place_other : (q : ℕ) → q < length t.pages → Every (λ x. q ≢ x) (path t r) → page (place t n r) q ≡ page t q
  unfolding place new_root
  place_other q l h = go s.split
    where
      same : page_at s.pages q ≡ page t q
      same = down-other (page t t.root).level t.root (entry_of r n) t.pages q l h

      go : (b : Bool) → page (made b) q ≡ page t q
      go true = get_or-append s.pages _ no_page q (omega (arith, grows)) ∙ same
      go false = same

  place-grows : length t.pages ≤ length (place t n r).pages
  unfolding place new_root
  place-grows = go s.split
    where
      go : (b : Bool) → length t.pages ≤ length (made b).pages
      go true = simp length-append (omega (arith, grows))
      go false = grows

  -- from the new page count on there is no page, now or before
  place-later : (q : ℕ) → length (place t n r).pages ≤ q → page (place t n r) q ≡ page t q
  place-later q l =
      get_or-eq_default (place t n r).pages no_page {n = q} l
      ∙ sym (get_or-eq_default t.pages no_page {n = q} (le_trans place-grows l))

module _ (w : List ℕ) (n : ℕ) (r : Rect) (wl : TABLE_WORDS ≤ length w) (h : T (sound w)) where
  placed-words : placed_words w n r ≡ tabled (place (table_in w) n r).root (place (table_in w) n r).count (place (table_in w) n r).pages (drop TABLE_WORDS w)
  unfolding placed_words tabled
  placed-words = refl

  same-words : (q : ℕ) → q < PAGES → page (place (table_in w) n r) q ≡ page (table_in w) q → page_words (placed_words w n r) q ≡ page_words w q
  same-words q below same =
      ap (λ v. page_words v q) placed-words
      ∙ (page-words (place (table_in w) n r).root (place (table_in w) n r).count (place (table_in w) n r).pages (drop TABLE_WORDS w) q below
      ∙ (ap encode_page same
      ∙ (sym (page-words (table_in w).root (table_in w).count (table_in w).pages (drop TABLE_WORDS w) q below)
      ∙ ap (λ v. page_words v q) (sym (tabled-in w wl h)))))

  -- a page that is not on the path has its words as before
  pub page-untouched : (q : ℕ) → q < length (table_in w).pages → Every (λ x. q ≢ x) (path (table_in w) r) → page_words (placed_words w n r) q ≡ page_words w q
  page-untouched q l out = same-words q (omega (arith, (sound-in w h).most)) (place_other (table_in w) n r q l out)

  -- and so has one from the new page count on
  pub later-untouched : (q : ℕ) → length (place (table_in w) n r).pages ≤ q → q < PAGES → page_words (placed_words w n r) q ≡ page_words w q
  later-untouched q l below = same-words q below (place-later (table_in w) n r q l)

-- and so have the words after the table
pub rest-untouched : (w : List ℕ) (n : ℕ) (r : Rect) → drop TABLE_WORDS (placed_words w n r) ≡ drop TABLE_WORDS w
unfolding placed_words
rest-untouched w n r = drop_at (encode (place (table_in w) n r)) (drop TABLE_WORDS w) TABLE_WORDS (length-encode (place (table_in w) n r))
