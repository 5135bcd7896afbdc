-- The steps on words are the steps on pages.
use Prim.Native.Nat.{ℕ, ◌+◌, ◌-◌, ◌≤◌, ◌<◌}
use native.Mathlib.Omega.{arith}
use native.Mathlib.Decide.{dec_lt}
use mathlib.Core.Path.{◌≡◌, refl, sym, ap, ◌∙◌, subst}
use mathlib.Core.Bool.{Bool, true, false, cond}
use Rattle.std.specs.Prelude.{Option, Some, None}
use mathlib.Core.List.{List, [], ◌∷◌, ◌++◌}
use lib.ListN.{length, get_or, take, drop, set, length-append, length-set}
use lib.Dec.{ltb}
use borrow.Author.Tests.{lt-ltb, le-ltb, le-leb, lt-leb}
use Rattle.pages.specs.declared.Entry.{Entry}
use Rattle.pages.specs.Sizes.{FANOUT, PAGES}
use Rattle.pages.specs.Layout.{Page, page_of, page_at, encode_page, page_words}
use Rattle.pages.specs.Readers.{entries_in}
use Rattle.pages.proofs.Round.{level-word, count_word}
use Rattle.placing.specs.Place.{ordered, STAY, Step, step_of, fill}
use Rattle.pages.specs.Writes.{put_page}
use Rattle.placing.specs.Steps.{appended, split_into, Written, add_to}
use Rattle.placing.proofs.PageWords.{all_in, appended-is}
use Rattle.placing.proofs.TableWords.{tabled, pages-word, page-words, page-set, page-append}

-- the page that a step split off, if one was, is the last
abbrev pub part : Bool → List Page → Option ℕ
part b ps = cond b (Some (length ps - 1)) None

-- the words of a step
abbrev pub written : ℕ → ℕ → List ℕ → Step → Written
written a c rest s = (part s.split s.pages, tabled a c s.pages rest)

-- the definitions, one step opened

add_open : (t : List ℕ) (p : ℕ) (e : Entry) → add_to t p e
    ≡ cond (ltb (get_or (page_words t p) 1 0) FANOUT) (None, put_page t p (appended (page_words t p) e))
    (cond (ltb (get_or t 0 0) PAGES) (Some (get_or t 0 0), set (split_into t p (get_or t 0 0) e) 0 (get_or t 0 0 + 1)) (None, t))
unfolding add_to
add_open t p e = refl

split-open : (t : List ℕ) (p k : ℕ) (e : Entry) → split_into t p k e
    ≡ put_page (put_page t p (encode_page (page_of (get_or (page_words t p) 0 0) (take STAY (ordered (entries_in (page_words t p) FANOUT ++ (e ∷ []))))))) k
    (encode_page (page_of (get_or (page_words t p) 0 0) (drop STAY (ordered (entries_in (page_words t p) FANOUT ++ (e ∷ []))))))
unfolding split_into
split-open t p k e = refl

pub fill-kept : (p : ℕ) (es : List Entry) (ps : List Page) → length es ≤ FANOUT → fill p es ps ≡ step_of (set ps p (page_of (page_at ps p).level es)) false
unfolding fill
fill-kept p es ps l = rw (le-leb (length es) FANOUT l)

fill-cut : (p : ℕ) (es : List Entry) (ps : List Page) → FANOUT < length es
    → fill p es ps ≡ step_of (set ps p (page_of (page_at ps p).level (take STAY (ordered es))) ++ (page_of (page_at ps p).level (drop STAY (ordered es)) ∷ [])) true
unfolding fill
fill-cut p es ps l = rw (lt-leb (length es) FANOUT l)

-- filling a page takes no page away
pub fill-grows : (p : ℕ) (es : List Entry) (ps : List Page) → length ps ≤ length (fill p es ps).pages
fill-grows p es ps = go (dec_lt FANOUT (length es))
  where
    go : Dec (FANOUT < length es) → length ps ≤ length (fill p es ps).pages
    go (yes h) =
        let low : List Page = set ps p (page_of (page_at ps p).level (take STAY (ordered es))) in
        let high : Page = page_of (page_at ps p).level (drop STAY (ordered es)) in
        omega (arith, ap (λ s. length s.pages) (fill-cut p es ps h), length-append low (high ∷ []), length-set ps p (page_of (page_at ps p).level (take STAY (ordered es))))
    go (no h) = omega (arith, ap (λ s. length s.pages) (fill-kept p es ps (omega arith)), length-set ps p (page_of (page_at ps p).level es))

-- one entry more in page p
module _ (a c : ℕ) (ps : List Page) (rest : List ℕ) (p : ℕ) (e : Entry) (pl : p < length ps) (small : p < PAGES) where
  abbrev g : Page
  g = page_at ps p

  abbrev w : List ℕ
  w = tabled a c ps rest

  abbrev es : List Entry
  es = g.entries ++ (e ∷ [])

  add_kept : length g.entries < FANOUT → add_to w p e ≡ (None, tabled a c (set ps p (page_of g.level es)) rest)
  add_kept l = add_open w p e ∙ rw (page-words a c ps rest p small, count_word g, lt-ltb (length g.entries) FANOUT l, appended-is g e l, page-set a c ps rest p (page_of g.level es) pl small)

  abbrev low : Page
  low = page_of g.level (take STAY (ordered es))

  abbrev high : Page
  high = page_of g.level (drop STAY (ordered es))

  split-is : length g.entries ≡ FANOUT → split_into w p (length ps) e ≡ put_page (tabled a c (set ps p low) rest) (length ps) (encode_page high)
  split-is f =
      let all8 : entries_in (encode_page g) FANOUT ≡ g.entries = ap (entries_in (encode_page g)) (sym f) ∙ all_in g (omega arith) in
      split-open w p (length ps) e ∙ rw (page-words a c ps rest p small, level-word g, all8, page-set a c ps rest p low pl small)

  add-cut : length g.entries ≡ FANOUT → length ps < PAGES → add_to w p e ≡ (Some (length ps), tabled a c (set ps p low ++ (high ∷ [])) rest)
  add-cut f l =
      let k : length (set ps p low) ≡ length ps = length-set ps p low in
      let more : set (put_page (tabled a c (set ps p low) rest) (length ps) (encode_page high)) 0 (length ps + 1) ≡ tabled a c (set ps p low ++ (high ∷ [])) rest =
      subst (λ m. set (put_page (tabled a c (set ps p low) rest) m (encode_page high)) 0 (m + 1) ≡ tabled a c (set ps p low ++ (high ∷ [])) rest) k
      (page-append a c (set ps p low) rest high (omega arith)) in
      add_open w p e ∙ rw (page-words a c ps rest p small, count_word g, le-ltb (length g.entries) FANOUT (omega arith), pages-word a c ps rest, lt-ltb (length ps) PAGES l, split-is f, more)

  pub add-fill : length g.entries ≤ FANOUT → length (fill p es ps).pages ≤ PAGES → add_to w p e ≡ written a c rest (fill p es ps)
  add-fill eight most = go (dec_lt (length g.entries) FANOUT)
    where
      go : Dec (length g.entries < FANOUT) → add_to w p e ≡ written a c rest (fill p es ps)
      go (yes l) = add_kept l ∙ ap (written a c rest) (sym (fill-kept p es ps (omega (arith, length-append g.entries (e ∷ [])))))
      go (no l) =
          let s : fill p es ps ≡ step_of (set ps p low ++ (high ∷ [])) true = fill-cut p es ps (omega (arith, length-append g.entries (e ∷ []))) in
          let k : length ps ≡ length (set ps p low ++ (high ∷ [])) - 1 = omega (arith, length-append (set ps p low) (high ∷ []), length-set ps p low) in
          add-cut (omega arith) (omega (arith, ap (λ x. length x.pages) s, length-append (set ps p low) (high ∷ []), length-set ps p low))
          ∙ (ap (λ n. (Some n, tabled a c (set ps p low ++ (high ∷ [])) rest)) k ∙ ap (written a c rest) (sym s))
