-- An accepted call on words is placing in the table, keeps the words sound and their number.
use Prim.Native.Nat.{ℕ, suc, ◌+◌, ◌-◌, ◌≤◌, ◌<◌}
use native.Mathlib.Omega.{arith}
use mathlib.Core.Path.{◌≡◌, refl, sym, ap, ◌∙◌, subst}
use mathlib.Core.Bool.{Bool, true, false, cond}
use mathlib.Core.List.{List, [], ◌∷◌, ◌++◌}
use lib.ListN.{length, get_or, drop, set, length-append, length-drop}
use lib.Dec.{T, ltb}
use borrow.Author.Tests.{lt-ltb}
use Rattle.pages.specs.declared.Rect.{Rect}
use Rattle.pages.specs.declared.Entry.{Entry}
use Rattle.pages.specs.Sizes.{FANOUT, PIECES, PAGES, TABLE_WORDS, TOP_LEVEL}
use Rattle.pages.specs.Lists.{sum, sum_below}
use Rattle.pages.specs.Rectangles.{entry_of, valid}
use Rattle.pages.specs.Layout.{Page, Table, page_of, table_of, no_page, page_at, page, encode_page, encode, page_words, table_in}
use Rattle.pages.specs.Sound.{leaf, piece_entries, is, stored, sound}
use Rattle.pages.proofs.Lists.{sum-cond}
use Rattle.pages.proofs.Below.{below-same, sum-places}
use Rattle.pages.proofs.Facts.{Facts}
use Rattle.pages.proofs.Entries.{leaves}
use Rattle.pages.proofs.Cells.{page-in}
use Rattle.pages.proofs.Round.{level-word, length-encode}
use Rattle.pages.proofs.Whole.{sound-encode, encode-in, sound-in}
use Rattle.pages.proofs.Counting.{count-few}
use Rattle.soundness.proofs.Words as slice
use Rattle.placing.specs.Place.{Step, entry_for, new_root, place}
use Rattle.placing.specs.Calls.{placed_words}
use Rattle.placing.specs.Claims.{held}
use Rattle.pages.specs.Writes.{put_page}
use Rattle.placing.specs.Steps.{Written, entry_for_in, place_at, root_made, topped, place_in, held_in, held_below}
use Rattle.placing.proofs.Placed.{before, root_step, root-after, place-sound, place-holds}
use Rattle.placing.proofs.PageWords.{filled-in}
use Rattle.placing.proofs.TableWords.{tabled, tabled-in, pages-word, root-word, pieces-word, page-words, entry-for, root-set, pieces-set, page-append}
use Rattle.placing.proofs.Adding.{part}
use Rattle.placing.proofs.Descent.{place_down}

-- the definitions, one step opened

root-open : (t : List ℕ) (r q level : ℕ) → root_made t r q level
    ≡ cond (ltb (get_or t 0 0) PAGES)
    (set (set (put_page t (get_or t 0 0) (encode_page (page_of level (entry_for_in t r ∷ entry_for_in t q ∷ [])))) 0 (get_or t 0 0 + 1)) 1 (get_or t 0 0)) t
unfolding root_made
root-open t r q level = refl

new-open : (r : ℕ) (ps : List Page) → new_root r ps ≡ ps ++ (page_of (suc (page_at ps r).level) (entry_for r ps ∷ entry_for (length ps - 1) ps ∷ []) ∷ [])
unfolding new_root
new-open r ps = refl

-- of a written table the rest of the call
abbrev finished : ℕ → ℕ → ℕ → Written → List ℕ
finished root level c s = set (topped root level s.0 s.1) 2 (c + 1)

in-open : (t : List ℕ) (n : ℕ) (r : Rect) → place_in t n r
    ≡ finished (get_or t 1 0) (get_or (page_words t (get_or t 1 0)) 0 0) (get_or t 2 0) (place_at (get_or (page_words t (get_or t 1 0)) 0 0) t (get_or t 1 0) (entry_of r n))
unfolding place_in
in-open t n r = refl

abbrev stepped : Table → List Page → Bool → Table
stepped t ps b = cond b (table_of (length ps) (suc t.count) (new_root t.root ps)) (table_of t.root (suc t.count) ps)

place-open : (t : Table) (n : ℕ) (r : Rect) → let s : Step = root_step t n r in
    place t n r ≡ stepped t s.pages s.split
unfolding place
place-open t n r = refl

pub words_open : (w : List ℕ) (n : ℕ) (r : Rect) → placed_words w n r ≡ encode (place (table_in w) n r) ++ drop TABLE_WORDS w
unfolding placed_words
words_open w n r = refl

-- a split root gets a new root
root-made : (a c : ℕ) (ps : List Page) (rest : List ℕ) (r level : ℕ) → r < length ps → length ps < PAGES → ((q : ℕ) → q < length ps → length (page_at ps q).entries ≤ FANOUT)
    → level ≡ (page_at ps r).level
    → root_made (tabled a c ps rest) r (length ps - 1) (level + 1) ≡ tabled (length ps) c (new_root r ps) rest
root-made a c ps rest r level rl most eight lv =
    let w : List ℕ = tabled a c ps rest in
    let k : ℕ = length ps in
    let top : Page = page_of (suc (page_at ps r).level) (entry_for r ps ∷ entry_for (k - 1) ps ∷ []) in
    let lv' : level + 1 ≡ suc (page_at ps r).level = omega arith in
    let e1 : entry_for_in w r ≡ entry_for r ps = entry-for a c ps rest r (omega arith) (eight r rl) in
    let e2 : entry_for_in w (k - 1) ≡ entry_for (k - 1) ps = entry-for a c ps rest (k - 1) (omega arith) (eight (k - 1) (omega arith)) in
    root-open w r (length ps - 1) (level + 1)
    ∙ rw (pages-word a c ps rest, lt-ltb k PAGES most, e1, e2, lv', page-append a c ps rest top most, root-set a c (ps ++ (top ∷ [])) rest k, new-open r ps)

new-length : (r : ℕ) (ps : List Page) → length (new_root r ps) ≡ length ps + 1
new-length r ps = ap length (new-open r ps) ∙ length-append ps (page_of (suc (page_at ps r).level) (entry_for r ps ∷ entry_for (length ps - 1) ps ∷ []) ∷ [])

stepped-grows : (t : Table) (ps : List Page) (b : Bool) → length ps ≤ length (stepped t ps b).pages
stepped-grows t ps true = omega (arith, new-length t.root ps)
stepped-grows t ps false = omega arith

-- the step left the pages ps
module _ (t : Table) (rest : List ℕ) (ps : List Page) (rl : t.root < length ps) (eight : (q : ℕ) → q < length ps → length (page_at ps q).entries ≤ FANOUT)
    (level : ℕ) (lv : level ≡ (page_at ps t.root).level) where
  one_more : t.count + 1 ≡ suc t.count
  one_more = omega arith

  finish : (b : Bool) → length (stepped t ps b).pages ≤ PAGES → finished t.root level t.count (part b ps, tabled t.root t.count ps rest) ≡ encode (stepped t ps b) ++ rest
  unfolding tabled
  finish true most =
      ap (λ w. set w 2 (t.count + 1)) (root-made t.root t.count ps rest t.root level rl (omega (arith, new-length t.root ps)) eight lv)
      ∙ (pieces-set (length ps) t.count (new_root t.root ps) rest (t.count + 1) ∙ ap (λ c. tabled (length ps) c (new_root t.root ps) rest) one_more)
  finish false most = pieces-set t.root t.count ps rest (t.count + 1) ∙ ap (λ c. tabled t.root c ps rest) one_more

-- the call on the words of a table that is sound
module _ (t : Table) (F : Facts t) (rest : List ℕ) (n : ℕ) (r : Rect) (most : length (place t n r).pages ≤ PAGES) where
  abbrev level : ℕ
  level = (page_at t.pages t.root).level

  abbrev s : Step
  s = root_step t n r

  abbrev w : List ℕ
  w = tabled t.root t.count t.pages rest

  opened : place_in w n r ≡ finished t.root level t.count (place_at level w t.root (entry_of r n))
  opened =
      let e1 : get_or w 1 0 ≡ t.root = root-word t.root t.count t.pages rest in
      let e2 : get_or w 2 0 ≡ t.count = pieces-word t.root t.count t.pages rest in
      let e3 : get_or (page_words w t.root) 0 0 ≡ level = ap (λ v. get_or v 0 0) (page-words t.root t.count t.pages rest t.root (omega (arith, F.top, F.most))) ∙ level-word (page_at t.pages t.root) in
      in-open w n r ∙ rw (e1, e2, e3)

  placed-words : place_in w n r ≡ encode (place t n r) ++ rest
  placed-words =
      let A = root-after t n r F in
      let o : place t n r ≡ stepped t s.pages s.split = place-open t n r in
      let fits : length (stepped t s.pages s.split).pages ≤ PAGES = omega (arith, ap (λ x. length x.pages) o) in
      let few : length s.pages ≤ PAGES = omega (arith, stepped-grows t s.pages s.split) in
      opened
      ∙ (ap (finished t.root level t.count) (place_down t.root t.count rest level t.root (entry_of r n) t.pages (before t F) F.top refl few)
      ∙ (finish t rest s.pages (omega (arith, F.top, A.grown)) A.eight level (sym (A.kept t.root F.top)) s.split fits
      ∙ ap (λ x. encode x ++ rest) (sym o)))

-- the head of a slice that has a sound table in it
module _ (w : List ℕ) (wl : TABLE_WORDS ≤ length w) (h : T (sound w)) where
  abbrev table : Table
  table = table_in w

  F : Facts table
  F = sound-in w h

  level_in : get_or (page_words w (get_or w 1 0)) 0 0 ≡ (page table table.root).level
  level_in = ap (λ p. get_or (page_words w p) 0 0) (sym (slice.root-word w wl)) ∙ sym (slice.level-word w wl table.root F.top F.most)

  -- what the functions on words ask for
  pub head_in : (get_or w 0 0 ≤ PAGES) × (get_or w 1 0 < PAGES) × (get_or (page_words w (get_or w 1 0)) 0 0 ≤ TOP_LEVEL) × (get_or w 2 0 ≤ PIECES)
  head_in =
      omega (arith, slice.pages-word w wl, slice.root-word w wl, slice.pieces-word w wl, level_in, F.most, F.top, F.levels table.root F.top, count-few table F)

-- an accepted call
module _ (w : List ℕ) (n : ℕ) (r : Rect) (wl : TABLE_WORDS ≤ length w) (h : T (sound w)) (vr : T (valid r)) (vn : n < PIECES) (free : stored (table_in w) n ≡ 0) where
  left : Facts (place (table_in w) n r)
  left = place-sound (table_in w) n r (sound-in w h) vr vn free

  pub placed-in : place_in w n r ≡ placed_words w n r
  placed-in = ap (λ v. place_in v n r) (tabled-in w wl h) ∙ (placed-words (table_in w) (sound-in w h) (drop TABLE_WORDS w) n r left.most ∙ sym (words_open w n r))

  pub place-keeps : T (sound (placed_words w n r)) × (length (placed_words w n r) ≡ length w)
  place-keeps = (
    subst (λ v. T (sound v)) (sym (words_open w n r)) (sound-encode (place (table_in w) n r) (drop TABLE_WORDS w) left),
    ap length (words_open w n r) ∙ omega (arith, length-append (encode (place (table_in w) n r)) (drop TABLE_WORDS w), length-encode (place (table_in w) n r), length-drop TABLE_WORDS w),
  )

-- the new piece, and what was held before
pub words-hold : (w : List ℕ) (n : ℕ) (r : Rect) → T (sound w) → T (valid r) → n < PIECES → stored (table_in w) n ≡ 0 → (f : Entry → ℕ) → held f (placed_words w n r) ≡ f (entry_of r n) + held f w
words-hold w n r h vr vn free f =
    let t : Table = table_in w in
    let F : Facts t = sound-in w h in
    ap (λ x. leaves f x.pages) (ap table_in (words_open w n r) ∙ encode-in (place t n r) (drop TABLE_WORDS w) (place-sound t n r F vr vn free))
    ∙ place-holds t n r F vr vn free f

-- what the leaves hold
held-page : (g : Page) (c : ℕ) → length g.entries ≤ FANOUT → held_in (encode_page g) c ≡ sum (is c) (piece_entries g)
unfolding held_in
held-page g c l = rw (level-word g) (ap (λ es. cond (leaf g) (sum (is c) es) 0) (filled-in g l) ∙ sym (sum-cond (is c) (leaf g) g.entries))

below-open : (t : List ℕ) (c k : ℕ) → held_below t c k ≡ sum_below k (λ p. held_in (page_words t p) c)
unfolding held_below
below-open t c k = refl

pub held-in : (w : List ℕ) (c : ℕ) → TABLE_WORDS ≤ length w → T (sound w) → held_below w c (get_or w 0 0) ≡ stored (table_in w) c
held-in w c wl h =
    let t : Table = table_in w in
    let F : Facts t = sound-in w h in
    below-open w c (get_or w 0 0)
    ∙ (ap (λ k. sum_below k (λ p. held_in (page_words w p) c)) (sym (slice.pages-word w wl))
    ∙ (below-same (length t.pages) (λ p. held_in (page_words w p) c) (λ p. sum (is c) (piece_entries (page t p)))
    (λ p l. ap (λ v. held_in v c) (page-in w p wl h (omega (arith, F.most))) ∙ held-page (page t p) c (F.eight p l))
    ∙ sym (sum-places (λ g. sum (is c) (piece_entries g)) t.pages no_page)))

-- the search of words that are those of a sound table
module _ (w t : List ℕ) (wl : TABLE_WORDS ≤ length w) (h : T (sound w)) (is : t ≡ w) where
  pub may_search : (TABLE_WORDS ≤ length t) × (get_or t 0 0 ≤ PAGES)
  may_search = rw is (wl, (head_in w wl h).0)

  pub search_knows : (n : ℕ) (b : Bool) → b ≡ ltb 0 (held_below t n (get_or t 0 0)) → b ≡ ltb 0 (stored (table_in w) n)
  search_knows n b e = e ∙ (ap (λ v. ltb 0 (held_below v n (get_or v 0 0))) is ∙ ap (ltb 0) (held-in w n wl h))
