-- What the functions behind `place` are held to: they are total on any words, and write pages in the middle of the table.
use Rattle.std.specs.Prelude.{ℕ, zero, suc, ◌+◌, ◌*◌, min, Option, Some, None, cond, List, [], ◌∷◌, ◌++◌, set, get_or, take, drop, ltb, eqb}
use Rattle.pages.specs.declared.Rect.{Rect}
use Rattle.pages.specs.declared.Entry.{Entry}
use Rattle.pages.specs.Sizes.{PAGE_HEAD, FANOUT, ENTRY_WORDS, PAGES}
use Rattle.pages.specs.Lists.{sum, sum_below}
use Rattle.pages.specs.Rectangles.{rect_of, entry_of, widen, bounds}
use Rattle.pages.specs.Layout.{page_of, encode_page, page_words}
use Rattle.pages.specs.Writes.{put_page}
use Rattle.pages.specs.Sound.{is}
use Rattle.pages.specs.Readers.{entry_in, entries_in}
use Rattle.placing.specs.Place.{choose, ordered, STAY}

-- of a page's words: the entry count, cut at eight, and the entries
abbrev pub count_in : List ℕ → ℕ
count_in w = min (get_or w 1 0) FANOUT

abbrev pub filled_in : List ℕ → List Entry
filled_in w = entries_in w (count_in w)

-- the entry at place i is written; one is appended
unfoldable pub entry_set : List ℕ → ℕ → Entry → List ℕ
entry_set w i e =
    set (set (set (set (set w
    (PAGE_HEAD + ENTRY_WORDS * i) e.rect.x1)
    (PAGE_HEAD + ENTRY_WORDS * i + 1) e.rect.y1)
    (PAGE_HEAD + ENTRY_WORDS * i + 2) e.rect.x2)
    (PAGE_HEAD + ENTRY_WORDS * i + 3) e.rect.y2)
    (PAGE_HEAD + ENTRY_WORDS * i + 4) e.r

unfoldable pub appended : List ℕ → Entry → List ℕ
appended w e = set (entry_set w (get_or w 1 0) e) 1 (get_or w 1 0 + 1)

-- a full page p and one entry more: the first four stay in p, and the other five go to page k
unfoldable pub split_into : List ℕ → ℕ → ℕ → Entry → List ℕ
split_into t p k e =
    let level : ℕ = get_or (page_words t p) 0 0 in
    let parts : List Entry = ordered (entries_in (page_words t p) FANOUT ++ (e ∷ [])) in
    put_page (put_page t p (encode_page (page_of level (take STAY parts)))) k (encode_page (page_of level (drop STAY parts)))

-- what a step leaves: the page that was split off, if one was, and the table's words
abbrev pub Written : Type 0
Written = Option ℕ × List ℕ

-- page p gets one entry more; full, it is split, and k rises by one. (Where no page is left nothing is done.)
unfoldable pub add_to : List ℕ → ℕ → Entry → Written
add_to t p e =
    cond (ltb (get_or (page_words t p) 1 0) FANOUT)
    (None, put_page t p (appended (page_words t p) e))
    (cond (ltb (get_or t 0 0) PAGES)
    (Some (get_or t 0 0), set (split_into t p (get_or t 0 0) e) 0 (get_or t 0 0 + 1))
    (None, t))

-- the bounds of page q, zeros where it is no page; the entry for it, on pages `entry_for`
unfoldable pub bounds_at : List ℕ → ℕ → Rect
bounds_at t q = cond (ltb q PAGES) (bounds (filled_in (page_words t q))) (rect_of 0 0 0 0)

abbrev pub entry_for_in : List ℕ → ℕ → Entry
entry_for_in t q = entry_of (bounds_at t q) q

-- in page p the entry at place i is set to the bounds of its child q
unfoldable pub reset_entry : List ℕ → ℕ → ℕ → ℕ → List ℕ
reset_entry t p i q = put_page t p (entry_set (page_words t p) i (entry_for_in t q))

-- the entry at place i is widened by the new rectangle: in a page's words, and in page p
abbrev pub widened_by : Rect → Entry → Entry
widened_by new e = entry_of (widen e.rect new) e.r

abbrev pub entry_widened : List ℕ → ℕ → Rect → List ℕ
entry_widened w i new = entry_set w i (widened_by new (entry_in w i))

unfoldable pub widen_entry : List ℕ → ℕ → ℕ → Rect → List ℕ
widen_entry t p i new = put_page t p (entry_widened (page_words t p) i new)

-- page p's child q at place i was split, and page k is its other part: the entry for q is set to its bounds, and p gets one for k
unfoldable pub parted : ℕ → ℕ → ℕ → ℕ → List ℕ → Written
parted p i q k t =
    let u : List ℕ = reset_entry t p i q in
    add_to u p (entry_for_in u k)

-- what the child q at place i left is settled in page p: split, or its entry is widened
abbrev pub settled : ℕ → ℕ → ℕ → Rect → Option ℕ → List ℕ → Written
settled p i q new None t = (None, widen_entry t p i new)
settled p i q new (Some k) t = parted p i q k t

-- the place to go to in a page's words
unfoldable pub chosen_in : List ℕ → Rect → ℕ
chosen_in w new = choose new (filled_in w)

-- into page p, which is at the level
unfoldable pub place_at : ℕ → List ℕ → ℕ → Entry → Written
place_at zero t p e = cond (ltb p PAGES) (add_to t p e) (None, t)
place_at (suc l) t p e =
    let i : ℕ = chosen_in (page_words t p) e.rect in
    let q : ℕ = (entry_in (page_words t p) i).r in
    let s : Written = place_at l t q e in
    cond (ltb p PAGES) (settled p i q e.rect s.0 s.1) (None, t)

-- page q was split off the old root r: page k becomes the root, at the level given
unfoldable pub root_made : List ℕ → ℕ → ℕ → ℕ → List ℕ
root_made t r q level =
    let k : ℕ = get_or t 0 0 in
    cond (ltb k PAGES)
    (set (set (put_page t k (encode_page (page_of level (entry_for_in t r ∷ entry_for_in t q ∷ [])))) 0 (k + 1)) 1 k)
    t

-- what is done above the root, which is at the level
abbrev pub topped : ℕ → ℕ → Option ℕ → List ℕ → List ℕ
topped r level None t = t
topped r level (Some q) t = root_made t r q (level + 1)

-- the whole of an accepted call
unfoldable pub place_in : List ℕ → ℕ → Rect → List ℕ
place_in t n r =
    let root : ℕ = get_or t 1 0 in
    let level : ℕ = get_or (page_words t root) 0 0 in
    let s : Written = place_at level t root (entry_of r n) in
    set (topped root level s.0 s.1) 2 (get_or t 2 0 + 1)

-- how many entries of a leaf, and of the leaves, have the r c
unfoldable pub held_in : List ℕ → ℕ → ℕ
held_in w c = cond (eqb (get_or w 0 0) 0) (sum (is c) (filled_in w)) 0

unfoldable pub held_below : List ℕ → ℕ → ℕ → ℕ
held_below t c k = sum_below k (λ p. held_in (page_words t p) c)
