-- The way down into a page and back, on words and on pages.
use Prim.Native.Nat.{ℕ, zero, suc, ◌-◌, ◌≤◌, ◌<◌}
use native.Mathlib.Omega.{arith}
use mathlib.Core.Path.{◌≡◌, refl, sym, ap, ◌∙◌, subst}
use mathlib.Core.Logic.{◌≢◌}
use mathlib.Core.Bool.{Bool, true, false, cond}
use Rattle.std.specs.Prelude.{Some, None}
use mathlib.Core.List.{List, [], ◌∷◌, ◌++◌, append-nil}
use lib.ListN.{length, get_or, set, length-set}
use lib.Seq.{get_or-set_same, get_or-set_other, set-set}
use lib.Dec.{T, ltb}
use borrow.Author.Tests.{lt-ltb}
use Rattle.pages.specs.declared.Rect.{Rect}
use Rattle.pages.specs.declared.Entry.{Entry}
use Rattle.pages.specs.Sizes.{FANOUT, PAGES}
use Rattle.pages.specs.Rectangles.{entry_of, widen, bounds}
use Rattle.pages.specs.Layout.{Page, page_of, no_entry, no_page, page_at, encode_page, page_words}
use Rattle.pages.specs.Readers.{entry_in}
use Rattle.pages.proofs.Cells.{entry-in}
use Rattle.placing.specs.Place.{choose, Step, step_of, fill, entry_for, renew, down}
use Rattle.pages.specs.Writes.{put_page}
use Rattle.placing.specs.Steps.{entry_set, Written, add_to, entry_for_in, reset_entry, widened_by, widen_entry, parted, settled, chosen_in, place_at}
use Rattle.placing.proofs.Fill.{spread, choose-below}
use Rattle.placing.proofs.Keeps.{After, Before, child, child-in, child-level, child-around, one-T, after}
use Rattle.placing.proofs.PageWords.{filled-in, entry-set}
use Rattle.placing.proofs.TableWords.{tabled, page-words, entry-for, page-set}
use Rattle.placing.proofs.Adding.{part, written, fill-kept, fill-grows, add-fill}

-- the definitions, one step opened

reset-open : (t : List ℕ) (p i q : ℕ) → reset_entry t p i q ≡ put_page t p (entry_set (page_words t p) i (entry_for_in t q))
unfolding reset_entry
reset-open t p i q = refl

widen-open : (t : List ℕ) (p i : ℕ) (new : Rect) → widen_entry t p i new ≡ put_page t p (entry_set (page_words t p) i (widened_by new (entry_in (page_words t p) i)))
unfolding widen_entry
widen-open t p i new = refl

parted-open : (p i q k : ℕ) (t : List ℕ) → parted p i q k t ≡ add_to (reset_entry t p i q) p (entry_for_in (reset_entry t p i q) k)
unfolding parted
parted-open p i q k t = refl

abbrev settle : ℕ → ℕ → ℕ → Rect → Written → Written
settle p i q new s = settled p i q new s.0 s.1

renew-open : (es : List Entry) (i : ℕ) (s : Step) → renew es i s
    ≡ set es i (entry_for (get_or es i no_entry).r s.pages) ++ cond s.split (entry_for (length s.pages - 1) s.pages ∷ []) []
unfolding renew
renew-open es i s = refl

-- page p is filled anew
refill : (p : ℕ) (fs : List Entry) (ps : List Page) (g : Page) → p < length ps → g.level ≡ (page_at ps p).level → fill p fs (set ps p g) ≡ fill p fs ps
unfolding fill
refill p fs ps g l e = rw (get_or-set_same ps p g no_page l, e) (simp set-set)

entry-open : (q : ℕ) (ps : List Page) → entry_for q ps ≡ entry_of (bounds (page_at ps q).entries) q
unfolding entry_for
entry-open q ps = refl

same-entry : (q : ℕ) (ps qs : List Page) → page_at qs q ≡ page_at ps q → entry_for q qs ≡ entry_for q ps
unfolding entry_for
same-entry q ps qs e = rw e

-- the entry of page p at place i gets its child's bounds; s is what was left there, with a new rectangle
module _ (a c : ℕ) (rest : List ℕ) (s : Step) (new : Rect) (p i : ℕ) (pl : p < length s.pages) (most : length s.pages ≤ PAGES)
    (il : i < length (page_at s.pages p).entries) (eight : (q : ℕ) → q < length s.pages → length (page_at s.pages q).entries ≤ FANOUT)
    (ql : (get_or (page_at s.pages p).entries i no_entry).r < length s.pages) where
  abbrev ps : List Page
  ps = s.pages

  abbrev g : Page
  g = page_at ps p

  abbrev x : Entry
  x = get_or g.entries i no_entry

  abbrev q : ℕ
  q = x.r

  abbrev es : List Entry
  es = set g.entries i (entry_for q ps)

  abbrev qs : List Page
  qs = set ps p (page_of g.level es)

  reset-is : reset_entry (tabled a c ps rest) p i q ≡ tabled a c qs rest
  reset-is = reset-open (tabled a c ps rest) p i q
      ∙ rw (
        page-words a c ps rest p (omega arith),
        entry-for a c ps rest q (omega arith) (eight q ql),
        entry-set g i (entry_for q ps) il (eight p pl),
        page-set a c ps rest p (page_of g.level es) pl (omega arith),
      )

  -- without a split the bounds are the old ones, widened
  module _ (w : bounds (page_at ps q).entries ≡ widen x.rect new) where
    widened : widened_by new (entry_in (page_words (tabled a c ps rest) p) i) ≡ entry_for_in (tabled a c ps rest) q
    widened =
        ap (λ v. widened_by new (entry_in v i)) (page-words a c ps rest p (omega arith))
        ∙ (ap (widened_by new) (entry-in g i (omega (arith, eight p pl)))
        ∙ (ap (λ r. entry_of r q) (sym w) ∙ (sym (entry-open q ps) ∙ sym (entry-for a c ps rest q (omega arith) (eight q ql)))))

    widen-is : widen_entry (tabled a c ps rest) p i new ≡ tabled a c qs rest
    widen-is = widen-open (tabled a c ps rest) p i new
        ∙ (ap (λ y. put_page (tabled a c ps rest) p (entry_set (page_words (tabled a c ps rest) p) i y)) widened ∙ (sym (reset-open (tabled a c ps rest) p i q) ∙ reset-is))

    settle-whole : settle p i q new (None, tabled a c ps rest) ≡ written a c rest (fill p es ps)
    settle-whole = ap (λ t. (None, t)) widen-is ∙ ap (written a c rest) (sym (fill-kept p es ps (omega (arith, length-set g.entries i (entry_for q ps), eight p pl))))

  -- the last page is not p
  module _ (n : length ps - 1 ≢ p) where
    abbrev m : ℕ
    m = length ps - 1

    abbrev y : Entry
    y = entry_for m ps

    same-last : page_at qs m ≡ page_at ps m
    same-last = get_or-set_other ps p m (page_of g.level es) no_page n

    here : page_at qs p ≡ page_of g.level es
    here = get_or-set_same ps p (page_of g.level es) no_page pl

    last-is : entry_for_in (tabled a c qs rest) m ≡ y
    last-is = entry-for a c qs rest m (omega arith) (subst (λ x. length x.entries ≤ FANOUT) (sym same-last) (eight m (omega arith))) ∙ same-entry m ps qs same-last

    fill_is : fill p ((page_at qs p).entries ++ (y ∷ [])) qs ≡ fill p (es ++ (y ∷ [])) ps
    fill_is = ap (λ x. fill p (x.entries ++ (y ∷ [])) qs) here ∙ refill p (es ++ (y ∷ [])) ps (page_of g.level es) pl refl

    settle-split : length (fill p (es ++ (y ∷ [])) ps).pages ≤ PAGES → settle p i q new (Some m, tabled a c ps rest) ≡ written a c rest (fill p (es ++ (y ∷ [])) ps)
    settle-split h =
        parted-open p i q m (tabled a c ps rest)
        ∙ (ap (λ t. add_to t p (entry_for_in t m)) reset-is
        ∙ (ap (add_to (tabled a c qs rest) p) last-is
        ∙ (add-fill a c qs rest p y (omega (arith, length-set ps p (page_of g.level es))) (omega arith)
        (omega (arith, ap (λ x. length x.entries) here, length-set g.entries i (entry_for q ps), eight p pl))
        (omega (arith, ap (λ x. length x.pages) fill_is))
        ∙ ap (written a c rest) fill_is)))

  settle-fill : (T s.split → length ps - 1 ≢ p) → length (fill p (renew g.entries i s) ps).pages ≤ PAGES → spread q s ≡ widen x.rect new
      → settle p i q new (written a c rest s) ≡ written a c rest (fill p (renew g.entries i s) ps)
  settle-fill = go s.split (renew g.entries i s) (renew-open g.entries i s)
    where
      go : (b : Bool) (fs : List Entry) → fs ≡ es ++ cond b (entry_for (length ps - 1) ps ∷ []) [] → (T b → length ps - 1 ≢ p) → length (fill p fs ps).pages ≤ PAGES
          → spread q (step_of ps b) ≡ widen x.rect new → settle p i q new (part b ps, tabled a c ps rest) ≡ written a c rest (fill p fs ps)
      go true fs e n h w = settle-split (n tt) (omega (arith, ap (λ z. length (fill p z ps).pages) e)) ∙ ap (λ z. written a c rest (fill p z ps)) (sym e)
      go false fs e n h w = settle-whole w ∙ ap (λ z. written a c rest (fill p z ps)) (sym (e ∙ append-nil es))

chosen_is : (g : Page) (r : Rect) → length g.entries ≤ FANOUT → chosen_in (encode_page g) r ≡ choose r g.entries
unfolding chosen_in
chosen_is g r l = ap (choose r) (filled-in g l)

leaf-open : (t : List ℕ) (p : ℕ) (e : Entry) → p < PAGES → place_at zero t p e ≡ add_to t p e
unfolding place_at
leaf-open t p e l = rw (lt-ltb p PAGES l)

above_open : (l : ℕ) (t : List ℕ) (p : ℕ) (e : Entry) → place_at (suc l) t p e
    ≡ cond (ltb p PAGES) (settle p (chosen_in (page_words t p) e.rect) (entry_in (page_words t p) (chosen_in (page_words t p) e.rect)).r e.rect
    (place_at l t (entry_in (page_words t p) (chosen_in (page_words t p) e.rect)).r e)) (None, t)
unfolding place_at
above_open l t p e = refl

above_in : (l : ℕ) (t : List ℕ) (p : ℕ) (e : Entry) → p < PAGES → (i j : ℕ) → chosen_in (page_words t p) e.rect ≡ i → (entry_in (page_words t p) i).r ≡ j
    → place_at (suc l) t p e ≡ settle p i j e.rect (place_at l t j e)
above_in l t p e h i j ei ej =
    above_open l t p e
    ∙ rw (lt-ltb p PAGES h) (ap (λ k. settle p k (entry_in (page_words t p) k).r e.rect (place_at l t (entry_in (page_words t p) k).r e)) ei
    ∙ ap (λ k. settle p i k e.rect (place_at l t k e)) ej)

down-leaf : (p : ℕ) (e : Entry) (gs : List Page) → down zero p e gs ≡ fill p ((page_at gs p).entries ++ (e ∷ [])) gs
unfolding down
down-leaf p e gs = refl

down-above : (l p : ℕ) (e : Entry) (gs : List Page) → let i : ℕ = choose e.rect (page_at gs p).entries in let s : Step = down l (child gs p i) e gs in
    down (suc l) p e gs ≡ fill p (renew (page_at gs p).entries i s) s.pages
unfolding down
down-above l p e gs = refl

-- the step into the child at place i left s
module _ (a c : ℕ) (rest : List ℕ) (ps : List Page) (B : Before ps) (l p i : ℕ) (e : Entry) (pl : p < length ps) (lv : (page_at ps p).level ≡ suc l)
    (il : i < length (page_at ps p).entries) (s : Step) (A : After ps l (child ps p i) e s) where
  same_here : page_at s.pages p ≡ page_at ps p
  same_here = A.frame p pl (λ h. omega (arith, ap (λ x. (page_at ps x).level) h, lv, child-level ps B l p i pl lv il)) (omega arith)

  above-settled : length (fill p (renew (page_at ps p).entries i s) s.pages).pages ≤ PAGES
      → settle p i (child ps p i) e.rect (written a c rest s) ≡ written a c rest (fill p (renew (page_at ps p).entries i s) s.pages)
  above-settled most = subst (λ g. length (fill p (renew g.entries i s) s.pages).pages ≤ PAGES
      → spread (get_or g.entries i no_entry).r s ≡ widen (get_or g.entries i no_entry).rect e.rect
      → settle p i (get_or g.entries i no_entry).r e.rect (written a c rest s) ≡ written a c rest (fill p (renew g.entries i s) s.pages)) same_here
      (settle-fill a c rest s e.rect p i (omega (arith, A.grown)) (omega (arith, fill-grows p (renew (page_at ps p).entries i s) s.pages))
      (omega (arith, ap (λ g. length g.entries) same_here)) A.eight
      (omega (arith, ap (λ g. (get_or g.entries i no_entry).r) same_here, child-in ps B l p i pl lv il, A.grown))
      (λ b. omega (arith, A.grown, one-T s.split b))) most (child-around ps B l p i pl lv il e s A)

-- the way down into page p and back
pub place_down : (a c : ℕ) (rest : List ℕ) (l p : ℕ) (e : Entry) (ps : List Page) → Before ps → p < length ps → (page_at ps p).level ≡ l → length (down l p e ps).pages ≤ PAGES
    → place_at l (tabled a c ps rest) p e ≡ written a c rest (down l p e ps)
place_down a c rest zero p e ps B pl lv most =
    let d = down-leaf p e ps in
    let small : p < PAGES = omega (arith, (after zero p e ps B pl lv).grown) in
    leaf-open (tabled a c ps rest) p e small
    ∙ (add-fill a c ps rest p e pl small (B.eight p pl) (omega (arith, ap (λ s. length s.pages) d)) ∙ ap (written a c rest) (sym d))
place_down a c rest (suc l) p e ps B pl lv most =
    let w : List ℕ = tabled a c ps rest in
    let g : Page = page_at ps p in
    let i : ℕ = choose e.rect g.entries in
    let il : i < length g.entries = choose-below e.rect g.entries (B.some p pl (omega arith)) in
    let q : ℕ = child ps p i in
    let s : Step = down l q e ps in
    let A : After ps l q e s = after l q e ps B (child-in ps B l p i pl lv il) (child-level ps B l p i pl lv il) in
    let d : down (suc l) p e ps ≡ fill p (renew g.entries i s) s.pages = down-above l p e ps in
    let fits : length (fill p (renew g.entries i s) s.pages).pages ≤ PAGES = omega (arith, ap (λ x. length x.pages) d) in
    let few : length s.pages ≤ PAGES = omega (arith, fill-grows p (renew g.entries i s) s.pages) in
    let small : p < PAGES = omega (arith, A.grown) in
    let pw : page_words w p ≡ encode_page g = page-words a c ps rest p small in
    above_in l w p e small i q (ap (λ v. chosen_in v e.rect) pw ∙ chosen_is g e.rect (B.eight p pl))
    (ap (λ v. (entry_in v i).r) pw ∙ ap (λ x. x.r) (entry-in g i (omega (arith, B.eight p pl))))
    ∙ (ap (settle p i q e.rect) (place_down a c rest l q e ps B (child-in ps B l p i pl lv il) (child-level ps B l p i pl lv il) few)
    ∙ (above-settled a c rest ps B l p i e pl lv il s A fits ∙ ap (written a c rest) (sym d)))
