-- Going down to a leaf and back keeps the bullets, but for what the parent still has to do.
use Prim.Native.Nat.{ℕ, zero, suc, ◌+◌, ◌-◌, ◌≤◌, ◌<◌, min}
use native.Mathlib.Omega.{arith}
use native.Mathlib.Decide.{ℕ_discrete, dec_lt}
use mathlib.Core.Path.{◌≡◌, refl, sym, ap, ◌∙◌}
use mathlib.Core.Logic.{◌≢◌}
use mathlib.Core.Bool.{Bool, true, false, cond}
use mathlib.Core.List.{List, [], ◌∷◌, ◌++◌}
use lib.ListN.{length, get_or, set, length-append, length-set}
use lib.Seq.{get_or-set_same, get_or-set_other}
use lib.Dec.{T, leb, ltb, eqb}
use borrow.Author.Tests.{le-leb, lt-leb, eq-eqb, ne_eqb}
use Rattle.pages.specs.declared.Entry.{Entry}
use Rattle.pages.specs.Lists.{one, sum, Every}
use Rattle.pages.specs.Rectangles.{widen, bounds}
use Rattle.pages.specs.Layout.{Page, page_of, no_entry, no_page, page_at}
use Rattle.pages.specs.Sound.{child_entries, piece_entries, is}
use Rattle.pages.proofs.Lists.{every-at, at_every, every_map, every-both, every_append, sum-append, sum-set, sum-at, sum-apart, sum_zeros}
use Rattle.pages.proofs.Entries.{Fits, refit, is_none, unnamed, names, leaves, leaf-children, above-children, above-pieces}
use Rattle.pages.proofs.Below.{one-le, T-one}
use Rattle.pages.proofs.Bounds.{bounds-last}
use Rattle.placing.specs.Place.{choose, Step, entry_for, renew, down}
use Rattle.placing.proofs.Bounding.{bounds-renewed}
use Rattle.placing.proofs.Fill.{Touched, spread, Fill, filled, choose-below}

-- 1 for a q from k on and below m
abbrev pub between : ℕ → ℕ → ℕ → ℕ
between k m q = cond (leb k q) (cond (ltb q m) 1 0) 0

-- 1 for the page that a split has made, and that nothing names yet
abbrev pub loose : Step → ℕ → ℕ
loose s q = cond s.split (one (eqb (length s.pages - 1) q)) 0

-- after the way down from page p at level l, with e, and back: s is left. All that soundness asks of the pages at level l and below
-- holds, but that page p's entry above is stale and that no entry above names the page that split off. Nothing else has changed, and the
-- bounds of page p, with those of what split off, are the old ones widened by e
pub record After (ps : List Page) (l p : ℕ) (e : Entry) (s : Step) : Type 0 where
  pub grown : length ps + one s.split ≤ length s.pages
  pub kept : (q : ℕ) → q < length ps → (page_at s.pages q).level ≡ (page_at ps q).level
  pub frame : (q : ℕ) → q < length ps → q ≢ p → l ≤ (page_at ps q).level → page_at s.pages q ≡ page_at ps q
  pub fresh : (q : ℕ) → length ps ≤ q → q < length s.pages → (page_at s.pages q).level ≤ l
  pub last : T s.split → (page_at s.pages (length s.pages - 1)).level ≡ l
  pub fits : (q : ℕ) → q < length s.pages → (page_at s.pages q).level ≤ l → Every (Fits s.pages (page_at s.pages q).level) (child_entries (page_at s.pages q))
  pub least : (q : ℕ) → q < length ps → min 4 (length (page_at ps q).entries) ≤ length (page_at s.pages q).entries
  pub half : T s.split → 4 ≤ length (page_at s.pages p).entries
  pub enough : (q : ℕ) → length ps ≤ q → q < length s.pages → 4 ≤ length (page_at s.pages q).entries
  pub eight : (q : ℕ) → q < length s.pages → length (page_at s.pages q).entries ≤ 8
  pub naming : (q : ℕ) → names s.pages q + loose s q ≡ names ps q + between (length ps) (length s.pages) q
  pub holding : (f : Entry → ℕ) → leaves f s.pages ≡ f e + leaves f ps
  pub around : 0 < length (page_at ps p).entries → spread p s ≡ widen (bounds (page_at ps p).entries) e.rect

-- what is asked of the pages at the start
pub record Before (ps : List Page) : Type 0 where
  pub fits : (q : ℕ) → q < length ps → Every (Fits ps (page_at ps q).level) (child_entries (page_at ps q))
  pub some : (q : ℕ) → q < length ps → 0 < (page_at ps q).level → 0 < length (page_at ps q).entries
  pub eight : (q : ℕ) → q < length ps → length (page_at ps q).entries ≤ 8
  pub once : (q : ℕ) → q < length ps → names ps q ≤ 1
  pub full : (q : ℕ) → q < length ps → 0 < names ps q → 0 < length (page_at ps q).entries

-- tests

pub between-low : (k m q : ℕ) → q < k → between k m q ≡ 0
between-low k m q h = rw (lt-leb k q h)

pub between_in : (k m q : ℕ) → k ≤ q → q < m → between k m q ≡ 1
between_in k m q h j = rw (le-leb k q h, le-leb (suc q) m j)

pub between-high : (k m q : ℕ) → k ≤ m → m ≤ q → between k m q ≡ 0
between-high k m q i h = rw (le-leb k q (omega arith), lt-leb (suc q) m (omega arith))

-- m is one more, or not
between_step : (k m : ℕ) (b : Bool) (q n : ℕ) → k ≤ m → n ≡ m + one b → between k m q + cond b (one (eqb (n - 1) q)) 0 ≡ between k n q
between_step k m false q n h e =
    let e' : n ≡ m = omega arith in
    rw e' (omega arith)
between_step k m true q n h e = go (dec_lt q k) (dec_lt q m) (ℕ_discrete q m)
  where
    go : Dec (q < k) → Dec (q < m) → Dec (q ≡ m) → between k m q + one (eqb (n - 1) q) ≡ between k n q
    go (yes a) x y = rw (between-low k m q a, between-low k n q a, ne_eqb (n - 1) q (omega arith))
    go (no a) (yes x) y = rw (between_in k m q (omega arith) x, between_in k n q (omega arith) (omega arith), ne_eqb (n - 1) q (omega arith))
    go (no a) (no x) (yes y) = rw (between-high k m q h (omega arith), between_in k n q (omega arith) (omega arith), eq-eqb (n - 1) q (omega arith))
    go (no a) (no x) (no y) = rw (between-high k m q h (omega arith), between-high k n q (omega arith) (omega arith), ne_eqb (n - 1) q (omega arith))

between_none : (k q : ℕ) → between k k q ≡ 0
between_none k q = go (dec_lt q k)
  where
    go : Dec (q < k) → between k k q ≡ 0
    go (yes a) = rw (lt-leb k q a)
    go (no a) = rw (le-leb k q (omega arith), lt-leb (suc q) k (omega arith))

pub one-T : (b : Bool) → T b → one b ≡ 1
one-T true h = refl
one-T false h = absurd h

-- what every fill gives
module _ (ps : List Page) (p : ℕ) (es : List Entry) (s : Step) (F : Fill ps p es s) (pl : p < length ps) where
  -- a page is the same, or was filled
  each : (Q : ℕ → Type 0) → ((q : ℕ) → q < length ps → q ≢ p → Q q) → ((q : ℕ) → q < length s.pages → Touched ps p q → Q q) → (q : ℕ) → q < length s.pages → Q q
  each Q a b q l = go (dec_lt q (length ps)) (ℕ_discrete q p)
    where
      go : Dec (q < length ps) → Dec (q ≡ p) → Q q
      go (yes x) (yes y) = b q l (λ z. y)
      go (yes x) (no y) = a q x y
      go (no x) y = b q l (λ z. absurd (x z))

  -- a page that was there is the same, or is p
  each-old : (Q : ℕ → Type 0) → ((q : ℕ) → q < length ps → q ≢ p → Q q) → Q p → (q : ℕ) → q < length ps → Q q
  each-old Q a b q l = go (ℕ_discrete q p)
    where
      go : Dec (q ≡ p) → Q q
      go (yes y) = rw y b
      go (no y) = a q l y

  here : p < length s.pages
  here = omega (arith, F.len)

  level-old : (q : ℕ) → q < length ps → (page_at s.pages q).level ≡ (page_at ps q).level
  level-old = each-old (λ q. (page_at s.pages q).level ≡ (page_at ps q).level) (λ q l n. ap (λ x. x.level) (F.same q l n)) (F.level p here (λ z. refl))

  -- the new page
  new-page : T s.split → (length ps ≤ length s.pages - 1) × (length s.pages - 1 < length s.pages)
  new-page b = omega (arith, F.len, one-T s.split b)

  level-last : T s.split → (page_at s.pages (length s.pages - 1)).level ≡ (page_at ps p).level
  level-last b = F.level (length s.pages - 1) (new-page b).1 (λ z. absurd (omega (arith, new-page b)))

  half-here : T s.split → 4 ≤ length (page_at s.pages p).entries
  half-here b = omega (arith, F.whole b, F.least p here (λ z. refl))

  enough-new : (q : ℕ) → length ps ≤ q → q < length s.pages → 4 ≤ length (page_at s.pages q).entries
  enough-new q l m = omega (arith, F.whole (T-one s.split (omega (arith, F.len))), F.least q m (λ z. absurd (omega arith)))

-- the leaf
module _ (ps : List Page) (p : ℕ) (e : Entry) (B : Before ps) (pl : p < length ps) (lv : (page_at ps p).level ≡ 0) (s : Step) (F : Fill ps p ((page_at ps p).entries ++ (e ∷ [])) s) where
  abbrev es : List Entry
  es = (page_at ps p).entries ++ (e ∷ [])

  leaf-names : (q : ℕ) → names s.pages q ≡ names ps q
  leaf-names q = omega (arith, F.total (λ x. sum (is q) (child_entries x)) (λ x. 0) (λ xs. rw lv (sym (sum_zeros xs))), sum_zeros (page_at ps p).entries, sum_zeros es)

  leaf-holds : (f : Entry → ℕ) → leaves f s.pages ≡ f e + leaves f ps
  leaf-holds f = omega (arith, F.total (λ x. sum f (piece_entries x)) f (λ xs. rw lv refl), sum-append f (page_at ps p).entries (e ∷ []))

  pub leaf-after : After ps 0 p e s
  leaf-after = record {
    grown = omega (arith, F.len);
    kept = level-old ps p es s F pl;
    frame = λ q l n h. F.same q l n;
    fresh = λ q l m. omega (arith, F.level q m (λ z. absurd (omega arith)), lv);
    last = λ b. level-last ps p es s F pl b ∙ lv;
    fits = λ q l h. rw (leaf-children (page_at s.pages q) (omega arith)) tt;
    least = each-old ps p es s F pl (λ q. min 4 (length (page_at ps q).entries) ≤ length (page_at s.pages q).entries)
        (λ q l n. rw (F.same q l n) (omega arith)) (omega (arith, F.least p (here ps p es s F pl) (λ z. refl), length-append (page_at ps p).entries (e ∷ [])));
    half = half-here ps p es s F pl;
    enough = enough-new ps p es s F pl;
    eight = each ps p es s F pl (λ q. length (page_at s.pages q).entries ≤ 8) (λ q l n. rw (F.same q l n) (B.eight q l)) F.most;
    naming = λ q. omega (arith, leaf-names q, between_none (length ps) q, between_step (length ps) (length ps) s.split q (length s.pages) (omega arith) F.len);
    holding = leaf-holds;
    around = λ l. F.around ∙ bounds-last (page_at ps p).entries e l;
  }

-- the child at place i of page p
abbrev pub child : List Page → ℕ → ℕ → ℕ
child ps p i = (get_or (page_at ps p).entries i no_entry).r

is-self : (e : Entry) → is e.r e ≡ 1
is-self e = rw (eq-eqb e.r e.r refl)

sum-last : (f : Entry → ℕ) (b : Bool) (x : Entry) → sum f (cond b (x ∷ []) []) ≡ cond b (f x) 0
sum-last f true x = omega arith
sum-last f false x = refl

length_last : (b : Bool) (x : Entry) → length (cond b (x ∷ []) []) ≡ one b
length_last true x = refl
length_last false x = refl

every-last : (P : Entry → Type 0) (b : Bool) (x : Entry) → (T b → P x) → Every P (cond b (x ∷ []) [])
every-last P true x h = (h tt, tt)
every-last P false x h = tt

fits-at : (ps : List Page) (B : Before ps) (l p : ℕ) → p < length ps → (page_at ps p).level ≡ suc l → Every (Fits ps (suc l)) (page_at ps p).entries
fits-at ps B l p pl lv = rw (← above-children (page_at ps p) l lv, ← lv) (B.fits p pl)

-- where the children of a page at level l + 1 are
module _ (ps : List Page) (B : Before ps) (l p i : ℕ) (pl : p < length ps) (lv : (page_at ps p).level ≡ suc l) (il : i < length (page_at ps p).entries) where
  fits-here : Every (Fits ps (suc l)) (page_at ps p).entries
  fits-here = fits-at ps B l p pl lv

  fits-child : Fits ps (suc l) (get_or (page_at ps p).entries i no_entry)
  fits-child = every-at (Fits ps (suc l)) (page_at ps p).entries no_entry fits-here i il

  pub child-in : child ps p i < length ps
  child-in = fits-child.inside

  pub child-level : (page_at ps (child ps p i)).level ≡ l
  child-level = omega (arith, fits-child.lower)

  sum-here : (f : Entry → ℕ) → sum f (child_entries (page_at ps p)) ≡ sum f (page_at ps p).entries
  sum-here f = ap (sum f) (above-children (page_at ps p) l lv)

  -- the child is named, so it is not the root, and has entries
  child-some : 0 < length (page_at ps (child ps p i)).entries
  child-some =
      let c : ℕ = child ps p i in
      let a = sum-at (is c) (page_at ps p).entries i no_entry il in
      let b = sum-at (λ x. sum (is c) (child_entries x)) ps p no_page pl in
      B.full c child-in (omega (arith, a, b, sum-here (is c), is-self (get_or (page_at ps p).entries i no_entry)))

  -- the step into the child widens what its entry holds
  pub child-around : (e : Entry) (s : Step) → After ps l (child ps p i) e s → spread (child ps p i) s ≡ widen (get_or (page_at ps p).entries i no_entry).rect e.rect
  child-around e s A = A.around child-some ∙ ap (λ r. widen r e.rect) (sym fits-child.exact)

  -- no other entry names the child
  only-page : (q : ℕ) → q < length ps → q ≢ p → Every (λ x. x.r ≢ child ps p i) (child_entries (page_at ps q))
  only-page q ql n =
      let c : ℕ = child ps p i in
      let a = sum-apart (λ x. sum (is c) (child_entries x)) ps q p no_page n ql pl in
      let b = sum-at (is c) (page_at ps p).entries i no_entry il in
      unnamed c (child_entries (page_at ps q)) (omega (arith, a, b, sum-here (is c), is-self (get_or (page_at ps p).entries i no_entry), B.once c child-in))

  only-place : (j : ℕ) → j < length (page_at ps p).entries → j ≢ i → (get_or (page_at ps p).entries j no_entry).r ≢ child ps p i
  only-place j jl n =
      let c : ℕ = child ps p i in
      let a = sum-apart (is c) (page_at ps p).entries j i no_entry n jl il in
      let b = sum-at (λ x. sum (is c) (child_entries x)) ps p no_page pl in
      is_none c (get_or (page_at ps p).entries j no_entry) (omega (arith, a, b, sum-here (is c), is-self (get_or (page_at ps p).entries i no_entry), B.once c child-in))

length-renew : (es : List Entry) (i : ℕ) (s : Step) → length (renew es i s) ≡ length es + one s.split
unfolding renew
length-renew es i s =
    let x : Entry = entry_for (get_or es i no_entry).r s.pages in
    let y : Entry = entry_for (length s.pages - 1) s.pages in
    omega (arith, length-append (set es i x) (cond s.split (y ∷ []) []), length-set es i x, length_last s.split y)

-- a page above the leaves
module _ (ps : List Page) (B : Before ps) (l p i : ℕ) (e : Entry) (pl : p < length ps) (lv : (page_at ps p).level ≡ suc l) (il : i < length (page_at ps p).entries)
    (s : Step) (A : After ps l (child ps p i) e s) (u : Step) (F : Fill s.pages p (renew (page_at ps p).entries i s) u) where
  abbrev es' : List Entry
  es' = renew (page_at ps p).entries i s

  in-s : p < length s.pages
  in-s = omega (arith, A.grown)

  not-child : p ≢ child ps p i
  not-child h = omega (arith, ap (λ x. (page_at ps x).level) h, lv, child-level ps B l p i pl lv il)

  same_here : page_at s.pages p ≡ page_at ps p
  same_here = A.frame p pl not-child (omega arith)

  level-here : (page_at s.pages p).level ≡ suc l
  level-here = ap (λ x. x.level) same_here ∙ lv

  sum-renew : (q : ℕ) → sum (is q) es' ≡ sum (is q) (page_at ps p).entries + loose s q
  unfolding renew entry_for
  sum-renew q =
      let x : Entry = entry_for (child ps p i) s.pages in
      let y : Entry = entry_for (length s.pages - 1) s.pages in
      omega (arith, sum-append (is q) (set (page_at ps p).entries i x) (cond s.split (y ∷ []) []), sum-set (is q) (page_at ps p).entries i x no_entry il, sum-last (is q) s.split y)

  step-names : (q : ℕ) → names u.pages q ≡ names ps q + between (length ps) (length s.pages) q
  step-names q =
      let a = F.total (λ x. sum (is q) (child_entries x)) (is q) (λ xs. ap (sum (is q)) (above-children (page_of (page_at s.pages p).level xs) l level-here)) in
      let b : sum (is q) (page_at s.pages p).entries ≡ sum (is q) (page_at ps p).entries = ap (λ x. sum (is q) x.entries) same_here in
      omega (arith, a, b, sum-renew q, A.naming q)

  step-holds : (f : Entry → ℕ) → leaves f u.pages ≡ f e + leaves f ps
  step-holds f =
      let a = F.total (λ x. sum f (piece_entries x)) (λ x. 0) (λ xs. ap (sum f) (above-pieces (page_of (page_at s.pages p).level xs) l level-here) ∙ sym (sum_zeros xs)) in
      omega (arith, a, sum_zeros (page_at s.pages p).entries, sum_zeros es', A.holding f)

  -- a child that is another one than the child gone to is the same
  same-child : (x : Entry) → x.r ≢ child ps p i → Fits ps (suc l) x → Fits u.pages (suc l) x
  same-child x n f =
      let lx : (page_at ps x.r).level ≡ l = omega (arith, f.lower) in
      let m : x.r ≢ p = λ h. omega (arith, ap (λ y. (page_at ps y).level) h, lx, lv) in
      refit ps u.pages (suc l) x (omega (arith, A.grown, F.len)) (F.same x.r (omega (arith, A.grown, f.inside)) m ∙ A.frame x.r f.inside n (omega arith)) f

  -- the renewed entries
  fits-set : Every (Fits u.pages (suc l)) (set (page_at ps p).entries i (entry_for (child ps p i) s.pages))
  unfolding entry_for
  fits-set = at_every (Fits u.pages (suc l)) (set (page_at ps p).entries i (entry_for (child ps p i) s.pages)) no_entry
      (λ j jl. go j (omega (arith, length-set (page_at ps p).entries i (entry_for (child ps p i) s.pages))) (ℕ_discrete j i))
    where
      x : Entry
      x = entry_for (child ps p i) s.pages

      c-in : child ps p i < length ps
      c-in = child-in ps B l p i pl lv il

      c-same : page_at u.pages (child ps p i) ≡ page_at s.pages (child ps p i)
      c-same = F.same (child ps p i) (omega (arith, c-in, A.grown)) (λ h. not-child (sym h))

      fits-x : Fits u.pages (suc l) x
      fits-x = record {
        inside = omega (arith, c-in, A.grown, F.len);
        lower = omega (arith, ap (λ y. y.level) c-same, A.kept (child ps p i) c-in, child-level ps B l p i pl lv il);
        exact = ap (λ y. bounds y.entries) (sym c-same);
      }

      go : (j : ℕ) → j < length (page_at ps p).entries → Dec (j ≡ i) → Fits u.pages (suc l) (get_or (set (page_at ps p).entries i x) j no_entry)
      go j jl (yes h) = rw (h, get_or-set_same (page_at ps p).entries i x no_entry il) fits-x
      go j jl (no h) = rw (get_or-set_other (page_at ps p).entries i j x no_entry h)
          (same-child (get_or (page_at ps p).entries j no_entry) (only-place ps B l p i pl lv il j jl h)
          (every-at (Fits ps (suc l)) (page_at ps p).entries no_entry (fits-here ps B l p i pl lv il) j jl))

  fits_last : T s.split → Fits u.pages (suc l) (entry_for (length s.pages - 1) s.pages)
  unfolding entry_for
  fits_last b =
      let m : ℕ = length s.pages - 1 in
      let k : (length ps ≤ m) × (m < length s.pages) = omega (arith, A.grown, one-T s.split b) in
      let same : page_at u.pages m ≡ page_at s.pages m = F.same m k.1 (omega (arith, k)) in
      record {
        inside = omega (arith, k, F.len);
        lower = omega (arith, ap (λ y. y.level) same, A.last b);
        exact = ap (λ y. bounds y.entries) (sym same);
      }

  fits-renew : Every (Fits u.pages (suc l)) es'
  unfolding renew
  fits-renew = every_append (Fits u.pages (suc l)) (set (page_at ps p).entries i (entry_for (child ps p i) s.pages)) _ fits-set
      (every-last (Fits u.pages (suc l)) s.split (entry_for (length s.pages - 1) s.pages) fits_last)

  -- a page that is the same
  fits-same : (q : ℕ) → q < length s.pages → q ≢ p → (page_at u.pages q).level ≤ suc l → Every (Fits u.pages (page_at u.pages q).level) (child_entries (page_at u.pages q))
  fits-same q ql n h = rw (F.same q ql n) (go (dec_lt (page_at s.pages q).level (suc l)) (dec_lt q (length ps)))
    where
      lev : (page_at s.pages q).level ≤ suc l
      lev = omega (arith, h, ap (λ y. y.level) (F.same q ql n))

      go : Dec ((page_at s.pages q).level < suc l) → Dec (q < length ps) → Every (Fits u.pages (page_at s.pages q).level) (child_entries (page_at s.pages q))
      go (yes a) b = every_map (Fits s.pages (page_at s.pages q).level) (Fits u.pages (page_at s.pages q).level)
          (λ x f. refit s.pages u.pages (page_at s.pages q).level x (omega (arith, F.len))
          (F.same x.r f.inside (λ r. omega (arith, ap (λ y. (page_at s.pages y).level) r, level-here, f.lower))) f)
          (child_entries (page_at s.pages q)) (A.fits q ql (omega arith))
      go (no a) (no b) = absurd (omega (arith, A.fresh q (omega arith) ql))
      go (no a) (yes b) =
          let ls : (page_at ps q).level ≡ suc l = omega (arith, lev, A.kept q b) in
          let nc : q ≢ child ps p i = λ r. omega (arith, ap (λ y. (page_at ps y).level) r, child-level ps B l p i pl lv il) in
          let sm : page_at s.pages q ≡ page_at ps q = A.frame q b nc (omega arith) in
          rw (sm, above-children (page_at ps q) l ls, ls) (every-both (λ x. x.r ≢ child ps p i) (Fits ps (suc l)) (Fits u.pages (suc l)) same-child (page_at ps q).entries
          (rw (above-children (page_at ps q) l ls) at (only-page ps B l p i pl lv il q b n)) (fits-at ps B l q b ls))

  fits-touched : (q : ℕ) → q < length u.pages → Touched s.pages p q → (page_at u.pages q).level ≤ suc l → Every (Fits u.pages (page_at u.pages q).level) (child_entries (page_at u.pages q))
  fits-touched q ql tq h =
      let lq : (page_at u.pages q).level ≡ suc l = F.level q ql tq ∙ level-here in
      rw (above-children (page_at u.pages q) l lq, lq) (F.every (Fits u.pages (suc l)) fits-renew q ql tq)

  step-around : bounds es' ≡ widen (bounds (page_at ps p).entries) e.rect
  unfolding renew entry_for
  step-around = bounds-renewed (page_at ps p).entries i (entry_for (child ps p i) s.pages) (entry_for (length s.pages - 1) s.pages) s.split e.rect il
      (child-around ps B l p i pl lv il e s A)

  step-fresh : (q : ℕ) → q < length u.pages → length ps ≤ q → (page_at u.pages q).level ≤ suc l
  step-fresh = each s.pages p es' u F in-s (λ q. length ps ≤ q → (page_at u.pages q).level ≤ suc l)
      (λ q ql n k. rw (F.same q ql n) (omega (arith, A.fresh q k ql))) (λ q ql tq k. omega (arith, F.level q ql tq, level-here))

  step-enough : (q : ℕ) → q < length u.pages → length ps ≤ q → 4 ≤ length (page_at u.pages q).entries
  step-enough q ql k = go (dec_lt q (length s.pages))
    where
      go : Dec (q < length s.pages) → 4 ≤ length (page_at u.pages q).entries
      go (yes a) = rw (F.same q a (omega arith)) (A.enough q k a)
      go (no a) = enough-new s.pages p es' u F in-s q (omega arith) ql

  pub step_after : After ps (suc l) p e u
  step_after = record {
    grown = omega (arith, A.grown, F.len);
    kept = λ q ql. level-old s.pages p es' u F in-s q (omega (arith, A.grown)) ∙ A.kept q ql;
    frame = λ q ql n h. F.same q (omega (arith, A.grown)) n ∙ A.frame q ql (λ r. omega (arith, ap (λ y. (page_at ps y).level) r, child-level ps B l p i pl lv il)) (omega arith);
    fresh = λ q k ql. step-fresh q ql k;
    last = λ b. level-last s.pages p es' u F in-s b ∙ level-here;
    fits = each s.pages p es' u F in-s (λ q. (page_at u.pages q).level ≤ suc l → Every (Fits u.pages (page_at u.pages q).level) (child_entries (page_at u.pages q))) fits-same fits-touched;
    least = λ q ql. each-old s.pages p es' u F in-s (λ x. x < length ps → min 4 (length (page_at ps x).entries) ≤ length (page_at u.pages x).entries)
        (λ x xl n k. rw (F.same x xl n) (A.least x k)) (λ k. omega (arith, F.least p (here s.pages p es' u F in-s) (λ z. refl), length-renew (page_at ps p).entries i s)) q (omega (arith, A.grown)) ql;
    half = half-here s.pages p es' u F in-s;
    enough = λ q k ql. step-enough q ql k;
    eight = each s.pages p es' u F in-s (λ q. length (page_at u.pages q).entries ≤ 8) (λ q ql n. rw (F.same q ql n) (A.eight q ql)) F.most;
    naming = λ q. omega (arith, step-names q, between_step (length ps) (length s.pages) u.split q (length u.pages) (omega (arith, A.grown)) F.len);
    holding = step-holds;
    around = λ k. F.around ∙ step-around;
  }

-- all the way
pub after : (l p : ℕ) (e : Entry) (ps : List Page) → Before ps → p < length ps → (page_at ps p).level ≡ l → After ps l p e (down l p e ps)
unfolding down
after zero p e ps B pl lv =
    leaf-after ps p e B pl lv (down zero p e ps)
    (filled ps p ((page_at ps p).entries ++ (e ∷ [])) pl (omega (arith, length-append (page_at ps p).entries (e ∷ []), B.eight p pl)))
after (suc l) p e ps B pl lv =
    let i : ℕ = choose e.rect (page_at ps p).entries in
    let il : i < length (page_at ps p).entries = choose-below e.rect (page_at ps p).entries (B.some p pl (omega arith)) in
    let c : ℕ = child ps p i in
    let s : Step = down l c e ps in
    let A : After ps l c e s = after l c e ps B (child-in ps B l p i pl lv il) (child-level ps B l p i pl lv il) in
    step_after ps B l p i e pl lv il s A (down (suc l) p e ps) (filled s.pages p (renew (page_at ps p).entries i s)
    (omega (arith, A.grown)) (omega (arith, length-renew (page_at ps p).entries i s, one-le s.split, B.eight p pl)))
