-- The unopened reached pages when one of them is opened: it goes, and its children come. Nothing is reached twice.
use Prim.Native.Nat.{ℕ, zero, suc, ◌+◌, ◌*◌, ◌≤◌, ◌<◌}
use native.Mathlib.Omega.{arith}
use mathlib.Core.Path.{◌≡◌, refl, sym, ap, subst, ◌∙◌}
use mathlib.Core.Bool.{Bool, true, false, cond, not, ◌||◌}
use mathlib.Core.List.{List, [], ◌∷◌, ◌++◌, map, append-nil}
use lib.ListN.{length}
use lib.Dec.{eqb, eqb→eq}
use Rattle.pages.specs.declared.Entry.{Entry}
use Rattle.pages.specs.Lists.{one, sum, sum_below, concat_map, is_among, Every, times}
use Rattle.pages.specs.Layout.{Table, no_page, page}
use Rattle.pages.specs.Sound.{child_entries, piece_entries, is, parents}
use Rattle.pages.specs.Under.{under, seen}
use Rattle.pages.proofs.Lists.{not-both, true-T, every_one, every_map, every-both, every_append, sum-append, sum_same, sum-le, sum-length, sum-add, sum-concat, sum-map, concat-append}
use Rattle.pages.proofs.Below.{below-const, sum-places, eqb-sym}
use Rattle.pages.proofs.Facts.{Facts}
use Rattle.pages.proofs.Entries.{Fits, leaves, fits_all, leaf-children, leaf-pieces, above-children, above-pieces, fits-above}
use Rattle.pages.proofs.Walk.{sum-times, under-root}
use Rattle.pages.proofs.Visit.{seen-root}
use Rattle.nearest.specs.Search.{reached, unopened}
use Rattle.nearest.proofs.Lists.{among-some, among-none, some-among, among-append, among-last, among-every, all-among, sum-filter, every-filter, filter-passes, sum-among, not_true}

module _ (t : Table) where
  abbrev pub k : ℕ
  k = length t.pages

  -- the pages that p names
  abbrev pub children : ℕ → List ℕ
  children p = map (λ e. e.r) (child_entries (page t p))

  -- a weight of pages, summed over those under page p and p itself; one of entries, over those in the leaves under it
  abbrev pub pages_under : (ℕ → ℕ) → ℕ → ℕ
  pages_under g p = seen g t.pages (page t p).level p

  abbrev pub pieces_under : (Entry → ℕ) → ℕ → ℕ
  pieces_under f p = under f t.pages (page t p).level p

  -- what holds when these pages have been opened, each when it was reached and unopened
  pub record Walked (opened : List ℕ) : Type 0 where
    pub known : Every (λ q. (q < k) × (is_among q (reached t opened) ≡ true)) opened
    -- each page is opened, or is under one of those that are reached and unopened, and so is each piece
    pub pages : (g : ℕ → ℕ) → sum g opened + sum (pages_under g) (unopened t opened) ≡ sum_below k g
    pub pieces : (f : Entry → ℕ) → sum (λ q. sum f (piece_entries (page t q))) opened + sum (pieces_under f) (unopened t opened) ≡ leaves f t.pages

module _ (t : Table) (F : Facts t) where
  -- a weight that goes by the level, over the children of a page
  lower : (G : ℕ → ℕ → ℕ) (l p : ℕ) → p < k t → (page t p).level ≡ suc l → sum (λ e. G (page t e.r).level e.r) (page t p).entries ≡ sum (λ e. G l e.r) (page t p).entries
  lower G l p pl lv = sum_same (λ e. G (page t e.r).level e.r) (λ e. G l e.r) (page t p).entries
      (every_map (Fits t.pages (suc l)) _ (λ e f. ap (λ m. G m e.r) (down (page t e.r).level f.lower)) (page t p).entries (fits-above t F l p pl lv))
    where
      down : (m : ℕ) → suc l ≡ suc m → m ≡ l
      down m z = omega arith

  pages-from : (g : ℕ → ℕ) (p : ℕ) → p < k t → pages_under t g p ≡ g p + sum (λ e. pages_under t g e.r) (child_entries (page t p))
  unfolding seen
  pages-from g p pl = go (page t p).level refl
    where
      go : (l : ℕ) → (page t p).level ≡ l → seen g t.pages l p ≡ g p + sum (λ e. pages_under t g e.r) (child_entries (page t p))
      go zero lv = rw (leaf-children (page t p) lv) (omega arith)
      go (suc l) lv = rw (above-children (page t p) l lv) (ap (λ n. g p + n) (sym (lower (seen g t.pages) l p pl lv)))

  pieces-from : (f : Entry → ℕ) (p : ℕ) → p < k t → pieces_under t f p ≡ sum f (piece_entries (page t p)) + sum (λ e. pieces_under t f e.r) (child_entries (page t p))
  unfolding under
  pieces-from f p pl = go (page t p).level refl
    where
      go : (l : ℕ) → (page t p).level ≡ l → under f t.pages l p ≡ sum f (piece_entries (page t p)) + sum (λ e. pieces_under t f e.r) (child_entries (page t p))
      go zero lv = rw (leaf-children (page t p) lv, leaf-pieces (page t p) lv) (omega arith)
      go (suc l) lv = rw (above-children (page t p) l lv, above-pieces (page t p) l lv) (let a = lower (under f t.pages) l p pl lv in omega (arith, a))

  -- the start: the root is reached, and all is under it
  pub walked-none : Walked t []
  unfolding reached unopened
  walked-none = record {
    known = tt;
    pages = λ g. omega (arith, seen-root t F g);
    pieces = λ f. omega (arith, under-root t F f);
  }

  module _ (opened : List ℕ) (W : Walked t opened) where
    inside : Every (λ q. q < k t) opened
    inside = every_map _ (λ q. q < k t) (λ q h. h.0) opened W.known

    children-inside : (p : ℕ) → p < k t → Every (λ c. c < k t) (children t p)
    children-inside p pl = go (child_entries (page t p)) (fits_all t F p pl)
      where
        go : (es : List Entry) → Every (Fits t.pages (page t p).level) es → Every (λ c. c < k t) (map (λ e. e.r) es)
        go [] h = tt
        go (e ∷ es) h = (h.0.inside, go es h.1)

    reached-inside : Every (λ q. q < k t) (reached t opened)
    unfolding reached
    reached-inside = (F.top, go opened inside)
      where
        go : (qs : List ℕ) → Every (λ q. q < k t) qs → Every (λ q. q < k t) (concat_map (children t) qs)
        go [] h = tt
        go (q ∷ qs) h = every_append (λ c. c < k t) (children t q) (concat_map (children t) qs) (children-inside q h.0) (go qs h.1)

    pub unopened-inside : Every (λ q. q < k t) (unopened t opened)
    unfolding unopened
    unopened-inside = every-filter (λ q. q < k t) (λ q. not (is_among q opened)) (reached t opened) reached-inside

    module _ (p : ℕ) (here : is_among p (unopened t opened) ≡ true) where
      pub opens-inside : p < k t
      opens-inside = among-every (λ q. q < k t) p (unopened t opened) unopened-inside here

      abbrev pub next : List ℕ
      next = opened ++ p ∷ []

      is-reached : is_among p (reached t opened) ≡ true
      unfolding unopened
      is-reached = among-every (λ q. is_among q (reached t opened) ≡ true) p (unopened t opened)
          (every-filter (λ q. is_among q (reached t opened) ≡ true) (λ q. not (is_among q opened)) (reached t opened) (all-among (reached t opened))) here

      is-unopened : is_among p opened ≡ false
      unfolding unopened
      is-unopened = not_true (is_among p opened) (among-every (λ q. not (is_among q opened) ≡ true) p (unopened t opened) (filter-passes (λ q. not (is_among q opened)) (reached t opened)) here)

      opened-sum : (g : ℕ → ℕ) → sum g opened + g p ≤ sum_below (k t) g
      opened-sum g = omega (arith, W.pages g, sum-among (pages_under t g) p (unopened t opened) here, pages-from g p opens-inside)

      abbrev named : ℕ → ℕ → ℕ
      named c q = sum (is c) (child_entries (page t q))

      children-times : (c q : ℕ) → times c (children t q) ≡ named c q
      children-times c q = sum-map (λ m. one (eqb m c)) (λ e. e.r) (child_entries (page t q))

      reached-times : (c : ℕ) → times c (reached t opened) ≡ one (eqb t.root c) + sum (named c) opened
      unfolding reached
      reached-times c = ap (λ n. one (eqb t.root c) + n)
          (sum-concat (λ m. one (eqb m c)) (children t) opened ∙ sum_same (λ q. times c (children t q)) (named c) opened (every_one _ (children-times c) opened))

      -- no page is reached twice, and none of the children was
      once : (c : ℕ) → c < k t → times c (reached t opened) + times c (children t p) ≤ 1
      once c cl =
          let all : sum_below (k t) (named c) ≡ parents t c = sym (sum-places (λ g. sum (is c) (child_entries g)) t.pages no_page) in
          let n : parents t c ≡ cond (eqb t.root c) 0 1 = F.once c cl ∙ ap (λ b. cond b 0 1) (eqb-sym c t.root) in
          go (eqb t.root c) (times c (reached t opened)) (times c (children t p)) (sum (named c) opened) (named c p) (reached-times c) (children-times c p)
          (omega (arith, opened-sum (named c), all, n))
        where
          go : (b : Bool) (r ch o m : ℕ) → r ≡ one b + o → ch ≡ m → o + m ≤ cond b 0 1 → r + ch ≤ 1
          go true r ch o m e f l = omega arith
          go false r ch o m e f l = omega arith

      reached-one : times p (reached t opened) ≡ 1
      reached-one = omega (arith, once p opens-inside, among-some p (reached t opened) is-reached)

      child-new : (c : ℕ) → c < k t → is_among c (children t p) ≡ true → is_among c next ≡ false
      child-new c cl e =
          let n : is_among c (reached t opened) ≡ false = among-none c (reached t opened) (omega (arith, once c cl, among-some c (children t p) e)) in
          among-none c next (omega (
            arith,
            sum-append (λ m. one (eqb m c)) opened (p ∷ []),
            not_opened n,
            other n (eqb p c) refl,
          ))
        where
          not_opened : is_among c (reached t opened) ≡ false → times c opened ≡ 0
          not_opened n = go (times c opened) refl
            where
              go : (m : ℕ) → times c opened ≡ m → times c opened ≡ 0
              go zero z = z
              go (suc m) z = absurd (not-both (is_among c (reached t opened))
                  (among-every (λ q. is_among q (reached t opened) ≡ true) c opened (every_map _ (λ q. is_among q (reached t opened) ≡ true) (λ q h. h.1) opened W.known)
                  (some-among c opened (omega arith))) n)

          other : is_among c (reached t opened) ≡ false → (b : Bool) → eqb p c ≡ b → one (eqb p c) ≡ 0
          other n true z = absurd (not-both (is_among c (reached t opened)) (subst (λ q. is_among q (reached t opened) ≡ true) (eqb→eq p c (true-T _ z)) is-reached) n)
          other n false z = ap one z

      reached-next : reached t next ≡ reached t opened ++ children t p
      unfolding reached
      reached-next = ap (λ z. t.root ∷ z) (concat-append (children t) opened (p ∷ []) ∙ ap (λ z. concat_map (children t) opened ++ z) (append-nil (children t p)))

      -- it goes, and its children come
      pub unopened-next : (h : ℕ → ℕ) → sum h (unopened t next) + h p ≡ sum h (unopened t opened) + sum (λ e. h e.r) (child_entries (page t p))
      unfolding unopened
      unopened-next h =
          let old : ℕ → Bool = λ q. not (is_among q opened) in
          let new : ℕ → Bool = λ q. not (is_among q next) in
          let xs : List ℕ = reached t opened in
          let ys : List ℕ = children t p in
          omega (
            arith,
            sum-filter new h (reached t next),
            ap (sum (λ q. cond (new q) (h q) 0)) reached-next,
            sum-append (λ q. cond (new q) (h q) 0) xs ys,
            sum_same (λ q. cond (new q) (h q) 0) h ys (every-both _ _ (λ q. cond (new q) (h q) 0 ≡ h q) (λ q l e. rw (child-new q l e)) ys (children-inside p opens-inside) (all-among ys)),
            sum-map h (λ e. e.r) (child_entries (page t p)),
            sum-filter old h xs,
            sum_same (λ q. cond (old q) (h q) 0) (λ q. cond (new q) (h q) 0 + one (eqb q p) * h p) xs (every_one _ step xs),
            sum-add (λ q. cond (new q) (h q) 0) (λ q. one (eqb q p) * h p) xs,
            sum-times (λ q. one (eqb q p)) (h p) xs,
            ap (λ n. n * h p) reached-one,
          )
        where
          step : (q : ℕ) → cond (not (is_among q opened)) (h q) 0 ≡ cond (not (is_among q next)) (h q) 0 + one (eqb q p) * h p
          step q = rw (among-last q opened p) (go (is_among q opened) (eqb q p) refl refl)
            where
              go : (a b : Bool) → is_among q opened ≡ a → eqb q p ≡ b → cond (not a) (h q) 0 ≡ cond (not (a || b)) (h q) 0 + one b * h p
              go true true x y = absurd (not-both (is_among q opened) x (subst (λ z. is_among z opened ≡ false) (sym (eqb→eq q p (true-T _ y))) is-unopened))
              go true false x y = omega arith
              go false true x y = rw (eqb→eq q p (true-T _ y)) (omega arith)
              go false false x y = omega arith

      -- so what holds goes on
      pub walked-next : Walked t next
      walked-next = record {
        known = every_append _ opened (p ∷ [])
            (every_map (λ q. (q < k t) × (is_among q (reached t opened) ≡ true)) (λ q. (q < k t) × (is_among q (reached t next) ≡ true)) (λ q h. (h.0, still q h.1)) opened W.known)
            ((opens-inside, still p is-reached), tt);
        pages = λ g. omega (arith, W.pages g, sum-append g opened (p ∷ []), unopened-next (pages_under t g), pages-from g p opens-inside);
        pieces = λ f.
            let own : ℕ → ℕ = λ q. sum f (piece_entries (page t q)) in
            omega (arith, W.pieces f, sum-append own opened (p ∷ []), unopened-next (pieces_under t f), pieces-from f p opens-inside);
      }
        where
          still : (q : ℕ) → is_among q (reached t opened) ≡ true → is_among q (reached t next) ≡ true
          still q e = rw reached-next (among-append q (reached t opened) (children t p) e)

    -- as many pages are opened or waiting as there can be
    pub few : length opened + length (unopened t opened) ≤ k t
    few = omega (
      arith,
      W.pages (λ q. 1),
      below-const (k t) 1,
      sum-length opened,
      sum-length (unopened t opened),
      sum-le (λ q. 1) (pages_under t (λ q. 1)) (unopened t opened) (every_map (λ q. q < k t) _ (λ q l. omega (arith, pages-from (λ q. 1) q l)) (unopened t opened) unopened-inside),
    )
