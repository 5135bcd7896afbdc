-- Placing keeps a table sound, and the leaves hold one piece more.
use Prim.Native.Nat.{ℕ, suc, ◌+◌, ◌-◌, ◌≤◌, ◌<◌}
use native.Mathlib.Omega.{arith}
use native.Mathlib.Decide.{ℕ_discrete, dec_lt}
use mathlib.Core.Path.{◌≡◌, refl, sym, ap}
use mathlib.Core.Logic.{◌≢◌}
use mathlib.Core.Bool.{Bool, true, false, not, cond}
use mathlib.Core.List.{List, [], ◌∷◌, ◌++◌}
use lib.ListN.{length, length-append, get_or-append}
use lib.Seq.{get_or_at}
use lib.Dec.{T, ltb, eqb, ltb→lt, lt→ltb}
use borrow.Author.Tests.{eq-eqb, ne_eqb}
use Rattle.pages.specs.declared.Rect.{Rect}
use Rattle.pages.specs.declared.Entry.{Entry}
use Rattle.pages.specs.Sizes.{PIECES}
use Rattle.pages.specs.Lists.{one, sum, Every}
use Rattle.pages.specs.Rectangles.{entry_of, valid, bounds}
use Rattle.pages.specs.Layout.{Page, Table, page_of, table_of, no_page, page_at, page}
use Rattle.pages.specs.Sound.{leaf, child_entries, piece_entries, is, stored, fewest}
use Rattle.pages.proofs.Lists.{at_every, every_map, every-both, sum-append, sum-at, sum-zero}
use Rattle.pages.proofs.Below.{eqb-sym, sum-nothing}
use Rattle.pages.proofs.Facts.{Facts}
use Rattle.pages.proofs.Counting.{Shape, shape-facts}
use Rattle.pages.proofs.Entries.{Fits, refit, is-not, names, leaves, above-children, above-pieces, fits_all, root-free, pieces-leaves}
use Rattle.placing.specs.Place.{Step, entry_for, down, new_root, place}
use Rattle.placing.proofs.Keeps.{loose, After, Before, between-low, between_in, between-high, after}

-- the pages of a sound table
module _ (t : Table) (F : Facts t) where
  one_more : (q : ℕ) → q < length t.pages → names t.pages q ≤ 1
  one_more q l = go (eqb q t.root) (F.once q l)
    where
      go : (b : Bool) → names t.pages q ≡ cond b 0 1 → names t.pages q ≤ 1
      go true h = omega arith
      go false h = omega arith

  not-bare : (q : ℕ) → q < length t.pages → 0 < (page t q).level → 0 < length (page t q).entries
  unfolding fewest
  not-bare q l h = go (eqb q t.root) (F.enough q l)
    where
      go : (b : Bool) → cond b (cond (leaf (page t q)) 0 2) 4 ≤ length (page t q).entries → 0 < length (page t q).entries
      go true k =
          let z : leaf (page t q) ≡ false = ne_eqb (page t q).level 0 (omega arith) in
          let k' : 2 ≤ length (page t q).entries = rw z at k in
          omega arith
      go false k = omega arith

  named-full : (q : ℕ) → q < length t.pages → 0 < names t.pages q → 0 < length (page t q).entries
  unfolding fewest
  named-full q l h = go (eqb q t.root) (F.once q l) (F.enough q l)
    where
      go : (b : Bool) → names t.pages q ≡ cond b 0 1 → cond b (cond (leaf (page t q)) 0 2) 4 ≤ length (page t q).entries → 0 < length (page t q).entries
      go true n k = absurd (omega (arith, h))
      go false n k = omega arith

  pub before : Before t.pages
  before = record { fits = fits_all t F; some = not-bare; eight = F.eight; once = one_more; full = named-full }

  -- nothing names a page from k on
  beyond : (q : ℕ) → length t.pages ≤ q → names t.pages q ≡ 0
  beyond q l = sum-nothing (λ p. sum (is q) (child_entries p)) t.pages (at_every (λ p. sum (is q) (child_entries p) ≡ 0) t.pages no_page
      (λ p k. sum-nothing (is q) (child_entries (page t p)) (every_map (λ x. x.r < length t.pages) (λ x. is q x ≡ 0) (λ x h. is-not q x (omega arith)) (child_entries (page t p)) (F.inside p k))))

-- a test that each piece passes
untrue : (q : Entry → Bool) → Entry → ℕ
untrue q x = one (not (q x))

passes : (q : Entry → Bool) (x : Entry) → untrue q x ≡ 0 → T (q x)
unfolding untrue
passes q x h = go (q x) h
  where
    go : (b : Bool) → one (not b) ≡ 0 → T b
    go true k = tt
    go false k = absurd (omega arith)

passed : (q : Entry → Bool) (x : Entry) → T (q x) → untrue q x ≡ 0
unfolding untrue
passed q x h = go (q x) h
  where
    go : (b : Bool) → T b → one (not b) ≡ 0
    go true k = refl
    go false k = absurd k

tests-kept : (q : Entry → Bool) (ps vs : List Page) (e : Entry) → ((f : Entry → ℕ) → leaves f vs ≡ f e + leaves f ps) → T (q e)
    → ((p : ℕ) → p < length ps → Every (λ x. T (q x)) (piece_entries (page_at ps p))) → (p : ℕ) → p < length vs → Every (λ x. T (q x)) (piece_entries (page_at vs p))
tests-kept q ps vs e h te tp p l =
    let a : leaves (untrue q) ps ≡ 0 = sum-nothing (λ x. sum (untrue q) (piece_entries x)) ps (at_every (λ x. sum (untrue q) (piece_entries x) ≡ 0) ps no_page
    (λ i k. sum-nothing (untrue q) (piece_entries (page_at ps i)) (every_map (λ x. T (q x)) (λ x. untrue q x ≡ 0) (λ x y. passed q x y) (piece_entries (page_at ps i)) (tp i k)))) in
    let b : sum (untrue q) (piece_entries (page_at vs p)) ≡ 0 = omega (arith, a, h (untrue q), passed q e te, sum-at (λ x. sum (untrue q) (piece_entries x)) vs p no_page l) in
    every_map (λ x. untrue q x ≡ 0) (λ x. T (q x)) (λ x y. passes q x y) (piece_entries (page_at vs p)) (sum-zero (untrue q) (piece_entries (page_at vs p)) b)

module _ (t : Table) (F : Facts t) (n : ℕ) (r : Rect) (vr : T (valid r)) (vn : n < PIECES) (free : stored t n ≡ 0)
    (s : Step) (A : After t.pages (page t t.root).level t.root (entry_of r n) s) where
  abbrev h : ℕ
  h = (page t t.root).level

  abbrev e : Entry
  e = entry_of r n

  -- the pages that are left fit together
  fit : (q : ℕ) → q < length s.pages → Every (Fits s.pages (page_at s.pages q).level) (child_entries (page_at s.pages q))
  fit q l = go (dec_lt h (page_at s.pages q).level) (dec_lt q (length t.pages))
    where
      go : Dec (h < (page_at s.pages q).level) → Dec (q < length t.pages) → Every (Fits s.pages (page_at s.pages q).level) (child_entries (page_at s.pages q))
      go (no a) b = A.fits q l (omega arith)
      go (yes a) (no b) = absurd (omega (arith, A.fresh q (omega arith) l))
      go (yes a) (yes b) =
          let k : (page_at s.pages q).level ≡ (page t q).level = A.kept q b in
          let nr : q ≢ t.root = λ z. omega (arith, ap (λ y. (page t y).level) z) in
          rw (A.frame q b nr (omega arith)) (every-both (λ x. x.r ≢ t.root) (Fits t.pages (page t q).level) (Fits s.pages (page t q).level)
          (λ x m f. refit t.pages s.pages (page t q).level x (omega (arith, A.grown)) (A.frame x.r f.inside m (omega (arith, f.lower))) f)
          (child_entries (page t q)) (root-free t F q b) (fits_all t F q b))

  -- the pieces
  module _ (vs : List Page) (hold : (f : Entry → ℕ) → leaves f vs ≡ f e + leaves f t.pages) where
    hold-valid : (p : ℕ) → p < length vs → Every (λ x. T (valid x.rect)) (piece_entries (page_at vs p))
    hold-valid = tests-kept (λ x. valid x.rect) t.pages vs e hold vr F.valids

    hold-number : (p : ℕ) → p < length vs → Every (λ x. x.r < PIECES) (piece_entries (page_at vs p))
    hold-number p l = every_map (λ x. T (ltb x.r PIECES)) (λ x. x.r < PIECES) (λ x y. ltb→lt x.r PIECES y) (piece_entries (page_at vs p))
        (tests-kept (λ x. ltb x.r PIECES) t.pages vs e hold (lt→ltb n PIECES vn)
        (λ q k. every_map (λ x. x.r < PIECES) (λ x. T (ltb x.r PIECES)) (λ x y. lt→ltb x.r PIECES y) (piece_entries (page t q)) (F.numbers q k)) p l)

    hold-once : (c : ℕ) → c < PIECES → leaves (is c) vs ≤ 1
    hold-once c l = go (ℕ_discrete n c)
      where
        go : Dec (n ≡ c) → leaves (is c) vs ≤ 1
        go (yes z) = rw (← z) (omega (arith, hold (is n), free, ap one (eq-eqb n n refl)))
        go (no z) = omega (arith, hold (is c), is-not c e z, F.distinct c l)

    hold-count : suc t.count ≡ sum (λ p. length (piece_entries p)) vs
    hold-count = omega (arith, F.counted, pieces-leaves vs, pieces-leaves t.pages, hold (λ x. 1))

  -- how often a page is named, before the root is seen to
  named-now : (q : ℕ) → q < length s.pages → names s.pages q + loose s q ≡ cond (eqb q t.root) 0 1
  named-now q l = go (dec_lt q (length t.pages))
    where
      go : Dec (q < length t.pages) → names s.pages q + loose s q ≡ cond (eqb q t.root) 0 1
      go (yes a) = omega (arith, A.naming q, between-low (length t.pages) (length s.pages) q a, F.once q a)
      go (no a) =
          let z : ◌≡◌ {A = ℕ} (cond (eqb q t.root) 0 1) 1 = ap (λ b. cond b 0 1) (ne_eqb q t.root (omega (arith, F.top))) in
          omega (arith, A.naming q, between_in (length t.pages) (length s.pages) q (omega arith) l, beyond t F q (omega arith), z)

  level-now : (q : ℕ) → q < length s.pages → (page_at s.pages q).level ≤ 4
  level-now q l = go (dec_lt q (length t.pages))
    where
      go : Dec (q < length t.pages) → (page_at s.pages q).level ≤ 4
      go (yes a) = omega (arith, A.kept q a, F.levels q a)
      go (no a) = omega (arith, A.fresh q (omega arith) l, F.levels t.root F.top)

  -- the root was not split
  unsplit : s.split ≡ false → Shape (table_of t.root (suc t.count) s.pages)
  unfolding fewest
  unsplit ns = record {
    most = omega arith;
    top = omega (arith, F.top, A.grown);
    levels = λ q l. omega (arith, level-now q l);
    lower = λ q l. every_map (Fits s.pages (page_at s.pages q).level) (λ x. (page_at s.pages q).level ≡ suc (page_at s.pages x.r).level) (λ x f. f.lower) (child_entries (page_at s.pages q)) (fit q l);
    once = λ q l. omega (arith, named-now q l, ap (λ b. cond b (one (eqb (length s.pages - 1) q)) 0) ns);
    inside = λ q l. every_map (Fits s.pages (page_at s.pages q).level) (λ x. x.r < length s.pages) (λ x f. f.inside) (child_entries (page_at s.pages q)) (fit q l);
    enough = λ q l. size q l (dec_lt q (length t.pages));
    eight = A.eight;
    exact = λ q l. every_map (Fits s.pages (page_at s.pages q).level) (λ x. x.rect ≡ bounds (page_at s.pages x.r).entries) (λ x f. f.exact) (child_entries (page_at s.pages q)) (fit q l);
    valids = hold-valid s.pages A.holding;
    numbers = hold-number s.pages A.holding;
    distinct = hold-once s.pages A.holding;
    counted = hold-count s.pages A.holding;
  }
    where
      four : (a b : Bool) → cond a (cond b 0 2) 4 ≤ 4
      four true true = omega arith
      four true false = omega arith
      four false b = omega arith

      size : (q : ℕ) → q < length s.pages → Dec (q < length t.pages) → cond (eqb q t.root) (cond (leaf (page_at s.pages q)) 0 2) 4 ≤ length (page_at s.pages q).entries
      size q l (yes a) =
          let z : leaf (page_at s.pages q) ≡ leaf (page t q) = ap (λ x. eqb x 0) (A.kept q a) in
          rw z (omega (arith, F.enough q a, A.least q a, four (eqb q t.root) (leaf (page t q))))
      size q l (no a) = omega (arith, A.enough q (omega arith) l, four (eqb q t.root) (leaf (page_at s.pages q)))

  -- the root was split
  module _ (sp : T s.split) where
    abbrev top2 : Page
    top2 = page_of (suc (page_at s.pages t.root).level) (entry_for t.root s.pages ∷ entry_for (length s.pages - 1) s.pages ∷ [])

    abbrev vs : List Page
    vs = s.pages ++ (top2 ∷ [])

    len2 : length vs ≡ length s.pages + 1
    len2 = length-append s.pages (top2 ∷ [])

    old2 : (q : ℕ) → q < length s.pages → page_at vs q ≡ page_at s.pages q
    old2 q l = get_or-append s.pages (top2 ∷ []) no_page q l

    new2 : page_at vs (length s.pages) ≡ top2
    new2 = get_or_at s.pages top2 [] no_page (length s.pages) refl

    root_in : t.root < length s.pages
    root_in = omega (arith, F.top, A.grown)

    -- a page is one of the old ones or the new root
    each2 : (Q : ℕ → Type 0) → ((q : ℕ) → q < length s.pages → Q q) → Q (length s.pages) → (q : ℕ) → q < length vs → Q q
    each2 Q a b q l = go (dec_lt q (length s.pages))
      where
        go : Dec (q < length s.pages) → Q q
        go (yes x) = a q x
        go (no x) =
            let z : q ≡ length s.pages = omega (arith, len2) in
            rw z b

    root-level : (page_at s.pages t.root).level ≡ h
    root-level = A.kept t.root F.top

    fit-top : Every (Fits vs (suc (page_at s.pages t.root).level)) top2.entries
    unfolding entry_for
    fit-top =
        let m : ℕ = length s.pages - 1 in
        let ml : m < length s.pages = omega (arith, root_in) in (
          record { inside = omega (arith, root_in, len2); lower = ap (λ x. suc x.level) (sym (old2 t.root root_in)); exact = ap (λ x. bounds x.entries) (sym (old2 t.root root_in)) },
          (
            record { inside = omega (arith, ml, len2); lower = omega (arith, ap (λ x. x.level) (old2 m ml), A.last sp, root-level); exact = ap (λ x. bounds x.entries) (sym (old2 m ml)) },
            tt,
          ),
        )

    fit2 : (q : ℕ) → q < length vs → Every (Fits vs (page_at vs q).level) (child_entries (page_at vs q))
    fit2 = each2 (λ q. Every (Fits vs (page_at vs q).level) (child_entries (page_at vs q)))
        (λ q l. rw (old2 q l) (every_map (Fits s.pages (page_at s.pages q).level) (Fits vs (page_at s.pages q).level)
        (λ x f. refit s.pages vs (page_at s.pages q).level x (omega (arith, len2)) (old2 x.r f.inside) f) (child_entries (page_at s.pages q)) (fit q l)))
        (rw (new2, above-children top2 (page_at s.pages t.root).level refl) fit-top)

    names2 : (q : ℕ) → names vs q ≡ names s.pages q + (one (eqb t.root q) + one (eqb (length s.pages - 1) q))
    unfolding entry_for
    names2 q = omega (arith, sum-append (λ x. sum (is q) (child_entries x)) s.pages (top2 ∷ []), ap (sum (is q)) (above-children top2 (page_at s.pages t.root).level refl))

    hold2 : (f : Entry → ℕ) → leaves f vs ≡ f e + leaves f t.pages
    hold2 f = omega (arith, sum-append (λ x. sum f (piece_entries x)) s.pages (top2 ∷ []), ap (sum f) (above-pieces top2 (page_at s.pages t.root).level refl), A.holding f)

    loose2 : (q : ℕ) → loose s q ≡ one (eqb (length s.pages - 1) q)
    loose2 q = go s.split sp
      where
        go : (b : Bool) → T b → cond b (one (eqb (length s.pages - 1) q)) 0 ≡ one (eqb (length s.pages - 1) q)
        go true z = refl
        go false z = absurd z

    once2 : (q : ℕ) → q < length vs → names vs q ≡ cond (eqb q (length s.pages)) 0 1
    once2 = each2 (λ q. names vs q ≡ cond (eqb q (length s.pages)) 0 1)
        (λ q l. rw (ne_eqb q (length s.pages) (omega arith)) (omega (arith, names2 q, loose2 q, named-now q l, flip (eqb q t.root), ap one (eqb-sym t.root q))))
        (rw (eq-eqb (length s.pages) (length s.pages) refl)
        (omega (
          arith,
          names2 (length s.pages),
          loose2 (length s.pages),
          A.naming (length s.pages),
          beyond t F (length s.pages) (omega (arith, A.grown)),
          between-high (length t.pages) (length s.pages) (length s.pages) (omega (arith, A.grown)) (omega arith),
          ap one (ne_eqb t.root (length s.pages) (omega (arith, root_in))),
        )))
      where
        flip : (b : Bool) → cond b 0 1 + one b ≡ 1
        flip true = refl
        flip false = refl

    big2 : (q : ℕ) → q < length s.pages → 4 ≤ length (page_at s.pages q).entries
    unfolding fewest
    big2 q l = go (dec_lt q (length t.pages)) (ℕ_discrete q t.root)
      where
        go : Dec (q < length t.pages) → Dec (q ≡ t.root) → 4 ≤ length (page_at s.pages q).entries
        go (no a) b = A.enough q (omega arith) l
        go (yes a) (yes b) = rw b (A.half sp)
        go (yes a) (no b) =
            let z : 4 ≤ length (page t q).entries = rw (ne_eqb q t.root b) at (F.enough q a) in
            omega (arith, A.least q a)

    split : Shape (table_of (length s.pages) (suc t.count) vs)
    unfolding fewest
    split = record {
      most = omega arith;
      top = omega (arith, len2);
      levels = each2 (λ q. (page_at vs q).level ≤ 5) (λ q l. rw (old2 q l) (omega (arith, level-now q l))) (rw new2 (omega (arith, level-now t.root root_in)));
      lower = λ q l. every_map (Fits vs (page_at vs q).level) (λ x. (page_at vs q).level ≡ suc (page_at vs x.r).level) (λ x f. f.lower) (child_entries (page_at vs q)) (fit2 q l);
      once = once2;
      inside = λ q l. every_map (Fits vs (page_at vs q).level) (λ x. x.r < length vs) (λ x f. f.inside) (child_entries (page_at vs q)) (fit2 q l);
      enough = each2 (λ q. cond (eqb q (length s.pages)) (cond (leaf (page_at vs q)) 0 2) 4 ≤ length (page_at vs q).entries)
          (λ q l. rw (ne_eqb q (length s.pages) (omega arith), old2 q l) (big2 q l))
          (rw (eq-eqb (length s.pages) (length s.pages) refl, new2) (two (leaf top2)));
      eight = each2 (λ q. length (page_at vs q).entries ≤ 8) (λ q l. rw (old2 q l) (A.eight q l)) (rw new2 (omega arith));
      exact = λ q l. every_map (Fits vs (page_at vs q).level) (λ x. x.rect ≡ bounds (page_at vs x.r).entries) (λ x f. f.exact) (child_entries (page_at vs q)) (fit2 q l);
      valids = hold-valid vs hold2;
      numbers = hold-number vs hold2;
      distinct = hold-once vs hold2;
      counted = hold-count vs hold2;
    }
      where
        two : (b : Bool) → cond b 0 2 ≤ 2
        two true = omega arith
        two false = omega arith

-- the step from the root
abbrev pub root_step : Table → ℕ → Rect → Step
root_step t n r = down (page t t.root).level t.root (entry_of r n) t.pages

pub root-after : (t : Table) (n : ℕ) (r : Rect) → Facts t → After t.pages (page t t.root).level t.root (entry_of r n) (root_step t n r)
root-after t n r F = after (page t t.root).level t.root (entry_of r n) t.pages (before t F) F.top refl

pub place-sound : (t : Table) (n : ℕ) (r : Rect) → Facts t → T (valid r) → n < PIECES → stored t n ≡ 0 → Facts (place t n r)
unfolding place new_root
place-sound t n r F vr vn free = shape-facts (place t n r) (go s.split refl)
  where
    s : Step
    s = root_step t n r

    go : (b : Bool) → s.split ≡ b → Shape (cond b (table_of (length s.pages) (suc t.count) (new_root t.root s.pages)) (table_of t.root (suc t.count) s.pages))
    go true h = split t F n r vr vn free s (root-after t n r F) (rw h tt)
    go false h = unsplit t F n r vr vn free s (root-after t n r F) h

-- what the leaves hold afterwards: the new piece, and what they held
pub place-holds : (t : Table) (n : ℕ) (r : Rect) → Facts t → T (valid r) → n < PIECES → stored t n ≡ 0 → (f : Entry → ℕ) → leaves f (place t n r).pages ≡ f (entry_of r n) + leaves f t.pages
unfolding place new_root
place-holds t n r F vr vn free f = go s.split refl
  where
    s : Step
    s = root_step t n r

    go : (b : Bool) → s.split ≡ b → leaves f (cond b (table_of (length s.pages) (suc t.count) (new_root t.root s.pages)) (table_of t.root (suc t.count) s.pages)).pages
        ≡ f (entry_of r n) + leaves f t.pages
    go true h = hold2 t F n r vr vn free s (root-after t n r F) (rw h tt) f
    go false h = (root-after t n r F).holding f
