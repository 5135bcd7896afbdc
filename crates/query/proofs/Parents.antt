-- A page is opened as often as its parent is, where the parent's entry for it passes the page test: sums over the opened pages, by their children.
use Prim.Native.Nat.{ℕ, zero, suc, ◌+◌, ◌*◌, ◌≤◌, ◌<◌}
use native.Mathlib.Omega.{arith}
use native.Mathlib.Nat.{not-suc-le-zero}
use native.Mathlib.Decide.{ℕ_discrete}
use mathlib.Core.Path.{◌≡◌, refl, sym, ap, ◌∙◌}
use mathlib.Core.Logic.{◌≢◌}
use mathlib.Core.Bool.{Bool, true, false, cond}
use mathlib.Core.List.{List, [], ◌∷◌}
use lib.ListN.{length, get_or}
use lib.Dec.{T, eqb}
use borrow.Author.Tests.{eq-eqb, ne_eqb}
use Rattle.pages.specs.declared.Rect.{Rect}
use Rattle.pages.specs.declared.Entry.{Entry}
use Rattle.pages.specs.Lists.{one, sum, sum_below, concat_map, Every, times}
use Rattle.pages.specs.Rectangles.{valid, bounds}
use Rattle.pages.specs.Layout.{Table, no_entry, no_page, page}
use Rattle.pages.specs.Sound.{child_entries, is, parents, fewest}
use Rattle.pages.proofs.Lists.{every-at, every_map, every_append, sum-at, sum_same, sum-le, sum-add, sum-cond, sum-concat, every_one}
use Rattle.pages.proofs.Below.{below-same, below-add, below-const, sum-places, cond-le, cond-add, below-chosen, below_at}
use Rattle.pages.proofs.Facts.{Facts}
use Rattle.pages.proofs.Entries.{Fits, leaf-children, leaf-pieces, above-children, fits-above, root-free}
use Rattle.pages.proofs.Walk.{Within, bounds-each}
use Rattle.query.specs.Opening.{opened_under, opened_pages}
use Rattle.query.proofs.Root.{opened-once}
use Rattle.query.proofs.Tests.{Proper, proper, around}

-- of all terms one alone is not zero
below-only : (n : ℕ) (f g : ℕ → ℕ) (i : ℕ) → i < n → ((j : ℕ) → j < n → f j ≤ g j) → sum_below n g ≤ 1 → g i ≡ 1 → sum_below n f ≡ f i
below-only zero f g i l h s e = absurd (not-suc-le-zero l)
below-only (suc n) f g i l h s e = go (ℕ_discrete i n) (below-only n f g i)
  where
    none : (m : ℕ) → m ≤ n → sum_below m g ≡ 0 → sum_below m f ≡ 0
    none zero k z = refl
    none (suc m) k z = omega (arith, h m (omega arith), none m (omega arith) (omega arith))

    go : Dec (i ≡ n) → (i < n → ((j : ℕ) → j < n → f j ≤ g j) → sum_below n g ≤ 1 → g i ≡ 1 → sum_below n f ≡ f i) → sum_below (suc n) f ≡ f i
    go (yes z) r = omega (arith, ap g z, ap f z, none n (omega arith) (omega (arith, ap g z)))
    go (no z) r =
        let k : i < n = omega arith in
        omega (arith, h n (omega arith), below_at n g i k, r k (λ j m. h j (omega arith)) (omega arith) e)

sum-only : {A : Type 0} (f g : A → ℕ) (xs : List A) (d : A) (i : ℕ) → i < length xs → ((x : A) → f x ≤ g x) → sum g xs ≤ 1 → g (get_or xs i d) ≡ 1 → sum f xs ≡ f (get_or xs i d)
sum-only f g xs d i l h s e =
    sum-places f xs d
    ∙ below-only (length xs) (λ j. f (get_or xs j d)) (λ j. g (get_or xs j d)) i l (λ j k. h (get_or xs j d)) (omega (arith, sum-places g xs d)) e

module _ (t : Table) (F : Facts t) where
  pub child-inside : (l p i : ℕ) → p < length t.pages → (page t p).level ≡ suc l → i < length (page t p).entries → (get_or (page t p).entries i no_entry).r < length t.pages
  child-inside l p i pl lv il = (every-at (Fits t.pages (suc l)) (page t p).entries no_entry (fits-above t F l p pl lv) i il).inside

  -- the root is no child
  pub not_root : (l p i : ℕ) → p < length t.pages → (page t p).level ≡ suc l → i < length (page t p).entries → (get_or (page t p).entries i no_entry).r ≢ t.root
  not_root l p i pl lv il =
      every-at (λ x. x.r ≢ t.root) (page t p).entries no_entry (rw (above-children (page t p) l lv) at (root-free t F p pl)) i il

  named-one : (q : ℕ) → q < length t.pages → q ≢ t.root → parents t q ≡ 1
  named-one q ql n = F.once q ql ∙ ap (λ b. cond b 0 1) (ne_eqb q t.root n)

  -- a page but the root has an entry
  some-entry : (q : ℕ) → q < length t.pages → q ≢ t.root → 0 < length (page t q).entries
  unfolding fewest
  some-entry q ql n =
      let e : fewest t q ≡ 4 = rw (ne_eqb q t.root n) in
      omega (arith, F.enough q ql, e)

  -- so its bounds are a proper rectangle
  bounds-proper : (l q : ℕ) → q < length t.pages → (page t q).level ≡ l → q ≢ t.root → Proper (bounds (page t q).entries)
  bounds-proper zero q ql lv n =
      let es : List Entry = (page t q).entries in
      let v = every-at (λ x. T (valid x.rect)) es no_entry (rw (leaf-pieces (page t q) lv) at (F.valids q ql)) 0 (some-entry q ql n) in
      around (get_or es 0 no_entry).rect (bounds es) (proper _ v) (every-at (λ x. Within x.rect (bounds es)) es no_entry (bounds-each es) 0 (some-entry q ql n))
  bounds-proper (suc l) q ql lv n =
      let es : List Entry = (page t q).entries in
      let il = some-entry q ql n in
      let f = every-at (Fits t.pages (suc l)) es no_entry (fits-above t F l q ql lv) 0 il in
      let b = bounds-proper l (get_or es 0 no_entry).r f.inside (omega (arith, f.lower)) (not_root l q 0 ql lv il) in
      around (get_or es 0 no_entry).rect (bounds es) (rw f.exact b) (every-at (λ x. Within x.rect (bounds es)) es no_entry (bounds-each es) 0 il)

  pub child-proper : (l p i : ℕ) → p < length t.pages → (page t p).level ≡ suc l → i < length (page t p).entries → Proper (get_or (page t p).entries i no_entry).rect
  child-proper l p i pl lv il =
      let f = every-at (Fits t.pages (suc l)) (page t p).entries no_entry (fits-above t F l p pl lv) i il in
      rw f.exact (bounds-proper l (get_or (page t p).entries i no_entry).r f.inside (omega (arith, f.lower)) (not_root l p i pl lv il))

  module _ (o : Rect → Bool) where
    -- a weight over the children that a page opens
    onward : (ℕ → ℕ) → ℕ → ℕ
    onward g p = sum (λ e. cond (o e.rect) (g e.r) 0) (child_entries (page t p))

    opened-sum : (g : ℕ → ℕ) (l p : ℕ) → sum g (opened_under o t.pages (suc l) p) ≡ g p + sum (λ e. cond (o e.rect) (sum g (opened_under o t.pages l e.r)) 0) (page t p).entries
    unfolding opened_under
    opened-sum g l p =
        omega (
          arith,
          sum-concat g (λ e. cond (o e.rect) (opened_under o t.pages l e.r) []) (page t p).entries,
          sum_same (λ e. sum g (cond (o e.rect) (opened_under o t.pages l e.r) [])) (λ e. cond (o e.rect) (sum g (opened_under o t.pages l e.r)) 0) (page t p).entries
              (every_one _ (λ e. sum-cond g (o e.rect) (opened_under o t.pages l e.r)) (page t p).entries),
        )

    -- an opened page is the first one, or a child that an opened page opens
    opened-onward : (g : ℕ → ℕ) (l p : ℕ) → p < length t.pages → (page t p).level ≡ l → sum g (opened_under o t.pages l p) ≡ g p + sum (onward g) (opened_under o t.pages l p)
    unfolding opened_under onward
    opened-onward g zero p pl lv = omega (arith, ap (sum (λ e. cond (o e.rect) (g e.r) 0)) (leaf-children (page t p) lv))
    opened-onward g (suc l) p pl lv =
        let S : (ℕ → ℕ) → Entry → ℕ = λ f e. cond (o e.rect) (sum f (opened_under o t.pages l e.r)) 0 in
        let a = sum_same (S g) (λ e. cond (o e.rect) (g e.r) 0 + S (onward g) e) (page t p).entries
        (every_map (Fits t.pages (suc l)) _
        (λ e f. ap (λ n. cond (o e.rect) n 0) (opened-onward g l e.r f.inside (omega (arith, f.lower))) ∙ cond-add (o e.rect) (g e.r) (sum (onward g) (opened_under o t.pages l e.r)))
        (page t p).entries (fits-above t F l p pl lv)) in
        omega (
          arith,
          opened-sum g l p,
          opened-sum (onward g) l p,
          a,
          sum-add (λ e. cond (o e.rect) (g e.r) 0) (S (onward g)) (page t p).entries,
          ap (sum (λ e. cond (o e.rect) (g e.r) 0)) (above-children (page t p) l lv),
        )

    opened-below : (l p : ℕ) → p < length t.pages → (page t p).level ≡ l → Every (λ x. x < length t.pages) (opened_under o t.pages l p)
    unfolding opened_under
    opened-below zero p pl lv = (pl, tt)
    opened-below (suc l) p pl lv =
        (pl, each (page t p).entries (every_map (Fits t.pages (suc l)) _ (λ e f. opened-below l e.r f.inside (omega (arith, f.lower))) (page t p).entries (fits-above t F l p pl lv)))
      where
        choose : (b : Bool) (xs : List ℕ) → Every (λ x. x < length t.pages) xs → Every (λ x. x < length t.pages) (cond b xs [])
        choose true xs h = h
        choose false xs h = tt

        each : (es : List Entry) → Every (λ e. Every (λ x. x < length t.pages) (opened_under o t.pages l e.r)) es
            → Every (λ x. x < length t.pages) (concat_map (λ e. cond (o e.rect) (opened_under o t.pages l e.r) []) es)
        each [] h = tt
        each (e ∷ es) h =
            every_append (λ x. x < length t.pages) (cond (o e.rect) (opened_under o t.pages l e.r) []) (concat_map (λ x. cond (o x.rect) (opened_under o t.pages l x.r) []) es)
            (choose (o e.rect) (opened_under o t.pages l e.r) h.0) (each es h.1)

    pub opened_inside : Every (λ x. x < length t.pages) (opened_pages o t)
    unfolding opened_pages
    opened_inside = opened-below (page t t.root).level t.root F.top refl

    -- a sum over a list of page numbers, by how often each stands there
    by-times : (f : ℕ → ℕ) (n : ℕ) (xs : List ℕ) → Every (λ x. x < n) xs → sum f xs ≡ sum_below n (λ p. times p xs * f p)
    by-times f n [] h = sym (below-same n (λ p. 0 * f p) (λ p. 0) (λ p l. omega arith) ∙ (below-const n 0 ∙ omega arith))
    by-times f n (x ∷ xs) h =
        let a = below-chosen n f x h.0 in
        let b = below-same n (λ p. (one (eqb x p) + times p xs) * f p) (λ p. one (eqb x p) * f p + times p xs * f p) (λ p l. omega arith) in
        omega (arith, a, b, below-add n (λ p. one (eqb x p) * f p) (λ p. times p xs * f p), by-times f n xs h.1)

    -- a page below the root is opened as often as its parent, where its entry passes
    pub opened-child : (l p i : ℕ) → p < length t.pages → (page t p).level ≡ suc l → i < length (page t p).entries
        → times (get_or (page t p).entries i no_entry).r (opened_pages o t) ≡ times p (opened_pages o t) * one (o (get_or (page t p).entries i no_entry).rect)
    unfolding opened_pages onward
    opened-child l p i pl lv il =
        let k : ℕ = length t.pages in
        let e : Entry = get_or (page t p).entries i no_entry in
        let c : ℕ = e.r in
        let xs : List ℕ = opened_pages o t in
        let g : ℕ → ℕ = λ x. one (eqb x c) in
        let a : times c xs ≡ g t.root + sum (onward g) xs = opened-onward g (page t t.root).level t.root F.top refl in
        let r : g t.root ≡ 0 = ap one (ne_eqb t.root c (λ z. not_root l p i pl lv il (sym z))) in
        let b : sum (onward g) xs ≡ sum_below k (λ q. times q xs * onward g q) = by-times (onward g) k xs opened_inside in
        let n : sum_below k (λ q. sum (is c) (child_entries (page t q))) ≡ 1 =
        sym (sum-places (λ h. sum (is c) (child_entries h)) t.pages no_page) ∙ named-one c (child-inside l p i pl lv il) (not_root l p i pl lv il) in
        let ch : child_entries (page t p) ≡ (page t p).entries = above-children (page t p) l lv in
        let one-here : is c e ≡ 1 = ap one (eq-eqb c c refl) in
        let most : sum (is c) (page t p).entries ≤ 1 = omega (arith, n, below_at k (λ q. sum (is c) (child_entries (page t q))) p pl, ap (sum (is c)) ch) in
        let here : sum (is c) (child_entries (page t p)) ≡ 1 = omega (arith, ap (sum (is c)) ch, most, sum-at (is c) (page t p).entries i no_entry il, one-here) in
        let only = below-only k (λ q. times q xs * onward g q) (λ q. sum (is c) (child_entries (page t q))) p pl (λ q ql. small q ql c) (omega (arith, n)) here in
        let w : onward g p ≡ one (o e.rect) =
        ap (sum (λ x. cond (o x.rect) (g x.r) 0)) ch
        ∙ (sum-only (λ x. cond (o x.rect) (g x.r) 0) (is c) (page t p).entries no_entry i il (λ x. cond-le (o x.rect) (g x.r)) most one-here ∙ pass (o e.rect) (g c) one-here) in
        omega (arith, a, r, b, only, ap (λ x. times p xs * x) w)
      where
        pass : (b : Bool) (n : ℕ) → n ≡ 1 → cond b n 0 ≡ one b
        pass true n h = h
        pass false n h = refl

        times-le : (a m n : ℕ) → a ≤ 1 → m ≤ n → a * m ≤ n
        times-le zero m n h l = omega arith
        times-le (suc zero) m n h l = omega arith
        times-le (suc (suc a)) m n h l = absurd (omega arith)

        small : (q : ℕ) → q < length t.pages → (c : ℕ) → times q (opened_pages o t) * onward (λ x. one (eqb x c)) q ≤ sum (is c) (child_entries (page t q))
        small q ql c =
            times-le (times q (opened_pages o t)) (onward (λ x. one (eqb x c)) q) (sum (is c) (child_entries (page t q))) (opened-once t F o q ql)
            (sum-le (λ x. cond (o x.rect) (one (eqb x.r c)) 0) (is c) (child_entries (page t q)) (every_one _ (λ x. cond-le (o x.rect) (is c x)) (child_entries (page t q))))
