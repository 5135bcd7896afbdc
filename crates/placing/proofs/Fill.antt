-- What a step on one page leaves.
use Prim.Native.Nat.{ℕ, suc, ◌+◌, ◌-◌, ◌≤◌, ◌<◌, min}
use native.Mathlib.Omega.{arith}
use native.Mathlib.Decide.{dec_lt}
use mathlib.Core.Path.{◌≡◌, refl, sym, ap, ◌∙◌}
use mathlib.Core.Logic.{◌≢◌}
use mathlib.Core.Bool.{Bool, true, false, cond}
use mathlib.Core.List.{List, [], ◌∷◌, ◌++◌}
use lib.ListN.{length, take, drop, set, length-append, length-take, length-drop, length-set, get_or-append}
use lib.Seq.{get_or-set_same, get_or-set_other, get_or_at}
use lib.Dec.{T, leb}
use borrow.Author.Tests.{leb-true, leb-false}
use Rattle.pages.specs.declared.Rect.{Rect}
use Rattle.pages.specs.declared.Entry.{Entry}
use Rattle.pages.specs.Lists.{one, sum, Every}
use Rattle.pages.specs.Rectangles.{widen, bounds}
use Rattle.pages.specs.Layout.{Page, page_of, no_page, page_at}
use Rattle.pages.proofs.Lists.{every_take, every_drop, sum-append, sum-set}
use Rattle.placing.specs.Place.{before, scan, choose, ordered, Step, step_of, fill}
use Rattle.placing.proofs.Sort.{length-ordered, sum-parts, every-ordered}
use Rattle.placing.proofs.Bounding.{bounds-parts}

-- q is the page p that was filled, or new
abbrev pub Touched : List Page → ℕ → ℕ → Type 0
Touched ps p q = q < length ps → q ≡ p

-- the bounds of what the step s left in page p and in the page that split off it
abbrev pub spread : ℕ → Step → Rect
spread p s =
    let here : Rect = bounds (page_at s.pages p).entries in
    cond s.split (widen here (bounds (page_at s.pages (length s.pages - 1)).entries)) here

-- page p was to hold es, and the step s was left
pub record Fill (ps : List Page) (p : ℕ) (es : List Entry) (s : Step) : Type 1 where
  pub len : length s.pages ≡ length ps + one s.split
  pub same : (q : ℕ) → q < length ps → q ≢ p → page_at s.pages q ≡ page_at ps q
  pub level : (q : ℕ) → q < length s.pages → Touched ps p q → (page_at s.pages q).level ≡ (page_at ps p).level
  pub most : (q : ℕ) → q < length s.pages → Touched ps p q → length (page_at s.pages q).entries ≤ 8
  pub least : (q : ℕ) → q < length s.pages → Touched ps p q → min 4 (length es) ≤ length (page_at s.pages q).entries
  pub whole : T s.split → 4 ≤ length es
  pub every : (P : Entry → Type 0) → Every P es → (q : ℕ) → q < length s.pages → Touched ps p q → Every P (page_at s.pages q).entries
  pub total : (W : Page → ℕ) (g : Entry → ℕ) → ((xs : List Entry) → W (page_of (page_at ps p).level xs) ≡ sum g xs)
      → sum W s.pages + sum g (page_at ps p).entries ≡ sum W ps + sum g es
  pub around : spread p s ≡ bounds es

module _ (ps : List Page) (p : ℕ) (es : List Entry) (pl : p < length ps) (le : length es ≤ 9) where
  abbrev l : ℕ
  l = (page_at ps p).level

  abbrev kept : Step
  kept = step_of (set ps p (page_of l es)) false

  abbrev fst4 : Page
  fst4 = page_of l (take 4 (ordered es))

  abbrev snd5 : Page
  snd5 = page_of l (drop 4 (ordered es))

  abbrev cut : Step
  cut = step_of (set ps p fst4 ++ (snd5 ∷ [])) true

  -- a page that was filled, in each case
  in_kept : (Q : Page → Type 0) → Q (page_of l es) → (q : ℕ) → q < length (set ps p (page_of l es)) → Touched ps p q → Q (page_at (set ps p (page_of l es)) q)
  in_kept Q h q ql tq =
      let e : q ≡ p = tq (omega (arith, length-set ps p (page_of l es))) in
      rw (e, get_or-set_same ps p (page_of l es) no_page pl) h

  cut-here : page_at (set ps p fst4 ++ (snd5 ∷ [])) p ≡ fst4
  cut-here = get_or-append (set ps p fst4) (snd5 ∷ []) no_page p (omega (arith, length-set ps p fst4)) ∙ get_or-set_same ps p fst4 no_page pl

  cut-last : (q : ℕ) → q ≡ length ps → page_at (set ps p fst4 ++ (snd5 ∷ [])) q ≡ snd5
  cut-last q e = get_or_at (set ps p fst4) snd5 [] no_page q (length-set ps p fst4 ∙ sym e)

  in_cut : (Q : Page → Type 0) → Q fst4 → Q snd5 → (q : ℕ) → q < length (set ps p fst4 ++ (snd5 ∷ [])) → Touched ps p q → Q (page_at (set ps p fst4 ++ (snd5 ∷ [])) q)
  in_cut Q h k q ql tq = go (dec_lt q (length ps))
    where
      go : Dec (q < length ps) → Q (page_at (set ps p fst4 ++ (snd5 ∷ [])) q)
      go (yes a) =
          let e : q ≡ p = tq a in
          rw (e, cut-here) h
      go (no a) =
          let e : q ≡ length ps = omega (arith, length-set ps p fst4, length-append (set ps p fst4) (snd5 ∷ [])) in
          rw (cut-last q e) k

  fill-kept : length es ≤ 8 → Fill ps p es kept
  fill-kept h = record {
    len = omega (arith, length-set ps p (page_of l es));
    same = λ q ql n. get_or-set_other ps p q (page_of l es) no_page n;
    level = in_kept (λ x. x.level ≡ l) refl;
    most = in_kept (λ x. length x.entries ≤ 8) h;
    least = in_kept (λ x. min 4 (length es) ≤ length x.entries) (omega arith);
    whole = λ b. absurd b;
    every = λ P e. in_kept (λ x. Every P x.entries) e;
    total = λ W g h. omega (arith, sum-set W ps p (page_of l es) no_page pl, h es, h (page_at ps p).entries);
    around = ap (λ x. bounds x.entries) (get_or-set_same ps p (page_of l es) no_page pl);
  }

  fill-cut : 8 < length es → Fill ps p es cut
  fill-cut h = record {
    len = omega (arith, length-set ps p fst4, length-append (set ps p fst4) (snd5 ∷ []));
    same = λ q ql n. get_or-append (set ps p fst4) (snd5 ∷ []) no_page q (omega (arith, length-set ps p fst4)) ∙ get_or-set_other ps p q fst4 no_page n;
    level = in_cut (λ x. x.level ≡ l) refl refl;
    most = in_cut (λ x. length x.entries ≤ 8) (omega (arith, length-take 4 (ordered es))) (omega (arith, length-drop 4 (ordered es), length-ordered es));
    least = in_cut (λ x. min 4 (length es) ≤ length x.entries) (omega (arith, length-take 4 (ordered es), length-ordered es)) (omega (arith, length-drop 4 (ordered es), length-ordered es));
    whole = λ b. omega arith;
    every = λ P e. in_cut (λ x. Every P x.entries) (every_take P 4 (ordered es) (every-ordered P es e)) (every_drop P 4 (ordered es) (every-ordered P es e));
    total = λ W g h. omega (
      arith,
      sum-append W (set ps p fst4) (snd5 ∷ []),
      sum-set W ps p fst4 no_page pl,
      h (take 4 (ordered es)),
      h (drop 4 (ordered es)),
      h (page_at ps p).entries,
      sum-parts g es,
    );
    around =
        let m : length (set ps p fst4 ++ (snd5 ∷ [])) - 1 ≡ length ps = omega (arith, length-set ps p fst4, length-append (set ps p fst4) (snd5 ∷ [])) in
        ap (λ x. widen (bounds x.entries) (bounds (page_at (set ps p fst4 ++ (snd5 ∷ [])) (length (set ps p fst4 ++ (snd5 ∷ [])) - 1)).entries)) cut-here
        ∙ (ap (λ x. widen (bounds fst4.entries) (bounds x.entries)) (cut-last (length (set ps p fst4 ++ (snd5 ∷ [])) - 1) m) ∙ bounds-parts es (omega arith));
  }

  pub filled : Fill ps p es (fill p es ps)
  unfolding fill
  filled = go (leb (length es) 8) refl
    where
      go : (b : Bool) → leb (length es) 8 ≡ b → Fill ps p es (cond b kept cut)
      go true h = fill-kept (leb-true (length es) 8 h)
      go false h = fill-cut (leb-false (length es) 8 h)

-- the entry to go to is one of the page's
scan-below : (new best : Rect) (at next n : ℕ) (es : List Entry) → at < n → next + length es ≤ n → scan new best at next es < n
unfolding scan
scan-below new best at next n [] h k = h
scan-below new best at next n (e ∷ es) h k =
    scan-below new (cond (before new e.rect best) e.rect best) (cond (before new e.rect best) next at) (suc next) n es (go (before new e.rect best)) (omega arith)
  where
    go : (b : Bool) → cond b next at < n
    go true = omega arith
    go false = h

pub choose-below : (new : Rect) (es : List Entry) → 0 < length es → choose new es < length es
unfolding choose
choose-below new [] h = h
choose-below new (e ∷ es) h = scan-below new e.rect 0 1 (length (e ∷ es)) es (omega arith) (omega arith)
