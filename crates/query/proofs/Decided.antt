-- What lies beyond the window fails the page test and the leaf test; for the admitted set of overlap all else passes both.
use Prim.Native.Nat.{ℕ, ◌+◌, ◌-◌, ◌<◌, ◌≤◌}
use native.Mathlib.Omega.{arith}
use mathlib.Core.Path.{◌≡◌, refl, sym, ap, ◌∙◌}
use mathlib.Core.Logic.{◌⊎◌, inl, inr, ⊎_elim}
use mathlib.Core.Bool.{Bool, true, false, ◌||◌}
use mathlib.Core.List.{List}
use lib.Dec.{T, ltb}
use borrow.Author.Tests.{ltb-true, ltb-false}
use Rattle.relations.specs.declared.Reach.{Reach}
use Rattle.relations.specs.declared.Reach.TheVariants.{Inner, Near, Anywhere}
use Rattle.relations.specs.Steps.{joined_of, near_by, inner_by, reach_by, whole_by, overlap_by}
use Rattle.relations.proofs.Tests.{and_left, and_right, or_left, or_right}
use Rattle.relations.proofs.Sides.{is_code}
use Rattle.relations.proofs.Near.{Shut, shut-y, shut-x, apart, outside, near-shut, inner-shut, leaf-less}
use Rattle.relations.proofs.Whole.{Overlapping, overlapping, whole-leaf, whole-page, reach-inner, inner-is, near-is}
use Rattle.pages.specs.declared.Rect.{Rect}
use Rattle.pages.specs.Sizes.{EDGE}
use Rattle.pages.specs.Rectangles.{rect_of, valid, Small}
use Rattle.query.specs.Admission.{code_y, code_x}
use Rattle.query.specs.Steps.{admits_by, opens_by}
use Rattle.query.specs.Window.{window_for, beyond, Decides}
use Rattle.query.proofs.Tests.{Proper, proper}

either : (a b : Bool) → (a || b) ≡ true → (a ≡ true) ⊎ (b ≡ true)
either true b e = inl refl
either false b e = inr e

-- on which axis p lies beyond w
data Side (w p : Rect) : Type 0 where
  on-y : (w.y2 < p.y1) ⊎ (p.y2 < w.y1) → Side w p
  on-x : (w.x2 < p.x1) ⊎ (p.x2 < w.x1) → Side w p

side : (w p : Rect) → beyond w p ≡ true → Side w p
unfolding beyond
side w p e = go (either (ltb w.y2 p.y1 || ltb w.x2 p.x1) _ e)
  where
    go : ((ltb w.y2 p.y1 || ltb w.x2 p.x1) ≡ true) ⊎ ((ltb p.y2 w.y1 || ltb p.x2 w.x1) ≡ true) → Side w p
    go (inl h) = ⊎_elim (λ k. on-y (inl (ltb-true _ _ k))) (λ k. on-x (inl (ltb-true _ _ k))) (either (ltb w.y2 p.y1) _ h)
    go (inr h) = ⊎_elim (λ k. on-y (inr (ltb-true _ _ k))) (λ k. on-x (inr (ltb-true _ _ k))) (either (ltb p.y2 w.y1) _ h)

-- what lies beyond on no side
record In (w p : Rect) : Type 0 where
  y-low : p.y1 ≤ w.y2
  y-high : w.y1 ≤ p.y2
  x-low : p.x1 ≤ w.x2
  x-high : w.x1 ≤ p.x2

within : (w p : Rect) → beyond w p ≡ false → In w p
unfolding beyond
within w p e =
    let f : (ltb w.y2 p.y1 || ltb w.x2 p.x1) ≡ false = or_left _ _ e in
    let g : (ltb p.y2 w.y1 || ltb p.x2 w.x1) ≡ false = or_right (ltb w.y2 p.y1 || ltb w.x2 p.x1) _ e in
    record {
      y-low = ltb-false _ _ (or_left _ _ f);
      y-high = ltb-false _ _ (or_left _ _ g);
      x-low = ltb-false _ _ (or_right (ltb w.y2 p.y1) _ f);
      x-high = ltb-false _ _ (or_right (ltb p.y2 w.y1) _ g);
    }

-- the window drawn in
abbrev drawn : Rect → Rect
drawn q = rect_of (q.x1 + 1) (q.y1 + 1) (q.x2 - 1) (q.y2 - 1)

drawn-out : {p1 p2 q1 q2 : ℕ} → (q2 - 1 < p1) ⊎ (p2 < q1 + 1) → (q2 ≤ p1) ⊎ (p2 ≤ q1)
drawn-out (inl h) = inl (omega arith)
drawn-out (inr h) = inr (omega arith)

module _ (rows : List ℕ) (q : Rect) (v : T (valid q)) where
  o : Proper q
  o = proper q v

  module _ (p : Rect) where
    shut-on-y : Shut rows (code_y q p) → opens_by (joined_of rows) q p ≡ false
    unfolding opens_by
    shut-on-y s = shut-y rows s (code_x q p)

    shut-on-x : Shut rows (code_x q p) → opens_by (joined_of rows) q p ≡ false
    unfolding opens_by
    shut-on-x s = shut-x rows s (code_y q p) (is_code p.y1 p.y2 q.y1 q.y2)

    past-drawn : inner_by (joined_of rows) ≡ true → Side (drawn q) p → opens_by (joined_of rows) q p ≡ false
    past-drawn n (on-y h) = shut-on-y (inner-shut rows n (outside p.y1 p.y2 q.y1 q.y2 o.on-y (drawn-out h)))
    past-drawn n (on-x h) = shut-on-x (inner-shut rows n (outside p.x1 p.x2 q.x1 q.x2 o.on-x (drawn-out h)))

    past-reference : near_by (joined_of rows) ≡ true → Side q p → opens_by (joined_of rows) q p ≡ false
    past-reference n (on-y h) = shut-on-y (near-shut rows n (apart p.y1 p.y2 q.y1 q.y2 o.on-y h))
    past-reference n (on-x h) = shut-on-x (near-shut rows n (apart p.x1 p.x2 q.x1 q.x2 o.on-x h))

    past_all : Small p → Side (rect_of 0 0 EDGE EDGE) p → opens_by (joined_of rows) q p ≡ false
    past_all s (on-y (inl h)) = absurd (omega (arith, s.y-start))
    past_all s (on-y (inr h)) = absurd (omega arith)
    past_all s (on-x (inl h)) = absurd (omega (arith, s.x-start))
    past_all s (on-x (inr h)) = absurd (omega arith)

    past : Small p → (reach : Reach) → reach_by (joined_of rows) ≡ reach → Side (window_for q reach) p → opens_by (joined_of rows) q p ≡ false
    unfolding window_for
    past m Inner r s = past-drawn (inner-is _ r) s
    past m Near r s = past-reference (near-is _ r) s
    past m Anywhere r s = past_all m s

  abbrev window : Rect
  window = window_for q (reach_by (joined_of rows))

  shut_out : (p : Rect) → Small p → beyond window p ≡ true → opens_by (joined_of rows) q p ≡ false
  shut_out p m e = past p m _ refl (side window p e)

  module _ (w : overlap_by rows (joined_of rows) ≡ true) (p : Rect) (e : beyond window p ≡ false) where
    m : In (drawn q) p
    unfolding window_for overlap_by
    m = within (drawn q) p (sym (ap (λ r. beyond (window_for q r) p) (reach-inner _ (and_left (inner_by (joined_of rows)) (whole_by rows) w))) ∙ e)

    i : Overlapping (code_y q p)
    i = overlapping p.y1 p.y2 q.y1 q.y2 (omega (arith, m.y-low, o.on-y)) (omega (arith, m.y-high))

    j : Overlapping (code_x q p)
    j = overlapping p.x1 p.x2 q.x1 q.x2 (omega (arith, m.x-low, o.on-x)) (omega (arith, m.x-high))

    taken-page : opens_by (joined_of rows) q p ≡ true
    unfolding opens_by overlap_by
    taken-page = whole-page rows (and_right (inner_by (joined_of rows)) _ w) (code_y q p) (code_x q p) i j

    taken-leaf : admits_by rows q p ≡ true
    unfolding admits_by overlap_by
    taken-leaf = whole-leaf rows (and_right (inner_by (joined_of rows)) _ w) (code_y q p) (code_x q p) i j

  leaf-shut : (p : Rect) → Small p → beyond window p ≡ true → admits_by rows q p ≡ false
  unfolding admits_by opens_by
  leaf-shut p m e =
      leaf-less rows (code_y q p) (code_x q p) (is_code p.y1 p.y2 q.y1 q.y2) (is_code p.x1 p.x2 q.x1 q.x2) (shut_out p m e)

  abbrev whole : Bool
  whole = overlap_by rows (joined_of rows)

  -- the window that a search makes
  module _ (below : List ℕ) (reach : Reach) (all : Bool) (w : Rect) (j : below ≡ joined_of rows) (r : reach ≡ reach_by below) (o : all ≡ overlap_by rows below)
      (e : w ≡ window_for q reach) where
    window-is : w ≡ window
    window-is = e ∙ ap (window_for q) (r ∙ ap reach_by j)

    whole-is : all ≡ whole
    whole-is = o ∙ ap (overlap_by rows) j

    pub pages-decided : Decides w all (opens_by below q)
    pages-decided = rw (window-is, whole-is, j) (record { fails = shut_out; passes = taken-page })

    pub leaves-decided : Decides w all (admits_by rows q)
    leaves-decided = rw (window-is, whole-is) (record { fails = leaf-shut; passes = taken-leaf })
