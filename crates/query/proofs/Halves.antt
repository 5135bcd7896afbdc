-- The halves of a sum and of a difference of paired words do not touch, and their highest bits tell what lies beyond.
use Prim.Native.Nat.{ℕ, ◌+◌, ◌-◌, ◌/◌, ◌%◌, ◌≤◌, ◌<◌}
use native.Mathlib.Omega.{arith}
use mathlib.Core.Path.{◌≡◌, refl, sym, ap, ap₂, ◌∙◌}
use mathlib.Core.Bool.{Bool, true, false, ◌||◌}
use lib.Dec.{leb, ltb}
use borrow.Author.Tests.{leb-true, leb-false, le-leb, lt-leb}
use Rattle.pages.specs.declared.Rect.{Rect}
use Rattle.pages.specs.Rectangles.{rect_of, Small}
use Rattle.query.specs.Window.{HALF, paired_of, TOP, over, MOST, window_in, beyond}

same-order : (a b c d : ℕ) → (a ≤ b → c ≤ d) → (b < a → d < c) → leb a b ≡ leb c d
same-order a b c d f g = go (leb a b) refl
  where
    go : (t : Bool) → leb a b ≡ t → leb a b ≡ leb c d
    go true e = e ∙ sym (le-leb c d (f (leb-true a b e)))
    go false e = e ∙ sym (lt-leb c d (g (leb-false a b e)))

over-halves : (x y : ℕ) → x < HALF → over (paired_of x y) ≡ (leb TOP y || leb TOP x)
unfolding over
over-halves x y h =
    let low : paired_of x y % HALF ≡ x = omega arith in
    ap₂ ◌||◌ (same-order _ (paired_of x y) TOP y (λ k. omega arith) (λ k. omega arith)) (ap (leb TOP) low)

-- `from` is what a start may grow by, `to` what an end is taken from
module _ (p : Rect) (s : Small p) (from to : ℕ) (xs : from % HALF ≤ MOST) (ys : from / HALF ≤ MOST) (xe : MOST ≤ to % HALF) (ye : MOST ≤ to / HALF) where
  starts : over (paired_of p.x1 p.y1 + from) ≡ (ltb (MOST - from / HALF) p.y1 || ltb (MOST - from % HALF) p.x1)
  starts =
      let e : paired_of p.x1 p.y1 + from ≡ paired_of (p.x1 + from % HALF) (p.y1 + from / HALF) = omega arith in
      ap over e
      ∙ over-halves (p.x1 + from % HALF) (p.y1 + from / HALF) (omega (arith, s.x-start))
      ∙ ap₂ ◌||◌ (same-order TOP (p.y1 + from / HALF) _ p.y1 (λ k. omega arith) (λ k. omega arith))
      (same-order TOP (p.x1 + from % HALF) _ p.x1 (λ k. omega arith) (λ k. omega arith))

  ends : over (to - paired_of p.x2 p.y2) ≡ (ltb p.y2 (to / HALF - MOST) || ltb p.x2 (to % HALF - MOST))
  ends =
      let e : to - paired_of p.x2 p.y2 ≡ paired_of (to % HALF - p.x2) (to / HALF - p.y2) = omega (arith, s.x-end, s.y-end) in
      ap over e
      ∙ over-halves (to % HALF - p.x2) (to / HALF - p.y2) (omega arith)
      ∙ ap₂ ◌||◌ (same-order TOP (to / HALF - p.y2) _ (to / HALF - MOST) (λ k. omega arith) (λ k. omega arith))
      (same-order TOP (to % HALF - p.x2) _ (to % HALF - MOST) (λ k. omega arith) (λ k. omega arith))

  pub beyond-paired : (over (paired_of p.x1 p.y1 + from) || over (to - paired_of p.x2 p.y2)) ≡ beyond (window_in from to) p
  unfolding beyond window_in
  beyond-paired = ap₂ ◌||◌ starts ends

-- the same, of words that are paired
pub halves-beyond : (p : Rect) → Small p → (a b c d : ℕ) → a ≤ MOST → b ≤ MOST → MOST ≤ c → MOST ≤ d → c < HALF
    → (over (paired_of p.x1 p.y1 + paired_of a b) || over (paired_of c d - paired_of p.x2 p.y2)) ≡ beyond (rect_of (c - MOST) (d - MOST) (MOST - a) (MOST - b)) p
unfolding window_in
halves-beyond p s a b c d la lb lc ld hc =
    let xa : paired_of a b % HALF ≡ a = omega arith in
    let yb : paired_of a b / HALF ≡ b = omega arith in
    let xc : paired_of c d % HALF ≡ c = omega arith in
    let yd : paired_of c d / HALF ≡ d = omega arith in
    beyond-paired p s (paired_of a b) (paired_of c d) (omega arith) (omega arith) (omega arith) (omega arith)
    ∙ λ i. beyond (rect_of (xc i - MOST) (yd i - MOST) (MOST - xa i) (MOST - yb i)) p

-- a small window by its words
pub window-kept : (w : Rect) → Small w → window_in (paired_of (MOST - w.x2) (MOST - w.y2)) (paired_of (MOST + w.x1) (MOST + w.y1)) ≡ w
unfolding window_in
window-kept w s =
    let x1 : paired_of (MOST + w.x1) (MOST + w.y1) % HALF - MOST ≡ w.x1 = omega (arith, s.x-start) in
    let y1 : paired_of (MOST + w.x1) (MOST + w.y1) / HALF - MOST ≡ w.y1 = omega (arith, s.x-start) in
    let x2 : MOST - paired_of (MOST - w.x2) (MOST - w.y2) % HALF ≡ w.x2 = omega (arith, s.x-end) in
    let y2 : MOST - paired_of (MOST - w.x2) (MOST - w.y2) / HALF ≡ w.y2 = omega (arith, s.y-end) in
    λ i. record { x1 = x1 i; y1 = y1 i; x2 = x2 i; y2 = y2 i }
