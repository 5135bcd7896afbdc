-- Which strips an interval reaches depends on the zones of its ends alone, and so does its code: compared for all pairs of zones by one
-- computed test.
use Prim.Native.Nat.{ℕ, zero, suc, ◌-◌, ◌*◌, ◌/◌, ◌%◌, ◌<◌, min, max}
use native.Mathlib.Omega.{arith}
use native.Mathlib.Decide.{dec_lt}
use native.Mathlib.Nat.{zero-mul, mul-zero, mul-pos}
use mathlib.Core.Path.{◌≡◌, refl, sym, ap, ap₂, ◌∙◌}
use mathlib.Core.Bool.{Bool, true, false, ◌&&◌, and-false, beq}
use mathlib.Core.List.{[], ◌∷◌}
use lib.Dec.{T, ltb}
use lib.ListN.{get_or}
use borrow.Author.Tests.{lt-ltb, le-ltb, ltb-true}
use Rattle.relations.specs.Sets.{member}
use Rattle.relations.specs.Axis.{code, lines}
use Rattle.relations.proofs.Tests.{all_below, all_pairs, all-at, beq-eq, same_test, and_left, and_right, both}
use Rattle.relations.proofs.Sides.{Side, below, at, above}
use Rattle.relations.proofs.Zones.{zone, zoned, feasible, all_zones, at-zones, by-zones}
use Rattle.pages.specs.declared.Rect.{Rect}
use Rattle.pages.specs.Rectangles.{valid}
use Rattle.pages.proofs.Valid.{edges}
use Rattle.tiles.specs.Tiles.{STRIPS, TILES}
use Rattle.tiles.specs.Names.{code_y, code_x, codes_in}
use Rattle.tiles.specs.Claims.{length_in, area_at}
use Rattle.tiles.proofs.Lengths.{lengths}

-- [p1, p2] reaches into strip s, by its ends
reaches : ℕ → ℕ → ℕ → ℕ → ℕ → Bool
reaches p1 p2 q1 q2 s = get_or (ltb p1 q1 ∷ (ltb p1 q2 && ltb q1 p2) ∷ ltb q2 p2 ∷ []) s false

code_reaches : ℕ → ℕ → ℕ → Bool
code_reaches z w s = beq (member (code z w 1 3) (codes_in s)) (reaches z w 1 3 s)

zones_reach : ℕ → ℕ → Bool
zones_reach z w = all_below (code_reaches z w) STRIPS

zones-test : all_zones zones_reach ≡ true
unfolding all_zones zones_reach code_reaches reaches feasible code lines all_pairs all_below
zones-test = refl

-- numbers on the same side of two others
alike-below : {x q y s a : ℕ} → Side x q a → Side y s a → ltb x q ≡ ltb y s
alike-below {x} {q} {y} {s} (below h) (below k) = lt-ltb x q h ∙ sym (lt-ltb y s k)
alike-below {x} {q} {y} {s} (at h) (at k) = le-ltb x q (omega arith) ∙ sym (le-ltb y s (omega arith))
alike-below {x} {q} {y} {s} (above h) (above k) = le-ltb x q (omega arith) ∙ sym (le-ltb y s (omega arith))

alike-above : {x q y s a : ℕ} → Side x q a → Side y s a → ltb q x ≡ ltb s y
alike-above {x} {q} {y} {s} (below h) (below k) = le-ltb q x (omega arith) ∙ sym (le-ltb s y (omega arith))
alike-above {x} {q} {y} {s} (at h) (at k) = le-ltb q x (omega arith) ∙ sym (le-ltb s y (omega arith))
alike-above {x} {q} {y} {s} (above h) (above k) = lt-ltb q x h ∙ sym (lt-ltb s y k)

module _ (p1 p2 q1 q2 : ℕ) (lp : p1 < p2) (lq : q1 < q2) where
  reaches-zones : (s : ℕ) → reaches p1 p2 q1 q2 s ≡ reaches (zone q1 q2 p1) (zone q1 q2 p2) 1 3 s
  unfolding reaches
  reaches-zones s =
      let u = zoned lq p1 in
      let v = zoned lq p2 in
      rw (alike-below u.to-q1 u.to-s1, alike-below u.to-q2 u.to-s2, alike-above v.to-q1 v.to-s1, alike-above v.to-q2 v.to-s2)

  code-reaches : (s : ℕ) → s < STRIPS → member (code p1 p2 q1 q2) (codes_in s) ≡ reaches p1 p2 q1 q2 s
  unfolding zones_reach code_reaches
  code-reaches s h =
      ap (λ (c : ℕ). member c (codes_in s)) (by-zones lq lp)
      ∙ (beq-eq _ _ (all-at (code_reaches (zone q1 q2 p1) (zone q1 q2 p2)) STRIPS s (at-zones lq lp zones_reach zones-test) h) ∙ sym (reaches-zones s))

  length-reaches : (s : ℕ) → s < STRIPS → ltb 0 (length_in p1 p2 q1 q2 s) ≡ reaches p1 p2 q1 q2 s
  unfolding length_in reaches
  length-reaches zero h =
      same_test (ltb 0 (min p2 q1 - p1)) (ltb p1 q1) (λ e. let l = ltb-true 0 (min p2 q1 - p1) e in lt-ltb p1 q1 (omega arith))
      (λ e. let l = ltb-true p1 q1 e in lt-ltb 0 (min p2 q1 - p1) (omega arith))
  length-reaches (suc zero) h =
      same_test (ltb 0 (min p2 q2 - max p1 q1)) (ltb p1 q2 && ltb q1 p2)
      (λ e. let l = ltb-true 0 (min p2 q2 - max p1 q1) e in both (lt-ltb p1 q2 (omega arith)) (lt-ltb q1 p2 (omega arith)))
      (λ e.
      let l = ltb-true p1 q2 (and_left (ltb p1 q2) (ltb q1 p2) e) in
      let m = ltb-true q1 p2 (and_right (ltb p1 q2) (ltb q1 p2) e) in
      lt-ltb 0 (min p2 q2 - max p1 q1) (omega arith))
  length-reaches (suc (suc zero)) h =
      same_test (ltb 0 (p2 - max p1 q2)) (ltb q2 p2) (λ e. let l = ltb-true 0 (p2 - max p1 q2) e in lt-ltb q2 p2 (omega arith))
      (λ e. let l = ltb-true q2 p2 e in lt-ltb 0 (p2 - max p1 q2) (omega arith))
  length-reaches (suc (suc (suc n))) h = absurd (omega arith)

  some-length : (s : ℕ) → s < STRIPS → ltb 0 (length_in p1 p2 q1 q2 s) ≡ member (code p1 p2 q1 q2) (codes_in s)
  some-length s h = length-reaches s h ∙ sym (code-reaches s h)

some-product : (a b : ℕ) → ltb 0 (a * b) ≡ (ltb 0 a && ltb 0 b)
some-product a b = go (dec_lt 0 a) (dec_lt 0 b)
  where
    go : Dec (0 < a) → Dec (0 < b) → ltb 0 (a * b) ≡ (ltb 0 a && ltb 0 b)
    go (yes h) (yes k) = lt-ltb 0 (a * b) (mul-pos h k) ∙ sym (both (lt-ltb 0 a h) (lt-ltb 0 b k))
    go (yes h) (no k) =
        let none : b ≡ 0 = omega arith in
        rw (none, mul-zero a) (sym (and-false (ltb 0 a)))
    go (no h) k =
        let none : a ≡ 0 = omega arith in
        rw (none, zero-mul b) refl

-- tile t has some of a piece in configuration (i, j)
abbrev pub held_at : ℕ → ℕ → ℕ → Bool
held_at i j t = member i (codes_in (t / STRIPS)) && member j (codes_in (t % STRIPS))

pub held : (p q : Rect) → T (valid p) → T (valid q) → (t : ℕ) → t < TILES → ltb 0 (area_at p q t) ≡ held_at (code_y q p) (code_x q p) t
held p q vp vq t l =
    let op = edges p vp in
    let oq = edges q vq in
    let y = some-length p.y1 p.y2 q.y1 q.y2 op.on-y oq.on-y (t / 3) (omega arith) in
    let x = some-length p.x1 p.x2 q.x1 q.x2 op.on-x oq.on-x (t % 3) (omega arith) in
    ap (ltb 0) (lengths p q vp vq t l)
    ∙ (some-product (length_in p.y1 p.y2 q.y1 q.y2 (t / 3)) (length_in p.x1 p.x2 q.x1 q.x2 (t % 3)) ∙ ap₂ ◌&&◌ y x)
