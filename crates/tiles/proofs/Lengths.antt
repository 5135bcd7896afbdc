-- The units in a strip are the length that the side has in common with it; a tile has the whole piece when both lengths are whole.
use Prim.Native.Nat.{ℕ, zero, suc, ◌+◌, ◌-◌, ◌*◌, ◌/◌, ◌%◌, ◌≤◌, ◌<◌, min, max}
use native.Mathlib.Omega.{arith}
use native.Mathlib.Decide.{dec_lt}
use native.Mathlib.Nat.{le_refl, mul-le-mul, mul_comm, add-mul}
use mathlib.Core.Path.{◌≡◌, refl, sym, ap, ap₂, ◌∙◌}
use mathlib.Core.Bool.{Bool, true, false, ◌&&◌}
use mathlib.Core.Logic.{◌↔◌}
use mathlib.Core.List.{[], ◌∷◌}
use lib.Dec.{T, leb}
use lib.ListN.{get_or}
use borrow.Author.Tests.{le-leb, leb-true}
use Rattle.relations.proofs.Tests.{and_left, and_right, both}
use Rattle.pages.specs.declared.Rect.{Rect}
use Rattle.pages.specs.Rectangles.{valid}
use Rattle.pages.proofs.Valid.{Edges, edges}
use Rattle.tiles.specs.Tiles.{STRIPS, TILES, area_of}
use Rattle.tiles.specs.Names.{singles}
use Rattle.tiles.specs.Claims.{length_in, area_at}
use Rattle.tiles.specs.Steps.{units_in}
use Rattle.tiles.proofs.Cutting.{Parts, parts}
use Rattle.tiles.proofs.Areas.{area-units, area-whole}
use Rattle.tiles.proofs.Adding.{area-at}

rest : (u a b : ℕ) → u + a ≡ b → u ≡ b - a
rest u a b e = omega arith

nothing : (a b c : ℕ) → b ≤ c → a - a ≡ b - c
nothing a b c h = omega arith

-- [p1, p2] lies in strip s, by its ends
lies : ℕ → ℕ → ℕ → ℕ → ℕ → Bool
lies p1 p2 q1 q2 s = get_or (leb p2 q1 ∷ (leb q1 p1 && leb p2 q2) ∷ leb q2 p1 ∷ []) s false

module _ (p1 p2 q1 q2 : ℕ) (lp : p1 < p2) (lq : q1 < q2) where
  units-before : (u : ℕ) → u + p1 ≡ max p1 (min q1 p2) → u ≡ min p2 q1 - p1
  units-before u e = omega arith

  -- with something in common, or apart on either side
  units-between : (u : ℕ) → u + max p1 (min q1 p2) ≡ max p1 (min q2 p2) → u ≡ min p2 q2 - max p1 q1
  units-between u e = go (dec_lt q1 p2) (dec_lt p1 q2)
    where
      to : (a b : ℕ) → max p1 (min q1 p2) ≡ a → max p1 (min q2 p2) ≡ b → u ≡ b - a
      to a b x y = rest u a b (sym (ap (λ (z : ℕ). u + z) x) ∙ (e ∙ y))

      go : Dec (q1 < p2) → Dec (p1 < q2) → u ≡ min p2 q2 - max p1 q1
      go (yes a) (yes b) = to (max p1 q1) (min p2 q2) (omega arith) (omega arith)
      go (yes a) (no b) = to p1 p1 (omega arith) (omega arith) ∙ nothing p1 (min p2 q2) (max p1 q1) (omega arith)
      go (no a) b = to p2 p2 (omega arith) (omega arith) ∙ nothing p2 (min p2 q2) (max p1 q1) (omega arith)

  units-after : (u : ℕ) → u + max p1 (min q2 p2) ≡ p2 → u ≡ p2 - max p1 q2
  units-after u e = omega arith

  cuts : Parts p1 p2 q1 q2
  cuts = parts p1 p2 q1 q2 (omega arith) (omega arith)

  pub units-length : (s : ℕ) → s < STRIPS → units_in p1 p2 q1 q2 s ≡ length_in p1 p2 q1 q2 s
  unfolding length_in
  units-length zero h = units-before (units_in p1 p2 q1 q2 0) cuts.before
  units-length (suc zero) h = units-between (units_in p1 p2 q1 q2 1) cuts.between
  units-length (suc (suc zero)) h = units-after (units_in p1 p2 q1 q2 2) cuts.after
  units-length (suc (suc (suc n))) h = absurd (omega arith)

  lies_whole : (s : ℕ) → s < STRIPS → lies p1 p2 q1 q2 s ≡ true → length_in p1 p2 q1 q2 s ≡ p2 - p1
  unfolding length_in lies
  lies_whole zero h e = let l = leb-true p2 q1 e in omega arith
  lies_whole (suc zero) h e =
      let low = leb-true q1 p1 (and_left (leb q1 p1) (leb p2 q2) e) in
      let high = leb-true p2 q2 (and_right (leb q1 p1) (leb p2 q2) e) in
      omega arith
  lies_whole (suc (suc zero)) h e = let l = leb-true q2 p1 e in omega arith
  lies_whole (suc (suc (suc n))) h e = absurd (omega arith)

  whole-lies : (s : ℕ) → s < STRIPS → length_in p1 p2 q1 q2 s ≡ p2 - p1 → lies p1 p2 q1 q2 s ≡ true
  unfolding length_in lies
  whole-lies zero h e = le-leb p2 q1 (omega arith)
  whole-lies (suc zero) h e = both (le-leb q1 p1 (omega arith)) (le-leb p2 q2 (omega arith))
  whole-lies (suc (suc zero)) h e = le-leb q2 p1 (omega arith)
  whole-lies (suc (suc (suc n))) h e = absurd (omega arith)

  most : (s : ℕ) → s < STRIPS → length_in p1 p2 q1 q2 s ≤ p2 - p1
  unfolding length_in
  most zero h = omega arith
  most (suc zero) h = omega arith
  most (suc (suc zero)) h = omega arith
  most (suc (suc (suc n))) h = absurd (omega arith)

-- a product of parts is that of the wholes only where the first part is whole
whole-factor : (a b A B : ℕ) → a ≤ A → b ≤ B → 0 < B → a * b ≡ A * B → a ≡ A
whole-factor a b A B la lb lB e = go (dec_lt a A)
  where
    go : Dec (a < A) → a ≡ A
    go (no h) = omega arith
    go (yes h) =
        let next : a + 1 ≤ A = omega arith in
        absurd (omega (arith, mul-le-mul (le_refl a) lb, mul-le-mul next (le_refl B), add-mul a 1 B, e))

module _ (p q : Rect) (vp : T (valid p)) (vq : T (valid q)) where
  abbrev on_y : ℕ → ℕ
  on_y s = length_in p.y1 p.y2 q.y1 q.y2 s

  abbrev on_x : ℕ → ℕ
  on_x s = length_in p.x1 p.x2 q.x1 q.x2 s

  pub lengths : (t : ℕ) → t < TILES → area_at p q t ≡ on_y (t / STRIPS) * on_x (t % STRIPS)
  lengths t l =
      let op = edges p vp in
      let oq = edges q vq in
      area-at p q vp vq t l
      ∙ (area-units p q t
      ∙ ap₂ ◌*◌ (units-length p.y1 p.y2 q.y1 q.y2 op.on-y oq.on-y (t / 3) (omega arith))
      (units-length p.x1 p.x2 q.x1 q.x2 op.on-x oq.on-x (t % 3) (omega arith)))

  abbrev in_row : ℕ → Bool
  in_row t = lies p.y1 p.y2 q.y1 q.y2 (t / STRIPS)

  abbrev in_column : ℕ → Bool
  in_column t = lies p.x1 p.x2 q.x1 q.x2 (t % STRIPS)

  -- the nine relations, by row and column
  single-at : (t : ℕ) → t < TILES → get_or (singles p q) t false ≡ (in_row t && in_column t)
  unfolding singles lies
  single-at zero l = refl
  single-at (suc zero) l = refl
  single-at (suc (suc zero)) l = refl
  single-at (suc (suc (suc zero))) l = refl
  single-at (suc (suc (suc (suc zero)))) l = refl
  single-at (suc (suc (suc (suc (suc zero))))) l = refl
  single-at (suc (suc (suc (suc (suc (suc zero)))))) l = refl
  single-at (suc (suc (suc (suc (suc (suc (suc zero))))))) l = refl
  single-at (suc (suc (suc (suc (suc (suc (suc (suc zero)))))))) l = refl
  single-at (suc (suc (suc (suc (suc (suc (suc (suc (suc n))))))))) l = absurd (omega arith)

  pub single : (t : ℕ) → t < TILES → (area_at p q t ≡ area_of p) ↔ (get_or (singles p q) t false ≡ true)
  single t l = (to, from)
    where
      op : Edges p
      op = edges p vp

      oq : Edges q
      oq = edges q vq

      row : t / 3 < STRIPS
      row = omega arith

      column : t % 3 < STRIPS
      column = omega arith

      whole : area_of p ≡ (p.y2 - p.y1) * (p.x2 - p.x1)
      whole = area-whole p ∙ mul_comm (p.x2 - p.x1) (p.y2 - p.y1)

      from : get_or (singles p q) t false ≡ true → area_at p q t ≡ area_of p
      from e =
          let b = sym (single-at t l) ∙ e in
          lengths t l
          ∙ (ap₂ ◌*◌ (lies_whole p.y1 p.y2 q.y1 q.y2 op.on-y oq.on-y (t / 3) row (and_left (in_row t) (in_column t) b))
          (lies_whole p.x1 p.x2 q.x1 q.x2 op.on-x oq.on-x (t % 3) column (and_right (in_row t) (in_column t) b))
          ∙ sym whole)

      to : area_at p q t ≡ area_of p → get_or (singles p q) t false ≡ true
      to e =
          let same : on_y (t / 3) * on_x (t % 3) ≡ (p.y2 - p.y1) * (p.x2 - p.x1) = sym (lengths t l) ∙ (e ∙ whole) in
          let my = most p.y1 p.y2 q.y1 q.y2 op.on-y oq.on-y (t / 3) row in
          let mx = most p.x1 p.x2 q.x1 q.x2 op.on-x oq.on-x (t % 3) column in
          let high : 0 < p.y2 - p.y1 = omega (arith, op.on-y) in
          let wide : 0 < p.x2 - p.x1 = omega (arith, op.on-x) in
          let y = whole-factor (on_y (t / 3)) (on_x (t % 3)) (p.y2 - p.y1) (p.x2 - p.x1) my mx wide same in
          let x = whole-factor (on_x (t % 3)) (on_y (t / 3)) (p.x2 - p.x1) (p.y2 - p.y1) mx my high
          (mul_comm (on_x (t % 3)) (on_y (t / 3)) ∙ (same ∙ mul_comm (p.y2 - p.y1) (p.x2 - p.x1))) in
          single-at t l
          ∙ both (whole-lies p.y1 p.y2 q.y1 q.y2 op.on-y oq.on-y (t / 3) row y)
          (whole-lies p.x1 p.x2 q.x1 q.x2 op.on-x oq.on-x (t % 3) column x)
