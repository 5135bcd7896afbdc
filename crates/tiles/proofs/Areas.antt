-- The unit squares of a piece in a tile are those whose row and column fit, so their number is a product of units on each axis.
use Prim.Native.Nat.{ℕ, ◌+◌, ◌-◌, ◌*◌, ◌/◌, ◌%◌, ◌<◌}
use native.Mathlib.Omega.{arith}
use native.Mathlib.Decide.{ℕ_discrete}
use native.Mathlib.Nat.{mul_comm, zero-mul}
use mathlib.Core.Path.{◌≡◌, sym, ap₂, ◌∙◌}
use lib.Dec.{eqb}
use borrow.Author.Tests.{eq-eqb, ne_eqb}
use Rattle.pages.specs.declared.Rect.{Rect}
use Rattle.pages.specs.Lists.{one, sum_below}
use Rattle.pages.proofs.Below.{below-same, below-const, below-times, below-swap, below-is}
use Rattle.tiles.specs.Tiles.{STRIPS, TILES, strip, tile_of, over_squares, area_of, area_in}
use Rattle.tiles.specs.Steps.{units_in, cut_at, product}
use Rattle.tiles.proofs.Cutting.{strip-small, cut-at}

module _ (r : Rect) where
  abbrev width : ℕ
  width = r.x2 - r.x1

  abbrev height : ℕ
  height = r.y2 - r.y1

  squares-same : (f g : ℕ → ℕ → ℕ) → ((x y : ℕ) → f x y ≡ g x y) → over_squares r f ≡ over_squares r g
  unfolding over_squares
  squares-same f g e = below-same _ _ _ (λ b _. below-same _ _ _ (λ a _. e (r.x1 + a) (r.y1 + b)))

  -- the order of two sums may be changed
  squares-below : (n : ℕ) (f : ℕ → ℕ → ℕ → ℕ) → sum_below n (λ t. over_squares r (f t)) ≡ over_squares r (λ x y. sum_below n (λ t. f t x y))
  unfolding over_squares
  squares-below n f = below-swap n _ _ ∙ below-same _ _ _ (λ b _. below-swap n _ (λ t a. f t (r.x1 + a) (r.y1 + b)))

  -- a weight that is a product of one for each axis
  squares-product : (g f : ℕ → ℕ) → over_squares r (λ x y. g y * f x) ≡ sum_below height (λ b. g (r.y1 + b)) * sum_below width (λ a. f (r.x1 + a))
  unfolding over_squares
  squares-product g f =
      let row = sum_below width (λ a. f (r.x1 + a)) in
      let column = sum_below height (λ b. g (r.y1 + b)) in
      below-same height (λ b. sum_below width (λ a. g (r.y1 + b) * f (r.x1 + a))) (λ b. row * g (r.y1 + b))
      (λ b _. below-times width (g (r.y1 + b)) (λ a. f (r.x1 + a)) ∙ mul_comm (g (r.y1 + b)) row)
      ∙ (below-times height row (λ b. g (r.y1 + b)) ∙ mul_comm row column)

-- a tile has one row and one column
row-column : (r c t : ℕ) → c < STRIPS → one (eqb (STRIPS * r + c) t) ≡ one (eqb r (t / STRIPS)) * one (eqb c (t % STRIPS))
row-column r c t l = go (ℕ_discrete r (t / 3)) (ℕ_discrete c (t % 3))
  where
    go : Dec (r ≡ t / 3) → Dec (c ≡ t % 3) → one (eqb (3 * r + c) t) ≡ one (eqb r (t / 3)) * one (eqb c (t % 3))
    go (yes a) (yes b) = rw (eq-eqb r (t / 3) a, eq-eqb c (t % 3) b, eq-eqb (3 * r + c) t (omega arith))
    go (yes a) (no b) = rw (eq-eqb r (t / 3) a, ne_eqb c (t % 3) b, ne_eqb (3 * r + c) t (λ e. b (omega arith)))
    go (no a) b = rw (ne_eqb r (t / 3) a, ne_eqb (3 * r + c) t (λ e. a (omega arith))) (sym (zero-mul (one (eqb c (t % 3)))))

module _ (p q : Rect) where
  pub area-units : (t : ℕ) → area_in p q t ≡ units_in p.y1 p.y2 q.y1 q.y2 (t / STRIPS) * units_in p.x1 p.x2 q.x1 q.x2 (t % STRIPS)
  unfolding area_in tile_of units_in
  area-units t =
      squares-same p (λ x y. one (eqb (3 * strip q.y1 q.y2 y + strip q.x1 q.x2 x) t))
      (λ x y. one (eqb (strip q.y1 q.y2 y) (t / 3)) * one (eqb (strip q.x1 q.x2 x) (t % 3)))
      (λ x y. row-column (strip q.y1 q.y2 y) (strip q.x1 q.x2 x) t (strip-small q.x1 q.x2 x))
      ∙ squares-product p (λ y. one (eqb (strip q.y1 q.y2 y) (t / 3))) (λ x. one (eqb (strip q.x1 q.x2 x) (t % 3)))

  -- as `shares_of` makes it from both cuts
  pub area-product : (t : ℕ) → t < TILES → product (cut_at p.y1 p.y2 q.y1 q.y2) (cut_at p.x1 p.x2 q.x1 q.x2) t ≡ area_in p q t
  unfolding product
  area-product t l =
      ap₂ ◌*◌ (cut-at p.y1 p.y2 q.y1 q.y2 (t / 3) (omega arith)) (cut-at p.x1 p.x2 q.x1 q.x2 (t % 3) (omega arith))
      ∙ sym (area-units t)

  tile-small : (x y : ℕ) → tile_of q x y < TILES
  unfolding tile_of
  tile-small x y = omega (arith, strip-small q.y1 q.y2 y, strip-small q.x1 q.x2 x)

  -- each unit square lies in one of the nine tiles
  pub areas-add : sum_below TILES (area_in p q) ≡ area_of p
  unfolding area_in area_of
  areas-add =
      squares-below p TILES (λ t x y. one (eqb (tile_of q x y) t))
      ∙ squares-same p (λ x y. sum_below TILES (λ t. one (eqb (tile_of q x y) t))) (λ x y. 1) (λ x y. below-is TILES (tile_of q x y) (tile-small x y))

pub area-whole : (r : Rect) → area_of r ≡ (r.x2 - r.x1) * (r.y2 - r.y1)
unfolding area_of over_squares
area-whole r =
    below-same (height r) (λ b. sum_below (width r) (λ a. 1)) (λ b. width r) (λ b _. below-const (width r) 1 ∙ omega arith)
    ∙ (below-const (height r) (width r) ∙ mul_comm (height r) (width r))
