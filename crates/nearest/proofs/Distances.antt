-- Squared distances: a rectangle within another is no nearer, and none exceeds FARTHEST_SQUARE.
use Prim.Native.Nat.{ℕ, ◌+◌, ◌*◌, ◌-◌, ◌≤◌, ◌<◌, min, max}
use native.Mathlib.Omega.{arith}
use native.Mathlib.Decide.{dec_lt}
use native.Mathlib.Nat.{mul-le-mul, mul-add, add-mul, mul_assoc, mul_comm, mul_left_comm}
use mathlib.Core.Path.{◌≡◌, ap, ◌∙◌}
use Rattle.pages.specs.declared.Rect.{Rect}
use Rattle.pages.specs.Sizes.{EDGE}
use Rattle.pages.specs.Rectangles.{Small}
use Rattle.pages.proofs.Walk.{Within}
use Rattle.nearest.specs.Distance.{gap, square, distance_to, apart, LeastSquare}
use Rattle.nearest.specs.Steps.{FARTHEST_SQUARE}

ruleset ring = (mul-add, add-mul, mul_assoc, mul_comm, mul_left_comm)

square-le : (a b : ℕ) → a ≤ b → a * a ≤ b * b
square-le a b l = mul-le-mul {n₁ = a} {m₁ = a} {n₂ = b} {m₂ = b} l l

pub distance-within : (x y : ℕ) (r s : Rect) → Within r s → distance_to x y s ≤ distance_to x y r
unfolding distance_to
distance-within x y r s w =
    let a : gap x s.x1 s.x2 ≤ gap x r.x1 r.x2 = omega arith in
    let b : gap y s.y1 s.y2 ≤ gap y r.y1 r.y2 = omega arith in
    omega (arith, square-le (gap x s.x1 s.x2) (gap x r.x1 r.x2) a, square-le (gap y s.y1 s.y2) (gap y r.y1 r.y2) b)

-- in nth parts of a unit, a coordinate in the interval is at least n times the gap away
parted : (n v low high a : ℕ) → low ≤ high → n * low ≤ a → a ≤ n * high → n * gap v low high ≤ apart (n * v) a
parted n v low high a o l h = go (dec_lt v low) (dec_lt high v)
  where
    go : Dec (v < low) → Dec (high < v) → n * gap v low high ≤ apart (n * v) a
    go (yes p) q =
        let d : ℕ = low - v in
        let g : gap v low high ≡ d = omega arith in
        let e : n * low ≡ n * v + n * d = ap (λ z. n * z) (omega arith) ∙ mul-add n v d in
        omega (arith, ap (λ z. n * z) g, e, l)
    go (no p) (yes q) =
        let d : ℕ = v - high in
        let g : gap v low high ≡ d = omega arith in
        let e : n * v ≡ n * high + n * d = ap (λ z. n * z) (omega arith) ∙ mul-add n high d in
        omega (arith, ap (λ z. n * z) g, e, h)
    go (no p) (no q) =
        let g : gap v low high ≡ 0 = omega arith in
        omega (arith, ap (λ z. n * z) g)

-- the point of the rectangle next to (x, y) is where each coordinate is moved into its interval
pub distance-least : (x y : ℕ) (r : Rect) → r.x1 ≤ r.x2 → r.y1 ≤ r.y2 → LeastSquare x y r
unfolding distance_to
distance-least x y r xs ys = record {
  least = λ n a b i.
      let g : ℕ = gap x r.x1 r.x2 in
      let h : ℕ = gap y r.y1 r.y2 in
      let p = square-le (n * g) (apart (n * x) a) (parted n x r.x1 r.x2 a xs i.west i.east) in
      let q = square-le (n * h) (apart (n * y) b) (parted n y r.y1 r.y2 b ys i.south i.north) in
      omega (arith, squares n g h, p, q);
  attained =
      let p : apart x (min (max x r.x1) r.x2) ≡ gap x r.x1 r.x2 = omega arith in
      let q : apart y (min (max y r.y1) r.y2) ≡ gap y r.y1 r.y2 = omega arith in (
        min (max x r.x1) r.x2,
        min (max y r.y1) r.y2,
        record { west = omega arith; east = omega arith; south = omega arith; north = omega arith },
        λ i. square (p i) + square (q i),
      );
}
  where
    squares : (n g h : ℕ) → n * n * (g * g + h * h) ≡ n * g * (n * g) + n * h * (n * h)
    squares n g h = simp ring

pub distance-most : (x y : ℕ) (r : Rect) → x ≤ EDGE → y ≤ EDGE → Small r → distance_to x y r ≤ FARTHEST_SQUARE
unfolding distance_to
distance-most x y r a b s =
    let p : gap x r.x1 r.x2 ≤ EDGE = omega (arith, s.x-start) in
    let q : gap y r.y1 r.y2 ≤ EDGE = omega (arith, s.y-start) in
    omega (arith, square-le (gap x r.x1 r.x2) EDGE p, square-le (gap y r.y1 r.y2) EDGE q)
