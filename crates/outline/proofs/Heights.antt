-- An edge at a height between those of its ends: with k of its height gone and h ahead, the cross product says on which side of it a point is.
use Prim.Native.Nat.{ℕ, ◌+◌, ◌*◌, ◌-◌, ◌≤◌, min, max}
use mathlib.Core.Path.{◌≡◌, sym, ap, subst, ◌∙◌}
use mathlib.Core.Logic.{◌↔◌}
use native.Mathlib.Decide.{dec_le}
use native.Mathlib.Nat.{add_comm, mul-add, add-mul, mul_assoc, mul_comm, mul_left_comm}
use native.Mathlib.Omega.{arith}
use Rattle.outline.specs.declared.Point.{Point}
use Rattle.outline.specs.declared.Edge.{Edge}
use Rattle.outline.specs.Outline.{point}
use Rattle.outline.specs.Place.{gone, ahead, parts, x_there}
use Rattle.outline.specs.Steps.{left, right}

pub ruleset ring = (mul-add, add-mul, mul_assoc, mul_comm, mul_left_comm)

abbrev pub edge_of : ℕ → ℕ → ℕ → ℕ → Edge
edge_of a b c d = record { a = a; b = b; c = c; d = d }

-- the ends of an edge taken the other way round
abbrev pub flipped : Edge → Edge
flipped e = edge_of e.c e.d e.a e.b

-- the edge has the height of p
pub record AtHeight (e : Edge) (p : Point) : Type 0 where
  pub south : min e.b e.d ≤ p.y
  pub north : p.y ≤ max e.b e.d

-- what is then known of its parts
pub record Parted (e : Edge) (p : Point) : Type 0 where
  -- their mean has the height of p, and other means of that height have the same proportion
  pub height : parts e p.y * p.y ≡ ahead e p.y * e.b + gone e p.y * e.d
  pub share : (s t : ℕ) → (s + t) * p.y ≡ s * e.b + t * e.d → s * gone e p.y ≡ t * ahead e p.y
  pub line : (parts e p.y * p.x ≡ x_there e p.y) ↔ (left e p ≡ right e p)

-- and of an edge that goes up
pub record Rising (e : Edge) (p : Point) : Type 0 where
  pub parted : Parted e p
  pub east : (parts e p.y * p.x ≤ x_there e p.y) ↔ (right e p ≤ left e p)

module _ (a b c x k h : ℕ) where
  abbrev up_edge : Edge
  up_edge = edge_of a b c (b + k + h)

  abbrev up_point : Point
  up_point = point x (b + k)

  ahead-is : ahead up_edge (b + k) ≡ h
  ahead-is = omega arith

  gone-is : gone up_edge (b + k) ≡ k
  gone-is = omega arith

  up-height : (h + k) * (b + k) ≡ h * b + k * (b + k + h)
  up-height = simp ring (omega arith)

  up-share : (s t : ℕ) → (s + t) * (b + k) ≡ s * b + t * (b + k + h) → s * k ≡ t * h
  up-share s t n = let m = simp ring at n in simp ring (omega arith)

  up-line : ((h + k) * x ≡ h * a + k * c) ↔ (left up_edge up_point ≡ right up_edge up_point)
  up-line = (λ n. let m = simp ring at n in simp ring (omega arith), λ n. let m = simp ring at n in simp ring (omega arith))

  up-east : ((h + k) * x ≤ h * a + k * c) ↔ (right up_edge up_point ≤ left up_edge up_point)
  up-east = (λ n. let m = simp ring at n in simp ring (omega arith), λ n. let m = simp ring at n in simp ring (omega arith))

  up : Rising up_edge up_point
  up =
      record {
        parted = record {
          height = rw (ahead-is, gone-is) up-height;
          share = λ s t n. rw (ahead-is, gone-is) (up-share s t n);
          line = rw (ahead-is, gone-is) up-line;
        };
        east = rw (ahead-is, gone-is) up-east;
      }

rising : (e : Edge) (p : Point) → e.b ≤ p.y → p.y ≤ e.d → Rising e p
rising e p l h =
    let k = p.y - e.b in
    let m = e.d - p.y in
    let y-is : e.b + k ≡ p.y = omega arith in
    let d-is : e.b + k + m ≡ e.d = omega arith in
    subst (λ (n : ℕ). Rising e (point p.x n)) y-is
    (subst (λ (n : ℕ). Rising (edge_of e.a e.b e.c n) (point p.x (e.b + k))) d-is (up e.a e.b e.c p.x k m))

pub parts-flipped : (e : Edge) (y : ℕ) → parts (flipped e) y ≡ parts e y
parts-flipped e y = add_comm (gone e y) (ahead e y)

pub x-flipped : (e : Edge) (y : ℕ) → x_there (flipped e) y ≡ x_there e y
x-flipped e y = add_comm (gone e y * e.c) (ahead e y * e.a)

left-flipped : (e : Edge) (p : Point) → left (flipped e) p ≡ right e p
left-flipped e p = simp ring (omega arith)

right-flipped : (e : Edge) (p : Point) → right (flipped e) p ≡ left e p
right-flipped e p = simp ring (omega arith)

-- an edge that goes up is not west of p exactly when p is not on its right, and one that goes down when p is not on its left
pub east-rising : (e : Edge) (p : Point) → e.b ≤ p.y → p.y ≤ e.d → (parts e p.y * p.x ≤ x_there e p.y) ↔ (right e p ≤ left e p)
east-rising e p l h = (rising e p l h).east

pub east-falling : (e : Edge) (p : Point) → e.d ≤ p.y → p.y ≤ e.b → (parts e p.y * p.x ≤ x_there e p.y) ↔ (left e p ≤ right e p)
east-falling e p l h = rw (← parts-flipped e p.y, ← x-flipped e p.y, ← right-flipped e p, ← left-flipped e p) (rising (flipped e) p l h).east

pub parted : (e : Edge) (p : Point) → AtHeight e p → Parted e p
parted e p at = go (dec_le e.b e.d)
  where
    down : Parted (flipped e) p → Parted e p
    down q =
        record {
          height = ap (λ (n : ℕ). n * p.y) (sym (parts-flipped e p.y)) ∙ q.height ∙ add_comm (gone e p.y * e.d) (ahead e p.y * e.b);
          share = λ s t n. sym (q.share t s (ap (λ (m : ℕ). m * p.y) (add_comm t s) ∙ n ∙ add_comm (s * e.b) (t * e.d)));
          line = (
            λ n. sym (right-flipped e p) ∙ sym (q.line.0 (ap (λ (m : ℕ). m * p.x) (parts-flipped e p.y) ∙ n ∙ sym (x-flipped e p.y))) ∙ left-flipped e p,
            λ n. ap (λ (m : ℕ). m * p.x) (sym (parts-flipped e p.y)) ∙ q.line.1 (left-flipped e p ∙ sym n ∙ sym (right-flipped e p)) ∙ x-flipped e p.y,
          );
        }

    go : Dec (e.b ≤ e.d) → Parted e p
    go (yes u) = (rising e p (omega (arith, at.south)) (omega (arith, at.north))).parted
    go (no n) = down (rising (flipped e) p (omega (arith, n, at.south)) (omega (arith, n, at.north))).parted
