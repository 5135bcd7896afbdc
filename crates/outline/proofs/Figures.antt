-- The area of a rectangle and of a triangle; words and points.
use Prim.Native.Nat.{ℕ, ◌+◌, ◌*◌, ◌%◌, ◌≤◌}
use mathlib.Core.Path.{◌≡◌, refl, sym, ap, ◌∙◌}
use mathlib.Core.List.{List, [], ◌∷◌}
use native.Mathlib.Omega.{arith}
use lib.IntN.{ℤ, pos, ◌+ℤ◌, ◌-ℤ◌}
use lib.ListN.{length}
use borrow.Author.Tests.{le-leb}
use Rattle.outline.specs.declared.Point.{Point}
use Rattle.outline.specs.declared.Edge.{Edge}
use Rattle.outline.specs.Outline.{FARTHEST, points, path, edges}
use Rattle.outline.specs.Area.{cross, area_twice}
use Rattle.outline.specs.Refusals.{ACCEPTED, wrong_count, within, outline_refusal}
use Rattle.outline.specs.Calls.{area_call}
use Rattle.outline.specs.Claims.{words_of, area_of, rectangle, triangle}
use Rattle.outline.proofs.Heights.{ring}
use Rattle.outline.proofs.Signed.{minus-add, minus-cancel}
use Rattle.outline.proofs.Answers.{area-accepted}
use Rattle.outline.proofs.Same.{points-words}

pub words-points : (ws : List ℕ) → length ws % 2 ≡ 0 → words_of (points ws) ≡ ws
unfolding words_of points
words-points [] e = refl
words-points (x ∷ []) e = absurd (omega (arith, e))
words-points (x ∷ (y ∷ ws)) e = ap (λ (vs : List ℕ). x ∷ (y ∷ vs)) (words-points ws (omega arith))

-- the sums of a * d and of b * c
unfoldable pub plus_of : List Edge → ℕ
plus_of [] = 0
plus_of (e ∷ es) = e.a * e.d + plus_of es

unfoldable pub minus_of : List Edge → ℕ
minus_of [] = 0
minus_of (e ∷ es) = e.b * e.c + minus_of es

-- the sum of the differences is the difference of the sums
pub area-is : (es : List Edge) → pos (plus_of es) -ℤ pos (minus_of es) ≡ area_twice es
unfolding plus_of minus_of area_twice
area-is [] = refl
area-is (e ∷ es) = sym (minus-add (e.a * e.d) (e.b * e.c) (plus_of es) (minus_of es)) ∙ ap (λ (z : ℤ). cross e +ℤ z) (area-is es)

-- an accepted outline whose products differ by n
of-products : (ps : List Point) (n : ℕ) → outline_refusal (words_of ps) (words_of ps) ≡ ACCEPTED → plus_of (edges ps) ≡ minus_of (edges ps) + n
    → area_call (words_of ps) ≡ area_of ACCEPTED (pos n)
of-products ps n r e =
    sym (area-accepted (words_of ps) r (pos n)
    (sym (minus-cancel (plus_of (edges ps)) (minus_of (edges ps)) n e) ∙ area-is (edges ps) ∙ ap (λ (qs : List Point). area_twice (edges qs)) (sym (points-words ps))))

module _ (x y w h : ℕ) (east : x + w ≤ FARTHEST) (north : y + h ≤ FARTHEST) where
  pub rectangle-fine : outline_refusal (words_of (rectangle x y w h)) (words_of (rectangle x y w h)) ≡ ACCEPTED
  unfolding outline_refusal wrong_count within words_of
  rectangle-fine =
      simp (le-leb x FARTHEST (omega arith), le-leb y FARTHEST (omega arith), le-leb (x + w) FARTHEST east, le-leb (y + h) FARTHEST north)

  pub rectangle-area : area_call (words_of (rectangle x y w h)) ≡ area_of ACCEPTED (pos (2 * (w * h)))
  unfolding plus_of minus_of edges path
  rectangle-area = of-products (rectangle x y w h) (2 * (w * h)) rectangle-fine (simp ring (omega arith))

  module _ (u : ℕ) (apex : u ≤ FARTHEST) where
    triangle-fine : outline_refusal (words_of (triangle x y w h u)) (words_of (triangle x y w h u)) ≡ ACCEPTED
    unfolding outline_refusal wrong_count within words_of
    triangle-fine =
        simp (le-leb x FARTHEST (omega arith), le-leb y FARTHEST (omega arith), le-leb (x + w) FARTHEST east, le-leb (y + h) FARTHEST north, le-leb u FARTHEST apex)

    pub triangle-area : area_call (words_of (triangle x y w h u)) ≡ area_of ACCEPTED (pos (w * h))
    unfolding plus_of minus_of edges path
    triangle-area = of-products (triangle x y w h u) (w * h) triangle-fine (simp ring (omega arith))
