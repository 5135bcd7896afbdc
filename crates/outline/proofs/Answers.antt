-- The two calls by what is read and what is refused.
use Prim.Native.Nat.{ℕ, ◌≤◌}
use native.Mathlib.Omega.{arith}
use mathlib.Core.Path.{◌≡◌, refl, sym, ap, ap₂, ◌∙◌}
use mathlib.Core.Bool.{Bool, true, false, ◌&&◌, cond, false≢true}
use mathlib.Core.List.{List, ◌∷◌}
use lib.Dec.{leb}
use lib.IntN.{ℤ, pos}
use lib.ListN.{length}
use borrow.Author.Tests.{ne_eqb, le-leb, leb-true}
use Rattle.std.specs.Prelude.{Ok, Err}
use Rattle.refusals.specs.declared.Refusal.{Refusal}
use Rattle.refusals.specs.declared.Refusal.TheVariants.{PointCount, CoordinateTooLarge}
use Rattle.refusals.specs.Numbers.{number_of}
use Rattle.outline.specs.declared.Point.{Point}
use Rattle.outline.specs.declared.Place.{Place}
use Rattle.outline.specs.Outline.{FARTHEST, point, points, edges}
use Rattle.outline.specs.Area.{area_twice}
use Rattle.outline.specs.Place.{place_of}
use Rattle.outline.specs.Place as Place
use Rattle.outline.specs.Refusals.{ACCEPTED, COORDINATE_TOO_LARGE, wrong_count, within, outline_refusal}
use Rattle.outline.specs.Calls.{area_call, area_from, point_call, located_from}
use Rattle.outline.specs.Claims.{area_of, located_of}
use Rattle.outline.specs.Steps.{point_of, outline_of}

pub area-refused : (ws : List ℕ) (r : ℕ) → r ≡ outline_refusal ws ws → (r ≡ 0 → ⊥) → area_of r (pos 0) ≡ area_call ws
unfolding area_call
area-refused ws r e n = rw (← e, ne_eqb r ACCEPTED n)

pub area-accepted : (ws : List ℕ) → outline_refusal ws ws ≡ 0 → (z : ℤ) → z ≡ area_twice (edges (points ws)) → area_of 0 z ≡ area_call ws
unfolding area_call
area-accepted ws r z e = rw (r, e)

-- a point beside the outline's words: the refusals of the words come first
abbrev chosen : Bool → Bool → ℕ
chosen wrong range = cond wrong 10 (cond range 0 11)

chosen_more : (w a b r : Bool) → (chosen w r ≡ 0 → ⊥) → chosen w (a && (b && r)) ≡ chosen w r
chosen_more true a b r n = refl
chosen_more false a b true n = absurd (n refl)
chosen_more false true true false n = refl
chosen_more false true false false n = refl
chosen_more false false b false n = refl

chosen-beyond : (w a b r : Bool) → chosen w r ≡ 0 → (a && b) ≡ false → chosen w (a && (b && r)) ≡ 11
chosen-beyond true a b r e f = absurd (omega (arith, e))
chosen-beyond false true true r e f = absurd (false≢true (sym f))
chosen-beyond false true false r e f = refl
chosen-beyond false false b r e f = refl

module _ (ws : List ℕ) (x y : ℕ) where
  pub refusal-more : (outline_refusal ws ws ≡ 0 → ⊥) → outline_refusal ws (x ∷ (y ∷ ws)) ≡ outline_refusal ws ws
  unfolding outline_refusal within
  refusal-more n = chosen_more (wrong_count (length ws)) (leb x FARTHEST) (leb y FARTHEST) (within ws) n

  pub refusal-beyond : outline_refusal ws ws ≡ 0 → (leb x FARTHEST && leb y FARTHEST) ≡ false → outline_refusal ws (x ∷ (y ∷ ws)) ≡ COORDINATE_TOO_LARGE
  unfolding outline_refusal within
  refusal-beyond e f = chosen-beyond (wrong_count (length ws)) (leb x FARTHEST) (leb y FARTHEST) (within ws) e f

  pub refusal-none : outline_refusal ws ws ≡ 0 → x ≤ FARTHEST → y ≤ FARTHEST → outline_refusal ws (x ∷ (y ∷ ws)) ≡ 0
  unfolding outline_refusal within
  refusal-none e a b = rw (le-leb x FARTHEST a, le-leb y FARTHEST b) e

  pub point-refused : (r : ℕ) → r ≡ outline_refusal ws (x ∷ (y ∷ ws)) → (r ≡ 0 → ⊥) → located_of r 0 ≡ point_call ws x y
  unfolding point_call
  point-refused r e n = rw (← e, ne_eqb r ACCEPTED n)

  pub point-accepted : outline_refusal ws (x ∷ (y ∷ ws)) ≡ 0 → (p : Place) → p ≡ place_of (edges (points ws)) (point x y) → located_of 0 (Place.number_of p) ≡ point_call ws x y
  unfolding point_call
  point-accepted e p h = rw (e, h)

-- what the words of an outline say by being read or refused
read-is : (ws : List ℕ) (ps : List Point) → Ok ps ≡ outline_of ws → (outline_refusal ws ws ≡ 0) × (ps ≡ points ws)
unfolding outline_refusal
read-is ws ps e = go (wrong_count (length ws)) (within ws) refl refl
  where
    go : (w i : Bool) → wrong_count (length ws) ≡ w → within ws ≡ i → (outline_refusal ws ws ≡ 0) × (ps ≡ points ws)
    go true i p q = let f = rw p at e in absurd (cc)
    go false false p q = let f = rw (p, q) at e in absurd (cc)
    go false true p q = let f = rw (p, q) at e in (rw (p, q), cc)

refused-is : (ws : List ℕ) (r : Refusal) → Err r ≡ outline_of ws → (number_of r ≡ outline_refusal ws ws) × (number_of r ≡ 0 → ⊥)
unfolding outline_refusal
refused-is ws r e = go (wrong_count (length ws)) (within ws) refl refl
  where
    go : (w i : Bool) → wrong_count (length ws) ≡ w → within ws ≡ i → (number_of r ≡ outline_refusal ws ws) × (number_of r ≡ 0 → ⊥)
    go true i p q = let f = rw p at e in let is : r ≡ PointCount = cc in (rw (is, p), rw is (λ n. omega (arith, n)))
    go false false p q = let f = rw (p, q) at e in let is : r ≡ CoordinateTooLarge = cc in (rw (is, p, q), rw is (λ n. omega (arith, n)))
    go false true p q = let f = rw (p, q) at e in absurd (cc)

pub area-err : (ws : List ℕ) (r : Refusal) → Err r ≡ outline_of ws → area_from (Err r) ≡ area_call ws
area-err ws r e = let f = refused-is ws r e in area-refused ws (number_of r) f.0 f.1

pub area-ok : (ws : List ℕ) (ps : List Point) (z : ℤ) → Ok ps ≡ outline_of ws → z ≡ area_twice (edges ps) → area_from (Ok z) ≡ area_call ws
area-ok ws ps z e h = let f = read-is ws ps e in area-accepted ws f.0 z (h ∙ ap (λ (qs : List Point). area_twice (edges qs)) f.1)

module _ (ws : List ℕ) (x y : ℕ) where
  pub point-err : (r : Refusal) → Err r ≡ outline_of ws → located_from (Err r) ≡ point_call ws x y
  point-err r e =
      let f = refused-is ws r e in
      point-refused ws x y (number_of r) (f.0 ∙ sym (refusal-more ws x y (λ z. f.1 (f.0 ∙ z)))) f.1

  pub point-beyond : (ps : List Point) (r : Refusal) → Ok ps ≡ outline_of ws → Err r ≡ point_of x y → located_from (Err r) ≡ point_call ws x y
  point-beyond ps r e h = go (leb x FARTHEST && leb y FARTHEST) refl
    where
      go : (b : Bool) → (leb x FARTHEST && leb y FARTHEST) ≡ b → located_from (Err r) ≡ point_call ws x y
      go true p = let f = rw p at h in absurd (cc)
      go false p =
          let f = rw p at h in
          let is : r ≡ CoordinateTooLarge = cc in
          rw is (point-refused ws x y 11 (sym (refusal-beyond ws x y (read-is ws ps e).0 p)) (λ n. omega (arith, n)))

  pub point-ok : (ps : List Point) (q : Point) (place : Place) → Ok ps ≡ outline_of ws → Ok q ≡ point_of x y → place ≡ place_of (edges ps) q
      → located_from (Ok place) ≡ point_call ws x y
  point-ok ps q place e h t = go (leb x FARTHEST) (leb y FARTHEST) refl refl
    where
      go : (a b : Bool) → leb x FARTHEST ≡ a → leb y FARTHEST ≡ b → located_from (Ok place) ≡ point_call ws x y
      go false b m n = let f = rw m at h in absurd (cc)
      go true false m n = let f = rw (m, n) at h in absurd (cc)
      go true true m n =
          let f = rw (m, n) at h in
          let is : q ≡ point x y = cc in
          let r = read-is ws ps e in
          point-accepted ws x y (refusal-none ws x y r.0 (leb-true x FARTHEST m) (leb-true y FARTHEST n)) place
          (t ∙ ap₂ (λ (qs : List Point) (v : Point). place_of (edges qs) v) r.1 is)
