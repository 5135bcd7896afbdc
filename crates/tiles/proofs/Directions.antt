-- Tiles that alone hold some of the piece have its whole area; which these are is computed for every direction and configuration.
use Prim.Native.Nat.{ℕ, suc, ◌+◌, ◌≤◌, ◌<◌}
use native.Mathlib.Omega.{arith}
use mathlib.Core.Path.{◌≡◌, refl, sym, ap, ◌∙◌}
use mathlib.Core.Bool.{Bool, true, false, not, ◌||◌, cond, beq}
use mathlib.Core.Logic.{◌↔◌}
use mathlib.Core.List.{List, [], ◌∷◌}
use lib.Dec.{T}
use borrow.Author.Tests.{ltb-false, le-ltb, not-true}
use Rattle.relations.specs.Sets.{member}
use Rattle.relations.specs.Axis.{CODES}
use Rattle.relations.specs.Relation.{in_relation, directed}
use Rattle.relations.proofs.Bits.{none_below}
use Rattle.relations.proofs.Tests.{all_below, all_pairs, all-at, pair-at, beq-eq}
use Rattle.relations.proofs.Sides.{is_code, of_code}
use Rattle.pages.specs.declared.Rect.{Rect}
use Rattle.pages.specs.Lists.{sum_below}
use Rattle.pages.specs.Rectangles.{valid}
use Rattle.pages.proofs.Below.{below-same, below-add, below_at}
use Rattle.tiles.specs.Tiles.{TILES, area_of, area_in}
use Rattle.tiles.specs.Names.{within, side, middle, corner, COVERED_BY, STRONG, BOUNDED, CORNER, JUST, code_y, code_x, stands}
use Rattle.tiles.specs.Claims.{area_at, area_over}
use Rattle.tiles.proofs.Areas.{areas-add}
use Rattle.tiles.proofs.Adding.{area-at}
use Rattle.tiles.proofs.Held.{held_at, held}

-- tile t is one of these, or has nothing of a piece in configuration (i, j)
alone : List ℕ → ℕ → ℕ → ℕ → Bool
alone tiles i j t = member t tiles || not (held_at i j t)

all_alone : List ℕ → ℕ → ℕ → Bool
all_alone tiles i j = all_below (alone tiles i j) TILES

-- ---- the computed tests, over codes less one

side_right : ℕ → ℕ → ℕ → Bool
side_right d h k = beq (in_relation (directed d STRONG) (suc h) (suc k) || in_relation (directed d JUST) (suc h) (suc k)) (all_alone (side d) (suc h) (suc k))

one_right : ℕ → (ℕ → List ℕ) → ℕ → ℕ → ℕ → Bool
one_right kind tiles d h k = not (in_relation (directed d kind) (suc h) (suc k)) || all_alone (tiles d) (suc h) (suc k)

for_directions : (ℕ → ℕ → ℕ → Bool) → Bool
for_directions f = all_below (λ d. all_pairs (f d) CODES CODES) 4

sides-test : for_directions side_right ≡ true
unfolding for_directions side_right all_alone alone in_relation all_pairs all_below
sides-test = refl

bounded-test : for_directions (one_right BOUNDED middle) ≡ true
unfolding for_directions one_right all_alone alone in_relation all_pairs all_below
bounded-test = refl

corners-test : for_directions (one_right CORNER corner) ≡ true
unfolding for_directions one_right all_alone alone in_relation all_pairs all_below
corners-test = refl

covered_right : ℕ → ℕ → Bool
covered_right h k = beq (in_relation COVERED_BY (suc h) (suc k)) (all_alone (within ∷ []) (suc h) (suc k))

covered-test : all_pairs covered_right CODES CODES ≡ true
unfolding covered_right all_alone alone in_relation all_pairs all_below
covered-test = refl

at-codes : (f : ℕ → ℕ → ℕ → Bool) → for_directions f ≡ true → (d h k : ℕ) → d < 4 → h < CODES → k < CODES → f d h k ≡ true
unfolding for_directions
at-codes f t d h k ld lh lk = pair-at (f d) CODES CODES h k (all-at (λ d. all_pairs (f d) CODES CODES) 4 d t ld) lh lk

-- what holds of all codes holds of the piece's
module _ (p q : Rect) where
  configured : (P : ℕ → ℕ → Type 0) → ((h k : ℕ) → h < CODES → k < CODES → P (suc h) (suc k)) → P (code_y q p) (code_x q p)
  configured P f =
      of_code (λ i. P i (code_x q p))
      (λ h lh. of_code (P (suc h)) (λ k lk. f h k lh lk) (code_x q p) (is_code p.x1 p.x2 q.x1 q.x2))
      (code_y q p) (is_code p.y1 p.y2 q.y1 q.y2)

all-below : (f : ℕ → Bool) (n : ℕ) → ((k : ℕ) → k < n → f k ≡ true) → all_below f n ≡ true
unfolding all_below
all-below f n e = ap not (none_below (λ k. not (f k)) n (λ k h. ap not (e k h)))

-- ---- some of the tiles, chosen by m, against all of them

-- the chosen areas and the others add up
module _ (m : ℕ → Bool) (a : ℕ → ℕ) (n : ℕ) where
  chosen : ℕ → ℕ
  chosen t = cond (m t) (a t) 0

  others : ℕ → ℕ
  others t = cond (m t) 0 (a t)

  both-add : sum_below n chosen + sum_below n others ≡ sum_below n a
  unfolding chosen others
  both-add = sym (below-add n chosen others) ∙ below-same n (λ t. chosen t + others t) a (λ t _. go (m t) (a t))
    where
      go : (b : Bool) (x : ℕ) → cond b x 0 + cond b 0 x ≡ x
      go true x = omega arith
      go false x = omega arith

  none_beside : sum_below n chosen ≡ sum_below n a → (t : ℕ) → t < n → m t ≡ false → a t ≡ 0
  unfolding others
  none_beside e t l f =
      let most : others t ≤ sum_below n others = below_at n others t l in
      let none : cond (m t) 0 (a t) ≡ 0 = omega (arith, both-add, most, e) in
      rw f at none

  all-chosen : ((t : ℕ) → t < n → m t ≡ false → a t ≡ 0) → sum_below n chosen ≡ sum_below n a
  unfolding chosen
  all-chosen e = below-same n (λ t. cond (m t) (a t) 0) a (λ t l. go (m t) (a t) (e t l))
    where
      go : (b : Bool) (x : ℕ) → (b ≡ false → x ≡ 0) → cond b x 0 ≡ x
      go true x f = refl
      go false x f = sym (f refl)

module _ (p q : Rect) (vp : T (valid p)) (vq : T (valid q)) where
  -- no other tile has some of the piece
  abbrev Alone : List ℕ → Type 0
  Alone tiles = all_alone tiles (code_y q p) (code_x q p) ≡ true

  all-areas : sum_below TILES (area_at p q) ≡ area_of p
  all-areas = below-same TILES (area_at p q) (area_in p q) (area-at p q vp vq) ∙ areas-add p q

  -- tiles that alone hold some of the piece have it whole
  alone-whole : (tiles : List ℕ) → Alone tiles → area_over tiles p q ≡ area_of p
  unfolding all_alone alone chosen
  alone-whole tiles e = all-chosen (λ t. member t tiles) (area_at p q) TILES none ∙ all-areas
    where
      none : (t : ℕ) → t < TILES → member t tiles ≡ false → area_at p q t ≡ 0
      none t l f =
          let a : (member t tiles || not (held_at (code_y q p) (code_x q p) t)) ≡ true = all-at (alone tiles (code_y q p) (code_x q p)) TILES t e l in
          let b : not (held_at (code_y q p) (code_x q p) t) ≡ true = rw f at a in
          let c = ltb-false 0 (area_at p q t) (held p q vp vq t l ∙ not-true (held_at (code_y q p) (code_x q p) t) b) in
          omega arith

  whole-alone : (tiles : List ℕ) → area_over tiles p q ≡ area_of p → Alone tiles
  unfolding all_alone alone chosen
  whole-alone tiles e = all-below (alone tiles (code_y q p) (code_x q p)) TILES (λ t l. go t l (member t tiles) refl)
    where
      go : (t : ℕ) → t < TILES → (b : Bool) → member t tiles ≡ b → (b || not (held_at (code_y q p) (code_x q p) t)) ≡ true
      go t l true f = refl
      go t l false f =
          let none = none_beside (λ t. member t tiles) (area_at p q) TILES (e ∙ sym all-areas) t l f in
          ap not (sym (held p q vp vq t l) ∙ le-ltb 0 (area_at p q t) (omega arith))

  -- relations whose configurations are those of the tiles
  same_whole : (b : Bool) (tiles : List ℕ) → b ≡ all_alone tiles (code_y q p) (code_x q p) → (area_over tiles p q ≡ area_of p) ↔ (b ≡ true)
  same_whole b tiles same = (λ e. same ∙ whole-alone tiles e, λ e. alone-whole tiles (sym same ∙ e))

  pub covered : (area_over (within ∷ []) p q ≡ area_of p) ↔ (stands COVERED_BY p q ≡ true)
  unfolding covered_right
  covered =
      same_whole (stands COVERED_BY p q) (within ∷ [])
      (configured p q (λ i j. in_relation COVERED_BY i j ≡ all_alone (within ∷ []) i j)
      (λ h k lh lk. beq-eq (in_relation COVERED_BY (suc h) (suc k)) (all_alone (within ∷ []) (suc h) (suc k)) (pair-at covered_right CODES CODES h k covered-test lh lk)))

  pub sides : (d : ℕ) → d < 4 → (area_over (side d) p q ≡ area_of p) ↔ ((stands (directed d STRONG) p q || stands (directed d JUST) p q) ≡ true)
  unfolding side_right
  sides d l =
      same_whole (stands (directed d STRONG) p q || stands (directed d JUST) p q) (side d)
      (configured p q (λ i j. (in_relation (directed d STRONG) i j || in_relation (directed d JUST) i j) ≡ all_alone (side d) i j)
      (λ h k lh lk. beq-eq (in_relation (directed d STRONG) (suc h) (suc k) || in_relation (directed d JUST) (suc h) (suc k)) (all_alone (side d) (suc h) (suc k))
      (at-codes side_right sides-test d h k l lh lk)))

  one-tile : (kind : ℕ) (tiles : ℕ → List ℕ) → for_directions (one_right kind tiles) ≡ true
      → (d : ℕ) → d < 4 → stands (directed d kind) p q ≡ true → area_over (tiles d) p q ≡ area_of p
  unfolding one_right
  one-tile kind tiles test d l e =
      let right = configured p q (λ i j. (not (in_relation (directed d kind) i j) || all_alone (tiles d) i j) ≡ true)
      (λ h k lh lk. at-codes (one_right kind tiles) test d h k l lh lk) in
      let only : Alone (tiles d) = rw e at right in
      alone-whole (tiles d) only

  pub bounded : (d : ℕ) → d < 4 → stands (directed d BOUNDED) p q ≡ true → area_over (middle d) p q ≡ area_of p
  bounded = one-tile BOUNDED middle bounded-test

  pub corners : (d : ℕ) → d < 4 → stands (directed d CORNER) p q ≡ true → area_over (corner d) p q ≡ area_of p
  corners = one-tile CORNER corner corners-test
