-- The relation tables that the source reads, held to the code lists of each relation by a computed test for each table.
use mathlib.Core.Bool.{Bool, true, ◌&&◌}
use mathlib.Core.List.{List, map}
use mathlib.Core.Path.{◌≡◌, refl, sym, ap, ap₂, ◌∙◌}
use Prim.Native.Nat.{ℕ, ◌+◌, ◌-◌, ◌≤◌, ◌<◌}
use native.Mathlib.Omega.{arith}
use lib.Dec.{eqb}
use lib.ListN.{get_or}
use borrow.Author.Tests.{le-ltb, eqb-true}
use Rattle.relations.specs.declared.CodeSets.{CodeSets}
use Rattle.relations.specs.Sets.{packed}
use Rattle.relations.specs.Axis.{turned}
use Rattle.relations.specs.Relation.{topological, north_y, north_x, codes_of, mask_of, sets_of}
use Rattle.relations.proofs.Tests.{all_below, all-at, and_left, and_right}

-- by number and by kind, the masks of the code lists; the source has the same numbers
abbrev pub topo : List ℕ
topo = map mask_of topological

abbrev pub along : List ℕ
along = map mask_of north_y

abbrev pub across : List ℕ
across = map mask_of north_x

abbrev mask_turned : List ℕ → ℕ
mask_turned codes = mask_of (map turned codes)

abbrev pub along-turned : List ℕ
along-turned = map mask_turned north_y

abbrev pub across-turned : List ℕ
across-turned = map mask_turned north_x

abbrev pub pair : ℕ → ℕ → CodeSets
pair r c = record { rows = r; cols = c }

-- eight relations from number b on, whose codes stand in the tables rs and cs
module _ (b : ℕ) (rs cs : List ℕ) where
  right : ℕ → Bool
  right u = eqb (get_or rs u 0) (mask_of (codes_of (u + b)).on_y) && eqb (get_or cs u 0) (mask_of (codes_of (u + b)).on_x)

  eight : all_below right 8 ≡ true → (t : ℕ) → b ≤ t → t < b + 8 → pair (get_or rs (t - b) 0) (get_or cs (t - b) 0) ≡ sets_of t
  unfolding right sets_of
  eight e t lo hi =
      let u = t - b in
      let q : u + b ≡ t = omega arith in
      let r = all-at right 8 u e (omega arith) in
      ap₂ pair (eqb-true _ _ (and_left _ _ r)) (eqb-true _ _ (and_right (eqb (get_or rs u 0) (mask_of (codes_of (u + b)).on_y)) _ r))
      ∙ ap sets_of q

pub topo-sets : (t : ℕ) → t < 8 → pair (get_or topo t 0) (get_or topo t 0) ≡ sets_of t
unfolding all_below right mask_of packed
topo-sets t h =
    let q : t ≡ t - 0 = omega arith in
    ap (λ (u : ℕ). pair (get_or topo u 0) (get_or topo u 0)) q ∙ eight 0 topo topo refl t (omega arith) (omega arith)

pub north-sets : (t : ℕ) → 8 ≤ t → t < 16 → pair (get_or along (t - 8) 0) (get_or across (t - 8) 0) ≡ sets_of t
unfolding all_below right mask_of packed
north-sets = eight 8 along across refl

pub east-sets : (t : ℕ) → 16 ≤ t → t < 24 → pair (get_or across-turned (t - 16) 0) (get_or along (t - 16) 0) ≡ sets_of t
unfolding all_below right mask_of packed
east-sets = eight 16 across-turned along refl

pub south-sets : (t : ℕ) → 24 ≤ t → t < 32 → pair (get_or along-turned (t - 24) 0) (get_or across-turned (t - 24) 0) ≡ sets_of t
unfolding all_below right mask_of packed
south-sets = eight 24 along-turned across-turned refl

pub west-sets : (t : ℕ) → 32 ≤ t → t < 40 → pair (get_or across (t - 32) 0) (get_or along-turned (t - 32) 0) ≡ sets_of t
unfolding all_below right mask_of packed
west-sets = eight 32 across along-turned refl

-- a number above 39 is no relation
pub no-sets : (t : ℕ) → 40 ≤ t → pair 0 0 ≡ sets_of t
unfolding sets_of mask_of packed
no-sets t h = sym (simp (le-ltb t 8 (omega arith), le-ltb t 40 h))
