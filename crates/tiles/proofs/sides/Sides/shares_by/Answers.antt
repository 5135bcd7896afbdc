use mathlib.Core.Path.{◌≡◌, refl}
use Prim.Native.Nat.{ℕ, ◌*◌, ◌/◌, ◌%◌, ◌≤◌, ◌<◌}
use native.Mathlib.Omega.{arith}
use native.Mathlib.Nat.{mul-le-mul}
use lib.ListN.{get_or}
use Rattle.std.proofs.Common.{rules, tests}
use Rattle.std.proofs.iter.Yields.{serves_by}
use Rattle.tiles.specs.declared.TileShare.{TileShare}
use Rattle.tiles.specs.Tiles.{TILES}
use Rattle.tiles.specs.Steps.{MOST_AREA, product, share_of}
use Rattle.pages.proofs.Arrays.{made}
use Rattle.tiles.proofs.Called.{cut-tiles}
use Rattle.tiles.proofs.sides.Sides.shares_by.Goals as goal

pub from_fn-requires : goal.from_fn-requires
from_fn-requires c = (
  omega arith,
  serves_by _ (λ xs p. (p.0.now ≡ c.cut-heights.result) × (p.1.now ≡ c.cut-widths.result) × (p.2.now ≡ c.area-whole.result)) (λ xs q x v j r. search (rules, tests))
      _ _ _ _ (refl, refl, refl)
      (λ xs t q x u y e j.
      let area : get_or q.0.now (x / 3) 0 * get_or q.1.now (x % 3) 0 ≤ MOST_AREA =
      rw (j.0, j.1)
      (mul-le-mul (c.cut-heights.ensures.short (x / 3) (omega (arith, e.0))) (c.cut-widths.ensures.short (x % 3) (omega (arith, e.0)))) in
      let whole : 0 < q.2.now = rw j.2 c.area-whole.ensures.some in (
        (λ κs p n h r. omega (arith, e.0)),
        (λ κs p n h r a. omega (arith, e.0)),
        (λ κs p n h r a _ f. omega arith),
        (λ κs p n h r a _ f b. omega arith),
        (λ κs p n h r a _ f b _ k. omega (arith, area)),
        (λ κs p n h r a _ f b _ k w _. (area, whole)),
      )),
)

pub returns : goal.returns
unfolding product
returns c =
    let long = c.from_fn.ensures.items.long in
    let share : ℕ → TileShare = λ i. share_of (product c.cut-heights.result c.cut-widths.result i) c.area-whole.result in
    cut-tiles _ _ _ _ _ _ c.cut-heights.ensures.cut c.cut-widths.ensures.cut c.area-whole.ensures.area long
    (λ t l. made _ share _ (λ i r q k. search (rules, tests)) c.from_fn.result (share_of 0 0) TILES t l c.from_fn.ensures.items)
