-- Each array has one part of each tile's share, or is all zeros.
use mathlib.Core.Path.{◌≡◌}
use lib.ListN.{length}
use Rattle.std.proofs.Common.{rules}
use Rattle.tiles.specs.Calls.{no_shares}
use Rattle.pages.proofs.Arrays.{mapped}
use Rattle.tiles.proofs.Arrays.{zeros}
use Rattle.tiles.proofs.SharesFromResultArrayTileShareTILESRefusal.from.Goals as goal

pub returns-in-Ok : goal.returns-in-Ok
returns-in-Ok c =
    let n : length c.in-Ok.tiles ≡ 9 = search rules in
    let a = mapped _ (λ s. s.area) _ (λ x r q k. search rules) c.in-Ok.tiles c.map.result 9 n c.map.ensures.items in
    let b = mapped _ (λ s. s.thousandths) _ (λ x r q k. search rules) c.in-Ok.tiles c.map-in-Ok.result 9 n c.map-in-Ok.ensures.items in
    let d = mapped _ (λ s. s.remainder) _ (λ x r q k. search rules) c.in-Ok.tiles c.map-in-Ok-2.result 9 n c.map-in-Ok-2.ensures.items in
    rw (c.in-Ok.is, a, b, d)

pub returns-in-Err : goal.returns-in-Err
unfolding no_shares
returns-in-Err c =
    let a = zeros _ c.default.result.areas 9 (λ x h. h) c.default.ensures.1.0 in
    let b = zeros _ c.default.result.thousandths 9 (λ x h. h) c.default.ensures.1.1.0 in
    let d = zeros _ c.default.result.remainders 9 (λ x h. h) c.default.ensures.1.1.1 in
    rw (c.in-Err.is, a, b, d, c.number.ensures.number)
