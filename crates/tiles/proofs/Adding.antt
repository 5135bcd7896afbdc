-- What the nine areas, quotients and remainders add up to.
use Prim.Native.Nat.{ℕ, zero, suc, ◌+◌, ◌*◌, ◌<◌}
use native.Mathlib.Omega.{arith}
use native.Mathlib.Nat.{add-mul, zero-mul, mod-lt, div-add-mod'}
use mathlib.Core.Path.{◌≡◌, refl, sym, ap, ap₂, subst, ◌∙◌}
use lib.Dec.{T}
use lib.ListN.{get_or}
use Rattle.relations.specs.Sets.{listed}
use Rattle.relations.proofs.Bits.{listed_at}
use Rattle.pages.specs.declared.Rect.{Rect}
use Rattle.pages.specs.Lists.{sum_below}
use Rattle.pages.specs.Rectangles.{valid}
use Rattle.pages.proofs.Below.{below-shift}
use Rattle.pages.proofs.Valid.{edges}
use Rattle.tiles.specs.declared.Shares.{Shares}
use Rattle.tiles.specs.Tiles.{TILES, area_of, area_in}
use Rattle.tiles.specs.Calls.{THOUSAND, thousandths_of, remainder_of, shares_in, shares_call}
use Rattle.tiles.specs.Claims.{added, area_at, thousandths_at, remainder_at}
use Rattle.tiles.proofs.Areas.{areas-add}
use Rattle.tiles.proofs.Called.{some-area, accepted}

added-listed : (f : ℕ → ℕ) (n : ℕ) → added (listed f n) ≡ sum_below n f
unfolding listed
added-listed f zero = refl
added-listed f (suc n) = ap (λ (s : ℕ). f 0 + s) (added-listed (λ k. f (suc k)) n) ∙ sym (below-shift n f)

-- quotients and remainders of areas f by w
module _ (f : ℕ → ℕ) (w : ℕ) where
  abbrev quotients : ℕ → ℕ
  quotients t = thousandths_of (f t) w

  abbrev rests : ℕ → ℕ
  rests t = remainder_of (f t) w

  divided-below : (n : ℕ) → sum_below n quotients * w + sum_below n rests ≡ THOUSAND * sum_below n f
  divided-below zero = omega (arith, zero-mul w)
  divided-below (suc n) = omega (arith, div-add-mod' (THOUSAND * f n) w, divided-below n, add-mul (quotients n) (sum_below n quotients) w)

module _ (p q : Rect) (vp : T (valid p)) (vq : T (valid q)) where
  pub area-at : (t : ℕ) → t < TILES → area_at p q t ≡ area_in p q t
  unfolding shares_in
  area-at t l = ap (λ (s : Shares). get_or s.areas t 0) (accepted p q vp vq) ∙ listed_at (area_in p q) TILES t l

  thousandths-at : (t : ℕ) → t < TILES → thousandths_at p q t ≡ quotients (area_in p q) (area_of p) t
  unfolding shares_in
  thousandths-at t l = ap (λ (s : Shares). get_or s.thousandths t 0) (accepted p q vp vq) ∙ listed_at (quotients (area_in p q) (area_of p)) TILES t l

  remainder-at : (t : ℕ) → t < TILES → remainder_at p q t ≡ rests (area_in p q) (area_of p) t
  unfolding shares_in
  remainder-at t l = ap (λ (s : Shares). get_or s.remainders t 0) (accepted p q vp vq) ∙ listed_at (rests (area_in p q) (area_of p)) TILES t l

  pub areas : added (shares_call p q).areas ≡ area_of p
  unfolding shares_in
  areas = ap (λ (s : Shares). added s.areas) (accepted p q vp vq) ∙ (added-listed (area_in p q) TILES ∙ areas-add p q)

  pub thousandths : added (shares_call p q).thousandths * area_of p + added (shares_call p q).remainders ≡ THOUSAND * area_of p
  unfolding shares_in
  thousandths =
      ap (λ (s : Shares). added s.thousandths * area_of p + added s.remainders) (accepted p q vp vq)
      ∙ (ap₂ (λ (a b : ℕ). a * area_of p + b) (added-listed (quotients (area_in p q) (area_of p)) TILES) (added-listed (rests (area_in p q) (area_of p)) TILES)
      ∙ (divided-below (area_in p q) (area_of p) TILES ∙ ap (λ (a : ℕ). THOUSAND * a) (areas-add p q)))

  pub divided : (t : ℕ) → t < TILES → thousandths_at p q t * area_of p + remainder_at p q t ≡ THOUSAND * area_at p q t
  divided t l =
      ap₂ (λ (a b : ℕ). a * area_of p + b) (thousandths-at t l) (remainder-at t l)
      ∙ (div-add-mod' (THOUSAND * area_in p q t) (area_of p) ∙ ap (λ (a : ℕ). THOUSAND * a) (sym (area-at t l)))

  pub remainders : (t : ℕ) → t < TILES → remainder_at p q t < area_of p
  remainders t l = subst (λ (r : ℕ). r < area_of p) (sym (remainder-at t l)) (mod-lt (THOUSAND * area_in p q t) (some-area p (edges p vp)))
