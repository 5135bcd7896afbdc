-- What `tile_shares` returns, refused and accepted.
use Prim.Native.Nat.{ℕ, ◌-◌, ◌*◌, ◌≤◌, ◌<◌}
use native.Mathlib.Omega.{arith}
use native.Mathlib.Nat.{mul-pos, mul-le-mul}
use mathlib.Core.Path.{◌≡◌, sym, ap, ap₂, subst, ◌∙◌}
use mathlib.Core.Bool.{true, false, ◌&&◌, and-false}
use mathlib.Core.List.{List}
use lib.Dec.{T}
use lib.ListN.{get_or, length}
use Rattle.std.specs.Prelude.{Ok, Err}
use Rattle.std.proofs.lemmas.List.FromFn.{fill_by_all}
use Rattle.refusals.specs.declared.Refusal.TheVariants.{RectangleNotValid}
use Rattle.relations.specs.Sets.{listed}
use Rattle.relations.proofs.Bits.{listed_same}
use Rattle.pages.specs.declared.Rect.{Rect}
use Rattle.pages.specs.Sizes.{EDGE}
use Rattle.pages.specs.Rectangles.{valid}
use Rattle.pages.proofs.Lists.{T_true}
use Rattle.pages.proofs.Valid.{Edges}
use Rattle.tiles.specs.declared.Shares.{Shares}
use Rattle.tiles.specs.declared.TileShare.{TileShare}
use Rattle.tiles.specs.Tiles.{TILES, area_of, area_in}
use Rattle.tiles.specs.Calls.{thousandths_of, remainder_of, shares_in, no_shares, shares_call, shares_from}
use Rattle.tiles.specs.Steps.{cut_at, product, share_of, shares_in_tiles}
use Rattle.tiles.proofs.Areas.{area-product, area-whole}

-- a height times a width fits 64 bits, also a thousand times
pub product-fits : (a b : ℕ) → a ≤ EDGE → b ≤ EDGE → a * b ≤ EDGE * EDGE
product-fits a b h k = mul-le-mul h k

pub whole-fits : (r : Rect) → Edges r → (r.x2 - r.x1) * (r.y2 - r.y1) ≤ EDGE * EDGE
whole-fits r p = product-fits (r.x2 - r.x1) (r.y2 - r.y1) (omega (arith, p.x-end)) (omega (arith, p.y-end))

-- a valid rectangle has an area
pub some-area : (r : Rect) → Edges r → 0 < area_of r
some-area r p = subst (λ (x : ℕ). 0 < x) (sym (area-whole r)) (mul-pos (omega (arith, p.on-x)) (omega (arith, p.on-y)))

-- the shares of equal areas are equal
shares-same : (f g : ℕ → ℕ) (v w : ℕ) → ((t : ℕ) → t < TILES → f t ≡ g t) → v ≡ w → shares_in f v ≡ shares_in g w
unfolding shares_in
shares-same f g v w e h =
    let a = listed_same f g TILES e in
    let b = listed_same (λ t. thousandths_of (f t) v) (λ t. thousandths_of (g t) w) TILES (λ t l. ap₂ thousandths_of (e t l) h) in
    let c = listed_same (λ t. remainder_of (f t) v) (λ t. remainder_of (g t) w) TILES (λ t l. ap₂ remainder_of (e t l) h) in
    λ i. record { refusal = 0; areas = a i; thousandths = b i; remainders = c i }

-- from both cuts
pub cut-shares : (p q : Rect) (s : Shares) (hs ws : List ℕ) (a : ℕ) → hs ≡ cut_at p.y1 p.y2 q.y1 q.y2 → ws ≡ cut_at p.x1 p.x2 q.x1 q.x2
    → a ≡ area_of p → s ≡ shares_in (product hs ws) a → s ≡ shares_in (area_in p q) (area_of p)
cut-shares p q s hs ws a eh ew ea z = z ∙ shares-same (product hs ws) (area_in p q) a (area_of p) (λ t l. ap₂ (λ u v. product u v t) eh ew ∙ area-product p q t l) ea

module _ (p q : Rect) where
  -- the nine shares, tile by tile
  pub cut-tiles : (ts : List TileShare) (hs ws : List ℕ) (a : ℕ) → hs ≡ cut_at p.y1 p.y2 q.y1 q.y2 → ws ≡ cut_at p.x1 p.x2 q.x1 q.x2 → a ≡ area_of p
      → length ts ≡ TILES → ((t : ℕ) → t < TILES → get_or ts t (share_of 0 0) ≡ share_of (product hs ws t) a) → ts ≡ shares_in_tiles p q
  unfolding shares_in_tiles
  cut-tiles ts hs ws a eh ew ea n each =
      fill_by_all (λ t. share_of (area_in p q t) (area_of p)) ts 9 (share_of 0 0) n
      (λ t l. each t l ∙ ap₂ share_of (ap₂ (λ (u v : List ℕ). product u v t) eh ew ∙ area-product p q t l) ea)

  pub accepted : T (valid p) → T (valid q) → shares_call p q ≡ shares_in (area_in p q) (area_of p)
  unfolding shares_call
  accepted v w =
      let both : valid p && valid q ≡ true = rw (T_true (valid p) v, T_true (valid q) w) in
      rw both

  pub shared : (ts : List TileShare) → ts ≡ shares_in_tiles p q → valid p ≡ true → valid q ≡ true → shares_from (Ok ts) ≡ shares_call p q
  unfolding shares_call shares_in_tiles shares_in listed
  shared ts e v w = ap (λ (us : List TileShare). shares_from (Ok us)) e ∙ rw (v, w)

  pub refused-piece : valid p ≡ false → shares_from (Err RectangleNotValid) ≡ shares_call p q
  unfolding shares_call no_shares
  refused-piece f = rw f

  pub refused-reference : valid q ≡ false → shares_from (Err RectangleNotValid) ≡ shares_call p q
  unfolding shares_call no_shares
  refused-reference f = rw (f, and-false)
