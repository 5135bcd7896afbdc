-- What is proved of the call beyond its equation.
use Rattle.std.specs.Prelude.{ℕ, ◌+◌, ◌-◌, ◌*◌, ◌/◌, ◌%◌, ◌<◌, min, max, ◌≡◌, true, false, ◌&&◌, ◌||◌, cond, ◌↔◌, List, [], ◌∷◌, map, T, ltb, get_or}
use Rattle.relations.specs.Sets.{member}
use Rattle.relations.specs.Relation.{directed}
use Rattle.pages.specs.declared.Rect.{Rect}
use Rattle.pages.specs.Lists.{sum, sum_below}
use Rattle.pages.specs.Rectangles.{valid}
use Rattle.tiles.specs.Tiles.{STRIPS, TILES, area_of}
use Rattle.tiles.specs.Calls.{THOUSAND, shares_call}
use Rattle.tiles.specs.Names.{within, singles, side, middle, corner, COVERED_BY, STRONG, BOUNDED, CORNER, JUST, code_y, code_x, stands, codes_in}
use Rattle.tiles.specs.Examples.{Known, known}

abbrev pub added : List ℕ → ℕ
added xs = sum (λ x. x) xs

-- what the call returns for tile t
abbrev pub area_at : Rect → Rect → ℕ → ℕ
area_at p q t = get_or (shares_call p q).areas t 0

abbrev pub thousandths_at : Rect → Rect → ℕ → ℕ
thousandths_at p q t = get_or (shares_call p q).thousandths t 0

abbrev pub remainder_at : Rect → Rect → ℕ → ℕ
remainder_at p q t = get_or (shares_call p q).remainders t 0

-- and for all of these tiles
abbrev pub area_over : List ℕ → Rect → Rect → ℕ
area_over tiles p q = sum_below TILES (λ t. cond (member t tiles) (area_at p q t) 0)

-- the length that [p1, p2] has in common with strip s
unfoldable pub length_in : ℕ → ℕ → ℕ → ℕ → ℕ → ℕ
length_in p1 p2 q1 q2 s = get_or ((min p2 q1 - p1) ∷ (min p2 q2 - max p1 q1) ∷ (p2 - max p1 q2) ∷ []) s 0

-- for every valid piece p, every valid reference q and every tile t
abbrev pub ForTiles : (Rect → Rect → ℕ → Type 0) → Type 0
ForTiles P = (p q : Rect) → T (valid p) → T (valid q) → (t : ℕ) → t < TILES → P p q t

-- for every valid piece p, every valid reference q and every direction d
abbrev pub ForDirections : (Rect → Rect → ℕ → Type 0) → Type 0
ForDirections P = (p q : Rect) → T (valid p) → T (valid q) → (d : ℕ) → d < 4 → P p q d

pub record Claims : Type 0 where
  -- "The nine areas add up to the piece's area"
  pub areas : (p q : Rect) → T (valid p) → T (valid q) → added (shares_call p q).areas ≡ area_of p
  -- which is its width times its height
  pub whole : (r : Rect) → area_of r ≡ (r.x2 - r.x1) * (r.y2 - r.y1)
  -- "The nine quotients times that area, plus the nine remainders, add up to 1,000 times it"
  pub thousandths : (p q : Rect) → T (valid p) → T (valid q)
      → added (shares_call p q).thousandths * area_of p + added (shares_call p q).remainders ≡ THOUSAND * area_of p
  -- "the whole per thousand of the piece's area, and the exact remainder of that division", tile by tile
  pub divided : ForTiles (λ p q t. thousandths_at p q t * area_of p + remainder_at p q t ≡ THOUSAND * area_at p q t)
  pub remainders : ForTiles (λ p q t. remainder_at p q t < area_of p)
  -- a tile's area is a height times a width: what the piece has in common with the tile's row, and with its column
  pub lengths : ForTiles (λ p q t. area_at p q t ≡ length_in p.y1 p.y2 q.y1 q.y2 (t / STRIPS) * length_in p.x1 p.x2 q.x1 q.x2 (t % STRIPS))
  -- a tile has the whole area of the piece exactly when the piece stands in 000's relation of that name
  pub single : ForTiles (λ p q t. (area_at p q t ≡ area_of p) ↔ (get_or (singles p q) t false ≡ true))
  -- a tile has some of the piece exactly where its configuration says so, code by code
  pub held : ForTiles (λ p q t. ltb 0 (area_at p q t) ≡ (member (code_y q p) (codes_in (t / STRIPS)) && member (code_x q p) (codes_in (t % STRIPS))))
  -- the reference's own tile has the whole area exactly when the piece stands in covered_by
  pub covered : (p q : Rect) → T (valid p) → T (valid q) → (area_over (within ∷ []) p q ≡ area_of p) ↔ (stands COVERED_BY p q ≡ true)
  -- the three tiles on the side of a direction have the whole area exactly when the piece is strong or just in that direction
  pub sides : ForDirections (λ p q d. (area_over (side d) p q ≡ area_of p) ↔ ((stands (directed d STRONG) p q || stands (directed d JUST) p q) ≡ true))
  -- the middle one has it when the piece is strong bounded, the corner when it is a strong corner
  pub bounded : ForDirections (λ p q d. stands (directed d BOUNDED) p q ≡ true → area_over (middle d) p q ≡ area_of p)
  pub corners : ForDirections (λ p q d. stands (directed d CORNER) p q ≡ true → area_over (corner d) p q ≡ area_of p)
  -- pieces whose shares are known, computed
  pub shares-known : map (λ (k : Known). shares_call k.piece k.reference) known ≡ map (λ (k : Known). k.shares) known
