-- The entry to go to: areas fit 64 bits and widening does not lessen them, and the least cost is that of the choice.
use Prim.Native.Nat.{ℕ, zero, suc, ◌+◌, ◌-◌, ◌*◌, ◌^◌, ◌≤◌, ◌<◌}
use native.Mathlib.Omega.{arith}
use native.Mathlib.Nat.{le_of_lt, lt_of_le_of_lt, mul-le-mul, mul-le-mul_left, mul-lt-mul_of_pos_right}
use native.Mathlib.Numerals.{add-one}
use mathlib.Core.Path.{◌≡◌, refl, sym, ap, subst⁻¹, ◌∙◌}
use mathlib.Core.Bool.{Bool, true, false, cond}
use mathlib.Core.List.{List, [], ◌∷◌, ◌++◌, map}
use lib.Pow.{pow_pos, pow-add}
use Rattle.std.specs.List.{fold, range_with_len}
use Rattle.std.proofs.lemmas.List.FromFn.{map-range_with_len_more}
use Rattle.placing.specs.declared.choice.Cost.{Cost}
use Rattle.pages.specs.declared.Rect.{Rect}
use Rattle.pages.specs.declared.Entry.{Entry}
use Rattle.pages.specs.Sizes.{FANOUT}
use Rattle.pages.specs.Rectangles.{widen}
use Rattle.pages.specs.Readers.{entry_in, entries_in}
use Rattle.pages.proofs.Bounds.{length-entries}
use Rattle.placing.specs.Place.{area, growth, before, scan, choose}
use Rattle.placing.specs.Parts.{cost_of, costs_less, lesser}
use Rattle.placing.specs.Steps.{count_in, chosen_in}
use Rattle.placing.proofs.Fill.{choose-below}

-- the product of two numbers of k bits
pub product-fits : (k : ℕ) {a b : ℕ} → a < 2 ^ k → b < 2 ^ k → a * b < 2 ^ (k + k)
product-fits k {a} {b} ha hb =
    subst⁻¹ (λ (n : ℕ). a * b < n) (pow-add 2 k k)
    (lt_of_le_of_lt (mul-le-mul_left a (le_of_lt hb)) (mul-lt-mul_of_pos_right ha (pow_pos k)))

-- widening lessens no area
pub area_widen : (r new : Rect) → area (widen r new) ≡ area r + growth new r
unfolding area growth widen
area_widen r new =
    let more : area r ≤ area (widen r new) = mul-le-mul (omega arith) (omega arith) in
    omega (arith, more)

-- the entry at one place more
abbrev pub with_place : Rect → (ℕ → Entry) → Cost → ℕ → Cost
with_place new at least place = lesser (cost_of new at place) least

-- the cost of the rectangle r at place i
abbrev cost : Rect → Rect → ℕ → Cost
cost new r i = record { growth = growth new r; area = area r; place = i }

lesser-is : (new r s : Rect) (i j : ℕ) → lesser (cost new r i) (cost new s j) ≡ cost new (cond (before new r s) r s) (cond (before new r s) i j)
unfolding before
lesser-is new r s i j = go (costs_less (cost new r i) (cost new s j))
  where
    go : (b : Bool) → cond b (cost new r i) (cost new s j) ≡ cost new (cond b r s) (cond b i j)
    go true = refl
    go false = refl

least-scan : (new : Rect) (at : ℕ → Entry) (best : Rect) (i next n : ℕ) → (fold (with_place new at) (cost new best i) (range_with_len next n)).place ≡ scan new best i next (map at (range_with_len next n))
unfolding scan
least-scan new at best i next zero = refl
least-scan new at best i next (suc n) =
    let b = before new (at next).rect best in
    ap (λ c. (fold (with_place new at) c (range_with_len (next + 1) n)).place) (lesser-is new (at next).rect best next i)
    ∙ least-scan new at (cond b (at next).rect best) (cond b next i) (next + 1) n
    ∙ ap (λ m. scan new (cond b (at next).rect best) (cond b next i) m (map at (range_with_len (next + 1) n))) (add-one next)

-- a page's first entries, by their places
entries-range : (w : List ℕ) (n : ℕ) → entries_in w n ≡ map (entry_in w) (range_with_len 0 n)
unfolding entries_in
entries-range w zero = refl
entries-range w (suc n) = ap (λ es. es ++ (entry_in w n ∷ [])) (entries-range w n) ∙ sym (map-range_with_len_more (entry_in w) 0 n n (omega arith)) ∙ ap (λ m. map (entry_in w) (range_with_len 0 m)) (add-one n)

module _ (new : Rect) (w : List ℕ) where
  least-at : (n : ℕ) → (fold (with_place new (entry_in w)) (cost_of new (entry_in w) 0) (range_with_len 1 (n - 1))).place ≡ choose new (entries_in w n)
  unfolding choose entries_in
  least-at zero = refl
  least-at (suc n) =
      let e : suc n - 1 ≡ n = omega arith in
      ap (λ m. (fold (with_place new (entry_in w)) (cost_of new (entry_in w) 0) (range_with_len 1 m)).place) e
      ∙ least-scan new (entry_in w) (entry_in w 0).rect 0 1 n ∙ sym (ap (choose new) (entries-range w (suc n)))

  few : (n p : ℕ) → n ≤ FANOUT → p ≡ choose new (entries_in w n) → p < FANOUT
  unfolding entries_in choose
  few zero p k e = omega (arith, e)
  few (suc n) p k e = omega (arith, e, length-entries w (suc n), choose-below new (entries_in w (suc n)) (omega (arith, length-entries w (suc n))))

  pub least-chosen : (least : Cost) → least ≡ fold (with_place new (entry_in w)) (cost_of new (entry_in w) 0) (range_with_len 1 (count_in w - 1)) → (least.place < FANOUT) × (least.place ≡ chosen_in w new)
  unfolding chosen_in
  least-chosen least h =
      let at : least.place ≡ choose new (entries_in w (count_in w)) = ap (λ c. c.place) h ∙ least-at (count_in w) in
      (few (count_in w) least.place (omega arith) at, at)
