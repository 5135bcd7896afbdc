-- Where nothing beyond the reference can be admitted, what lies beyond it on an axis passes neither test; likewise for what does not overlap it.
use mathlib.Core.Bool.{Bool, true, false, not, ◌&&◌, and-false}
use mathlib.Core.List.{List}
use mathlib.Core.Logic.{◌⊎◌, inl, inr}
use mathlib.Core.Path.{◌≡◌, refl, sym, ap, subst, ◌∙◌}
use Prim.Native.Nat.{ℕ, suc, ◌+◌, ◌-◌, ◌<◌, ◌≤◌}
use native.Mathlib.Decide.{dec_lt}
use native.Mathlib.Omega.{arith}
use lib.ListN.{get_or}
use borrow.Author.Tests.{not-true}
use Rattle.relations.specs.Sets.{bit, some_below}
use Rattle.relations.specs.Axis.{CODES, IsCode, code}
use Rattle.relations.specs.Nodes.{inside, may_hold}
use Rattle.relations.specs.Steps.{AROUND, joined_of, page_test, open_at, near_by, inner_by, rows_have}
use Rattle.relations.proofs.Tests.{all_below, all-at, none-at, and_left, and_right, or_left, or_right}
use Rattle.relations.proofs.Bits.{none_below}
use Rattle.relations.proofs.Sides.{Side, below, at, above, sided, side-below, code-above, code_below, code-suc}
use Rattle.relations.proofs.Pages.{page-test}

-- every code can stand inside a page around, and in a page of its own code
around-test : all_below (λ h. inside AROUND (suc h)) CODES ≡ true
unfolding all_below some_below inside
around-test = refl

own-test : all_below (λ h. inside (suc h) (suc h)) CODES ≡ true
unfolding all_below some_below inside
own-test = refl

-- the second of two tests fails where the first holds and both together fail
fails : {a b : Bool} → a ≡ true → (a && b) ≡ false → b ≡ false
fails {b = b} p q = sym (ap (λ (x : Bool). x && b) p) ∙ q

module _ (rows : List ℕ) where
  cell : ℕ → ℕ → ℕ → Bool
  cell cx h k = inside cx (suc k) && bit (get_or rows h 0) k

  -- what a page around holds not, none holds
  cells-less : (cx h : ℕ) → some_below (cell AROUND h) CODES ≡ false → some_below (cell cx h) CODES ≡ false
  unfolding cell
  cells-less cx h e =
      none_below (cell cx h) CODES
      (λ k l. ap (λ b. inside cx (suc k) && b) (fails (all-at (λ j. inside AROUND (suc j)) CODES k around-test l) (none-at (cell AROUND h) CODES k e l))
      ∙ and-false (inside cx (suc k)))

  less-x : (cy cx : ℕ) → may_hold rows cy AROUND ≡ false → may_hold rows cy cx ≡ false
  unfolding may_hold cell
  less-x cy cx e = none_below _ CODES (λ h l. go h (inside cy (suc h)) (none-at _ CODES h e l))
    where
      go : (h : ℕ) (b : Bool) → (b && some_below (cell AROUND h) CODES) ≡ false → (b && some_below (cell cx h) CODES) ≡ false
      go h true e = cells-less cx h e
      go h false e = refl

  less-y : (cy cx : ℕ) → may_hold rows AROUND cx ≡ false → may_hold rows cy cx ≡ false
  unfolding may_hold cell
  less-y cy cx e =
      none_below _ CODES
      (λ h l. ap (λ b. inside cy (suc h) && b) (fails (all-at (λ j. inside AROUND (suc j)) CODES h around-test l) (none-at _ CODES h e l))
      ∙ and-false (inside cy (suc h)))

  -- a configuration that the row sets have may stand in a page of its own codes
  pub leaf-less : (i j : ℕ) → IsCode i → IsCode j → page_test (joined_of rows) i j ≡ false → rows_have rows i j ≡ false
  unfolding rows_have may_hold cell
  leaf-less i j ic jc e =
      fails (own j jc) (none-at (cell j (i - 1)) CODES (j - 1) (fails (own i ic) (none-at _ CODES (i - 1) (sym (page-test rows i j ic) ∙ e) (omega arith))) (omega arith))
    where
      own : (c : ℕ) → IsCode c → inside c (suc (c - 1)) ≡ true
      own c k = sym (ap (λ d. inside d (suc (c - 1))) (code-suc c k)) ∙ all-at (λ h. inside (suc h) (suc h)) CODES (c - 1) own-test (omega arith)

  -- a code that is not open on either axis shuts the page, whatever its other code
  pub record Shut (c : ℕ) : Type 0 where
    pub is : IsCode c
    pub closed : open_at (joined_of rows) c ≡ false

  pub shut-y : {c : ℕ} → Shut c → (d : ℕ) → page_test (joined_of rows) c d ≡ false
  unfolding open_at
  shut-y {c = c} s d = page-test rows c d s.is ∙ less-x c d (sym (page-test rows c AROUND s.is) ∙ or_left _ _ s.closed)

  pub shut-x : {c : ℕ} → Shut c → (d : ℕ) → IsCode d → page_test (joined_of rows) d c ≡ false
  unfolding open_at
  shut-x {c = c} s d id =
      page-test rows d c id
      ∙ less-y d c (sym (page-test rows AROUND c (record { low = omega arith; high = omega arith })) ∙ or_right (page_test (joined_of rows) c AROUND) _ s.closed)

-- the codes of an interval beyond the reference, and of one that does not overlap it
pub data Apart : ℕ → Type 0 where
  after : Apart 1
  touching : Apart 2
  before : Apart 13

pub data Outside : ℕ → Type 0 where
  beyond : {c : ℕ} → Apart c → Outside c
  met : Outside 12

from_end : (p1 p2 q1 q2 : ℕ) → q2 ≤ p1 → Apart (code p1 p2 q1 q2)
from_end p1 p2 q1 q2 l = subst Apart (code-above p1 p2 q1 q2 l) (go (sided p1 q2))
  where
    go : {s : ℕ} → Side p1 q2 s → Apart (1 + s)
    go (below m) = absurd (omega arith)
    go (at m) = touching
    go (above m) = after

pub outside : (p1 p2 q1 q2 : ℕ) → q1 < q2 → (q2 ≤ p1) ⊎ (p2 ≤ q1) → Outside (code p1 p2 q1 q2)
outside p1 p2 q1 q2 o (inl h) = beyond (from_end p1 p2 q1 q2 h)
outside p1 p2 q1 q2 o (inr h) = go (dec_lt p1 q2)
  where
    low : {s : ℕ} → Side p2 q1 s → Outside (11 + s)
    low (below m) = beyond before
    low (at m) = met
    low (above m) = absurd (omega arith)

    go : Dec (p1 < q2) → Outside (code p1 p2 q1 q2)
    go (yes l) = subst Outside (code_below p1 p2 q1 q2 o l (omega arith)) (low (sided p2 q1))
    go (no l) = beyond (from_end p1 p2 q1 q2 (omega arith))

pub apart : (p1 p2 q1 q2 : ℕ) → q1 < q2 → (q2 < p1) ⊎ (p2 < q1) → Apart (code p1 p2 q1 q2)
apart p1 p2 q1 q2 o (inl h) = from_end p1 p2 q1 q2 (omega arith)
apart p1 p2 q1 q2 o (inr h) = go (dec_lt p1 q2)
  where
    go : Dec (p1 < q2) → Apart (code p1 p2 q1 q2)
    go (yes l) = subst Apart (ap (λ (s : ℕ). 11 + s) (sym (side-below p2 q1 h)) ∙ code_below p1 p2 q1 q2 o l (omega arith)) before
    go (no l) = from_end p1 p2 q1 q2 (omega arith)

module _ (rows : List ℕ) where
  -- what lies beyond the reference on an axis is shut out where `near_by` holds
  pub near-shut : near_by (joined_of rows) ≡ true → {c : ℕ} → Apart c → Shut rows c
  unfolding near_by
  near-shut n after = record { is = record { low = omega arith; high = omega arith }; closed = not-true _ (and_left _ _ n) }
  near-shut n touching = record { is = record { low = omega arith; high = omega arith }; closed = not-true _ (and_left _ _ (and_right (not (open_at (joined_of rows) 1)) _ n)) }
  near-shut n before = record {
    is = record { low = omega arith; high = omega arith };
    closed = not-true _ (and_right (not (open_at (joined_of rows) 2)) _ (and_right (not (open_at (joined_of rows) 1)) _ n));
  }

  -- and what does not overlap it, where `inner_by` holds
  pub inner-shut : inner_by (joined_of rows) ≡ true → {c : ℕ} → Outside c → Shut rows c
  unfolding inner_by
  inner-shut n (beyond a) = near-shut (and_left _ _ n) a
  inner-shut n met = record { is = record { low = omega arith; high = omega arith }; closed = not-true _ (and_right (near_by (joined_of rows)) _ n) }
