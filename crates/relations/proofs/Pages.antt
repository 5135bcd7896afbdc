-- The page test: the joined rows say what `may_hold` says, and `may_hold` is the quarter-unit rule for rectangles.
use mathlib.Core.Bool.{Bool, true, false, not, cond, ◌&&◌, and_comm, false≢true, ◌||◌}
use mathlib.Core.List.{List}
use mathlib.Core.Logic.{◌↔◌}
use mathlib.Core.Path.{◌≡◌, refl, sym, ap, ap₂, ◌∙◌}
use Prim.Native.Nat.{ℕ, zero, suc, ◌-◌, ◌*◌, ◌^◌, ◌≤◌, ◌<◌}
use native.Mathlib.Nat.{lt_of_le_of_lt}
use native.Mathlib.Omega.{arith}
use lib.Bits.{bit_and, bit_or, and_le_r, or_zero_r}
use lib.Dec.{eqb}
use lib.ListN.{get_or}
use borrow.Author.Tests.{eq-eqb, ne_eqb}
use Rattle.relations.specs.Sets.{bit, ones_from, packed, some_below, listed}
use Rattle.relations.specs.Axis.{CODES, IsCode, code}
use Rattle.relations.specs.Query.{admits, row_set, row_sets}
use Rattle.relations.specs.Nodes.{inside, node_mask, may_hold, Quarter, QuarterRect}
use Rattle.relations.specs.Steps.{union_of, joined_to, joined_of, node_masks, page_test, rows_have}
use Rattle.relations.proofs.Tests.{and_left, and_right, both, none-at}
use Rattle.relations.proofs.Bits.{bit-none, bit-or, bit-and, bit-packed, packed_lt, packed-of, packed_none, none_below, some_at, some_same, some-swap, found_below, listed_at, listed_same}
use Rattle.relations.proofs.Sides.{is_code, code-suc, in-quarters, same_code}
use Rattle.relations.proofs.Quarter.{quarter}

-- ---- a configuration by the row sets

row-bit : (clauses : List ℕ) (h k : ℕ) → h < CODES → k < CODES → bit (get_or (row_sets clauses) h 0) k ≡ admits clauses (suc h) (suc k)
unfolding row_sets row_set
row-bit clauses h k hh hk =
    ap (λ (r : ℕ). bit r k) (listed_at (λ j. row_set clauses (suc j)) CODES h hh)
    ∙ bit-packed (λ j. admits clauses (suc h) (suc j)) CODES k hk

-- the leaf test on the row sets of a query
pub rows-have : (clauses : List ℕ) (i j : ℕ) → IsCode i → IsCode j → rows_have (row_sets clauses) i j ≡ admits clauses i j
unfolding rows_have
rows-have clauses i j ic jc =
    row-bit clauses (i - 1) (j - 1) (omega arith) (omega arith) ∙ ap₂ (admits clauses) (code-suc i ic) (code-suc j jc)

-- ---- the page test by joined rows

bit_mask : (c k : ℕ) → k < CODES → bit (node_mask c) k ≡ inside c (suc k)
unfolding node_mask
bit_mask c k h = bit-packed (λ j. inside c (suc j)) CODES k h

mask_lt : (c : ℕ) → node_mask c < 2 ^ CODES
unfolding node_mask
mask_lt c = packed_lt _ CODES

-- a row and a mask that have no bit in common make zero
module _ (row cx : ℕ) where
  both-have : ℕ → Bool
  both-have k = inside cx (suc k) && bit row k

  and-bit : (k : ℕ) → k < CODES → bit (bit_and row (node_mask cx)) k ≡ both-have k
  unfolding both-have
  and-bit k h =
      bit-and row (node_mask cx) k ∙ ap (λ (b : Bool). bit row k && b) (bit_mask cx k h) ∙ and_comm (bit row k) (inside cx (suc k))

  none-shared : bit_and row (node_mask cx) ≡ 0 → some_below both-have CODES ≡ false
  none-shared e = none_below both-have CODES (λ k h. sym (and-bit k h) ∙ ap (λ (m : ℕ). bit m k) e ∙ bit-none k)

  zero-shared : some_below both-have CODES ≡ false → bit_and row (node_mask cx) ≡ 0
  zero-shared e =
      let m = bit_and row (node_mask cx) in
      packed-of (bit m) CODES m (lt_of_le_of_lt (and_le_r row (node_mask cx)) (mask_lt cx)) (λ k h. refl)
      ∙ packed_none (bit m) CODES (λ k h. and-bit k h ∙ none-at both-have CODES k e h)

  shared : not (eqb (bit_and row (node_mask cx)) 0) ≡ some_below both-have CODES
  shared = go (some_below both-have CODES) refl
    where
      m : ℕ
      m = bit_and row (node_mask cx)

      go : (b : Bool) → some_below both-have CODES ≡ b → not (eqb m 0) ≡ some_below both-have CODES
      go false e = ap not (eq-eqb m 0 (zero-shared e)) ∙ sym e
      go true e = ap not (ne_eqb m 0 (λ z. false≢true (sym (none-shared z) ∙ e))) ∙ sym e

masks-at : (c : ℕ) → IsCode c → get_or node_masks (c - 1) 0 ≡ node_mask c
unfolding node_masks
masks-at c i = listed_at (λ h. node_mask (suc h)) CODES (c - 1) (omega arith) ∙ ap node_mask (code-suc c i)

-- as the source makes the page test
pub tested : (below masks : List ℕ) (cy cx : ℕ) → IsCode cx → masks ≡ node_masks → not (eqb (bit_and (get_or below (cy - 1) 0) (get_or masks (cx - 1) 0)) 0) ≡ page_test below cy cx
unfolding page_test both-have
tested below masks cy cx i e =
    ap (λ (x : ℕ). not (eqb (bit_and (get_or below (cy - 1) 0) x) 0)) (ap (λ (l : List ℕ). get_or l (cx - 1) 0) e ∙ masks-at cx i) ∙ shared (get_or below (cy - 1) 0) cx

-- the joined rows as the source writes them, without the rows that a page's code does not allow
module _ (rows : List ℕ) where
  unfoldable pub picked : ℕ → ℕ → ℕ
  picked c zero = 0
  picked c (suc n) = cond (inside c (suc n)) (bit_or (picked c n) (get_or rows n 0)) (picked c n)

  added : (b : Bool) (x r : ℕ) → cond b (bit_or x r) x ≡ bit_or x (cond b r 0)
  added true x r = refl
  added false x r = sym (or_zero_r x)

  picked-joined : (c n : ℕ) → picked c n ≡ joined_to rows c n
  unfolding picked joined_to
  picked-joined c zero = refl
  picked-joined c (suc n) =
      added (inside c (suc n)) (picked c n) (get_or rows n 0)
      ∙ ap (λ (x : ℕ). bit_or x (cond (inside c (suc n)) (get_or rows n 0) 0)) (picked-joined c n)

  pub all-picked : listed (λ c. picked (suc c) CODES) CODES ≡ joined_of rows
  unfolding joined_of
  all-picked = listed_same _ _ CODES (λ c l. picked-joined (suc c) CODES)

  -- the rows of each set, one after the other, as the source joins them
  pub all-joined : listed (λ c. union_of rows 0 (ones_from 0 64 (get_or node_masks c 0))) CODES ≡ joined_of rows
  unfolding listed inside picked union_of ones_from node_masks node_mask packed bit
  all-joined = all-picked

pub masks_fit : (c : ℕ) → c < CODES → get_or node_masks c 0 < 2 ^ CODES
unfolding node_masks
masks_fit c h = rw (listed_at (λ h. node_mask (suc h)) CODES c h) (mask_lt (suc c))

module _ (rows : List ℕ) where
  -- code i can stand inside a page of code cy, and its row has bit k
  row_has : ℕ → ℕ → ℕ → Bool
  row_has cy k h = inside cy (suc h) && bit (get_or rows h 0) k

  chosen : (b : Bool) (r k : ℕ) → bit (cond b r 0) k ≡ (b && bit r k)
  chosen true r k = refl
  chosen false r k = bit-none k

  joined-bit : (cy k n : ℕ) → bit (joined_to rows cy n) k ≡ some_below (row_has cy k) n
  unfolding joined_to some_below row_has
  joined-bit cy k zero = bit-none k
  joined-bit cy k (suc n) =
      bit-or (joined_to rows cy n) (cond (inside cy (suc n)) (get_or rows n 0) 0) k
      ∙ ap₂ ◌||◌ (joined-bit cy k n) (chosen (inside cy (suc n)) (get_or rows n 0) k)

  joined_at : (cy : ℕ) → IsCode cy → get_or (joined_of rows) (cy - 1) 0 ≡ joined_to rows cy CODES
  unfolding joined_of
  joined_at cy i =
      listed_at (λ h. joined_to rows (suc h) CODES) CODES (cy - 1) (omega arith)
      ∙ ap (λ (c : ℕ). joined_to rows c CODES) (code-suc cy i)

  pub page-test : (cy cx : ℕ) → IsCode cy → page_test (joined_of rows) cy cx ≡ may_hold rows cy cx
  unfolding page_test may_hold row_has
  page-test cy cx i =
      some_same _ _ CODES (λ k h. ap (λ (r : ℕ). inside cx (suc k) && bit r k) (joined_at cy i) ∙ ap (λ (b : Bool). inside cx (suc k) && b) (joined-bit cy k CODES))
      ∙ some-swap (λ k. inside cx (suc k)) (λ h. inside cy (suc h)) (λ k h. bit (get_or rows h 0) k) CODES CODES

-- ---- the quarter-unit rule for rectangles

place-code : (h : ℕ) → h < CODES → IsCode (suc h)
place-code h l = record { low = omega arith; high = omega arith }

interval : {P1 P2 q1 q2 s1 s2 : ℕ} → 4 * P1 ≤ s1 → s1 < s2 → s2 ≤ 4 * P2 → Quarter P1 P2 q1 q2 (code s1 s2 (4 * q1) (4 * q2))
interval {s1 = s1} {s2 = s2} a b c = record { s1 = s1; s2 = s2; from_low = a; order = b; to_high = c; coded = refl }

module _ (clauses : List ℕ) (X1 Y1 X2 Y2 u1 v1 u2 v2 : ℕ) (hx : X1 < X2) (hy : Y1 < Y2) (hu : u1 < u2) (hv : v1 < v2) where
  cy : ℕ
  cy = code Y1 Y2 v1 v2

  cx : ℕ
  cx = code X1 X2 u1 u2

  cell : ℕ → ℕ → Bool
  cell h k = inside cx (suc k) && bit (get_or (row_sets clauses) h 0) k

  row : ℕ → Bool
  row h = inside cy (suc h) && some_below (cell h) CODES

  -- code i inside the page on y and code j inside it on x, admitted together
  held : (i j : ℕ) → IsCode i → IsCode j → inside cy i ≡ true → inside cx j ≡ true → admits clauses i j ≡ true → may_hold (row_sets clauses) cy cx ≡ true
  unfolding may_hold row cell cy cx
  held i j ic jc a b t =
      some_at row CODES (i - 1) (omega arith)
      (both (ap (inside cy) (code-suc i ic) ∙ a)
      (some_at (cell (i - 1)) CODES (j - 1) (omega arith)
      (both (ap (inside cx) (code-suc j jc) ∙ b)
      (row-bit clauses (i - 1) (j - 1) (omega arith) (omega arith) ∙ ap₂ (admits clauses) (code-suc i ic) (code-suc j jc) ∙ t))))

  forward : QuarterRect clauses X1 Y1 X2 Y2 u1 v1 u2 v2 → may_hold (row_sets clauses) cy cx ≡ true
  unfolding cy cx
  forward r =
      let i = code r.y1 r.y2 (4 * v1) (4 * v2) in
      let j = code r.x1 r.x2 (4 * u1) (4 * u2) in
      let ic = is_code r.y1 r.y2 (4 * v1) (4 * v2) in
      let jc = is_code r.x1 r.x2 (4 * u1) (4 * u2) in
      held i j ic jc
      ((quarter Y1 Y2 v1 v2 hy hv i ic).0 (interval r.from-south r.order-y r.to-north))
      ((quarter X1 X2 u1 u2 hx hu j jc).0 (interval r.from-west r.order-x r.to-east))
      r.admitted

  made : (i j : ℕ) → Quarter Y1 Y2 v1 v2 i → Quarter X1 X2 u1 u2 j → admits clauses i j ≡ true → QuarterRect clauses X1 Y1 X2 Y2 u1 v1 u2 v2
  made i j y x a =
      record {
        x1 = x.s1;
        y1 = y.s1;
        x2 = x.s2;
        y2 = y.s2;
        from-west = x.from_low;
        from-south = y.from_low;
        order-x = x.order;
        order-y = y.order;
        to-east = x.to_high;
        to-north = y.to_high;
        admitted = ap₂ (admits clauses) y.coded x.coded ∙ a;
      }

  backward : may_hold (row_sets clauses) cy cx ≡ true → QuarterRect clauses X1 Y1 X2 Y2 u1 v1 u2 v2
  unfolding may_hold row cell cy cx
  backward e =
      let r = found_below row CODES e in
      let h = r.0 in
      let t = found_below (cell h) CODES (and_right (inside cy (suc h)) _ r.2) in
      let k = t.0 in
      made (suc h) (suc k)
      ((quarter Y1 Y2 v1 v2 hy hv (suc h) (place-code h r.1)).1 (and_left (inside cy (suc h)) _ r.2))
      ((quarter X1 X2 u1 u2 hx hu (suc k) (place-code k t.1)).1 (and_left (inside cx (suc k)) _ t.2))
      (sym (row-bit clauses h k r.1 t.1) ∙ and_right (inside cx (suc k)) _ t.2)

  -- the page test is the quarter-unit rule
  pub may-hold : QuarterRect clauses X1 Y1 X2 Y2 u1 v1 u2 v2 ↔ (may_hold (row_sets clauses) (code Y1 Y2 v1 v2) (code X1 X2 u1 u2) ≡ true)
  unfolding cy cx
  may-hold = (forward, backward)

  -- an admitted rectangle inside the page's rectangle makes the page test pass
  pub holds-inside : (x1 y1 x2 y2 : ℕ) → X1 ≤ x1 → Y1 ≤ y1 → x1 < x2 → y1 < y2 → x2 ≤ X2 → y2 ≤ Y2
      → admits clauses (code y1 y2 v1 v2) (code x1 x2 u1 u2) ≡ true → may_hold (row_sets clauses) (code Y1 Y2 v1 v2) (code X1 X2 u1 u2) ≡ true
  holds-inside x1 y1 x2 y2 w s lx ly e n a =
      may-hold.0
      (record {
        x1 = 4 * x1;
        y1 = 4 * y1;
        x2 = 4 * x2;
        y2 = 4 * y2;
        from-west = omega arith;
        from-south = omega arith;
        order-x = omega arith;
        order-y = omega arith;
        to-east = omega arith;
        to-north = omega arith;
        admitted =
            ap₂ (admits clauses) (sym (same_code (in-quarters y1 v1 v2) (in-quarters y2 v1 v2)))
            (sym (same_code (in-quarters x1 u1 u2) (in-quarters x2 u1 u2)))
            ∙ a;
      })
