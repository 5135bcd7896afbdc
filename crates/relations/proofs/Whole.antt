-- Where all 81 configurations with both codes in 3 to 11 are admitted, whatever has such codes passes both tests.
use mathlib.Core.Bool.{Bool, true, false, cond, false≢true}
use mathlib.Core.List.{List}
use mathlib.Core.Path.{◌≡◌, refl, sym, ap, subst, ◌∙◌}
use Rattle.std.proofs.Common.{rules, tests}
use Rattle.std.proofs.lemmas.List.{get_or-drop, get_or-take}
use Rattle.std.proofs.lemmas.List.Folds.{list_all_at}
use Prim.Native.Nat.{ℕ, ◌+◌, ◌-◌, ◌≤◌, ◌<◌}
use native.Mathlib.Omega.{arith}
use lib.ListN.{length, get_or, take, drop}
use borrow.Author.Tests.{eqb-true}
use denote.Enum.Bare.{sameb}
use Rattle.relations.specs.contracts.Reach.{the_type}
use Rattle.relations.specs.declared.Reach.TheVariants.{Inner, Near, Anywhere}
use Rattle.relations.specs.Sets.{bit, some_below, listed}
use Rattle.relations.specs.Axis.{CODES, IsCode, code}
use Rattle.relations.specs.Steps.{OVERLAPPING, joined_of, page_test, near_by, inner_by, reach_by, has_overlapping, whole_by, rows_have}
use Rattle.relations.proofs.Tests.{all_below, all-at, and_left}
use Rattle.relations.proofs.Bits.{bit-and, listed_at, length-listed, listed_of}
use Rattle.relations.proofs.Sides.{side-lt, code-over}
use Rattle.relations.proofs.Near.{leaf-less}

-- the codes of intervals that overlap
pub record Overlapping (c : ℕ) : Type 0 where
  pub low : 3 ≤ c
  pub high : c ≤ 11

pub overlapping : (p1 p2 q1 q2 : ℕ) → p1 < q2 → q1 < p2 → Overlapping (code p1 p2 q1 q2)
overlapping p1 p2 q1 q2 h k = subst Overlapping (code-over p1 p2 q1 q2 h k) (record { low = omega arith; high = omega (arith, side-lt p2 q2, side-lt p1 q1) })

-- the nine rows of these codes
pub nine-rows : (rows : List ℕ) → length rows ≡ CODES → take 9 (drop 2 rows) ≡ listed (λ k. get_or rows (k + 2) 0) 9
nine-rows rows l =
    listed_of _ 9 (take 9 (drop 2 rows)) (search (rules, tests))
    (λ k h. get_or-take 9 (drop 2 rows) k 0 h ∙ get_or-drop 2 rows k 0 ∙ ap (λ (n : ℕ). get_or rows n 0) (omega arith))

-- the bits of OVERLAPPING
own_bits : all_below (λ k. bit OVERLAPPING (k + 2)) 9 ≡ true
unfolding all_below some_below bit
own_bits = refl

module _ (rows : List ℕ) where
  row-whole : whole_by rows ≡ true → (h : ℕ) → h < 9 → has_overlapping (get_or rows (h + 2) 0) ≡ true
  unfolding whole_by
  row-whole w h l = go (has_overlapping (get_or rows (h + 2) 0)) refl
    where
      go : (b : Bool) → has_overlapping (get_or rows (h + 2) 0) ≡ b → b ≡ true
      go true e = refl
      go false e =
          absurd (false≢true (sym (list_all_at has_overlapping nine h 0 (omega (arith, length-listed row 9)) (ap has_overlapping (listed_at row 9 h l) ∙ e)) ∙ w))
        where
          row : ℕ → ℕ
          row k = get_or rows (k + 2) 0

          nine : List ℕ
          nine = listed row 9

  pub whole-leaf : whole_by rows ≡ true → (i j : ℕ) → Overlapping i → Overlapping j → rows_have rows i j ≡ true
  unfolding rows_have
  whole-leaf w i j oi oj =
      let own : bit OVERLAPPING (j - 3 + 2) ≡ true = all-at (λ k. bit OVERLAPPING (k + 2)) 9 (j - 3) own_bits (omega arith) in
      let row : ℕ = get_or rows (i - 3 + 2) 0 in
      let a : j - 1 ≡ j - 3 + 2 = omega arith in
      let b : i - 1 ≡ i - 3 + 2 = omega arith in
      rw (a, b)
      (and_left (bit row (j - 3 + 2)) (bit OVERLAPPING (j - 3 + 2))
      (sym (bit-and row OVERLAPPING (j - 3 + 2)) ∙ ap (λ x. bit x (j - 3 + 2)) (eqb-true _ _ (row-whole w (i - 3) (omega (arith, oi.high)))) ∙ own))

  pub whole-page : whole_by rows ≡ true → (i j : ℕ) → Overlapping i → Overlapping j → page_test (joined_of rows) i j ≡ true
  whole-page w i j oi oj = go (page_test (joined_of rows) i j) refl
    where
      is : {c : ℕ} → Overlapping c → IsCode c
      is o = record { low = omega (arith, o.low); high = omega (arith, o.high) }

      go : (b : Bool) → page_test (joined_of rows) i j ≡ b → b ≡ true
      go true e = refl
      go false e = absurd (false≢true (sym (leaf-less rows i j (is oi) (is oj) e) ∙ whole-leaf w i j oi oj))

-- the reach is the inner one exactly where `inner_by` holds
pub inner-reach : (joined : List ℕ) → sameb the_type (reach_by joined) Inner ≡ inner_by joined
unfolding reach_by
inner-reach joined = go (inner_by joined) (near_by joined)
  where
    go : (inner near : Bool) → sameb the_type (cond inner Inner (cond near Near Anywhere)) Inner ≡ inner
    go true near = refl
    go false true = refl
    go false false = refl

pub reach-inner : (joined : List ℕ) → inner_by joined ≡ true → reach_by joined ≡ Inner
unfolding reach_by
reach-inner joined e = rw e

pub inner-is : (joined : List ℕ) → reach_by joined ≡ Inner → inner_by joined ≡ true
inner-is joined e = sym (inner-reach joined) ∙ ap (λ r. sameb the_type r Inner) e

pub near-is : (joined : List ℕ) → reach_by joined ≡ Near → near_by joined ≡ true
unfolding reach_by
near-is joined e = go (inner_by joined) (near_by joined) e
  where
    go : (inner near : Bool) → cond inner Inner (cond near Near Anywhere) ≡ Near → near ≡ true
    go inner true r = refl
    go true false r = absurd (false≢true (ap (λ x. sameb the_type x Near) r))
    go false false r = absurd (false≢true (ap (λ x. sameb the_type x Near) r))
