-- Turned clauses: their bits, what they name and admit, their refusal, four turns.
use Prim.Native.Nat.{ℕ, ◌+◌, ◌*◌, ◌/◌, ◌%◌, ◌^◌, ◌<◌}
use native.Mathlib.Omega.{arith}
use native.Mathlib.Nat.{mod-eq_of_lt}
use mathlib.Core.Path.{◌≡◌, refl, sym, ap, ap₂, ◌∙◌}
use mathlib.Core.Bool.{Bool, true, cond, ◌&&◌, ◌||◌}
use mathlib.Core.List.{List, [], ◌∷◌}
use lib.ListN.{length-map}
use lib.Dec.{eqb, ltb}
use borrow.Author.Tests.{eqb-true, eq-eqb}
use Rattle.std.proofs.lemmas.Grind.{common_steps}
use Rattle.relations.specs.Sets.{bit, packed, some_below}
use Rattle.relations.specs.Axis.{IsCode, turned}
use Rattle.relations.specs.Relation.{RELATIONS, in_relation}
use Rattle.relations.specs.Query.{named, admits, bad_clause, some_bad, refusal_of, CLAUSES, CLAUSE_COUNT, CLAUSE_NOT_VALID}
use Rattle.relations.proofs.Tests.{and_left, and_right, same_test}
use Rattle.relations.proofs.Bits.{bit-none, bit-packed, packed_lt, some_at, found_below}
use Rattle.turning.specs.Turn.{turn_relation, turn_clause, turn_query}
use Rattle.turning.proofs.Bits.{joined-low, joined-rest, same_bits}
use Rattle.turning.proofs.Relations.{before, four, inside, before-inside, relation-turned}

-- n bits by a rule, the rest as they were
module _ (f : ℕ → Bool) (n rest : ℕ) where
  abbrev filled : ℕ
  filled = packed f n + 2 ^ n * rest

  as-joined : filled ≡ packed f n % 2 ^ n + 2 ^ n * rest
  as-joined = ap (λ (x : ℕ). x + 2 ^ n * rest) (sym (mod-eq_of_lt (packed_lt f n)))

  filled-bit : (k : ℕ) → k < n → bit filled k ≡ f k
  filled-bit k l = ap (λ (x : ℕ). bit x k) as-joined ∙ (joined-low n (packed f n) rest k l ∙ bit-packed f n k l)

  filled-rest : filled / 2 ^ n ≡ rest
  filled-rest = ap (λ (x : ℕ). x / 2 ^ n) as-joined ∙ joined-rest n (packed f n) rest

-- what a relation becomes is named exactly when the relation is
module _ (c k : ℕ) (l : k < RELATIONS) where
  abbrev comes : ℕ → Bool
  comes t = bit c t && eqb (turn_relation t) k

  named-before : some_below comes RELATIONS ≡ bit c (before k)
  named-before = same_test (some_below comes RELATIONS) (bit c (before k)) to from
    where
      to : some_below comes RELATIONS ≡ true → bit c (before k) ≡ true
      to e =
          let (t, m, h) = found_below comes RELATIONS e in
          let b = and_left (bit c t) (eqb (turn_relation t) k) h in
          let z = and_right (bit c t) (eqb (turn_relation t) k) h in
          ap (λ (u : ℕ). bit c (turn_relation (turn_relation (turn_relation u)))) (sym (eqb-true (turn_relation t) k z)) ∙ (ap (bit c) (four t m) ∙ b)

      from : bit c (before k) ≡ true → some_below comes RELATIONS ≡ true
      from e = some_at comes RELATIONS (before k) (before-inside k l) (rw (e, eq-eqb (turn_relation (before k)) k (four k l)))

module _ (c : ℕ) where
  pub turn-bit : (k : ℕ) → k < RELATIONS → bit (turn_clause c) k ≡ bit c (before k)
  unfolding turn_clause
  turn-bit k l = filled-bit (λ u. some_below (λ t. bit c t && eqb (turn_relation t) u) RELATIONS) RELATIONS (c / 2 ^ RELATIONS) k l ∙ named-before c k l

  pub turn-rest : turn_clause c / 2 ^ RELATIONS ≡ c / 2 ^ RELATIONS
  unfolding turn_clause
  turn-rest = filled-rest (λ u. some_below (λ t. bit c t && eqb (turn_relation t) u) RELATIONS) RELATIONS (c / 2 ^ RELATIONS)

  pub bit-turned : (t : ℕ) → t < RELATIONS → bit (turn_clause c) (turn_relation t) ≡ bit c t
  bit-turned t l = turn-bit (turn_relation t) (inside t l) ∙ ap (bit c) (four t l)

-- a number with those bits and that rest is the turned clause
pub turn_is : (r c : ℕ) → r / 2 ^ RELATIONS ≡ c / 2 ^ RELATIONS → ((k : ℕ) → k < RELATIONS → bit r k ≡ bit c (before k)) → r ≡ turn_clause c
turn_is r c rest bits = same_bits RELATIONS r (turn_clause c) (rest ∙ sym (turn-rest c)) (λ k l. bits k l ∙ sym (turn-bit c k l))

-- four turns are no turn
pub four-clause : (c : ℕ) → turn_clause (turn_clause (turn_clause (turn_clause c))) ≡ c
four-clause c =
    let c1 = turn_clause c in
    let c2 = turn_clause c1 in
    let c3 = turn_clause c2 in
    same_bits RELATIONS (turn_clause c3) c (turn-rest c3 ∙ (turn-rest c2 ∙ (turn-rest c1 ∙ turn-rest c)))
    (λ k l.
    let k1 = inside k l in
    let k2 = inside (turn_relation k) k1 in
    ap (bit (turn_clause c3)) (sym (four k l)) ∙ (bit-turned c3 (before k) (before-inside k l)
    ∙ (bit-turned c2 (turn_relation (turn_relation k)) k2 ∙ (bit-turned c1 (turn_relation k) k1 ∙ bit-turned c k l))))

-- a clause is zero, or has bit 40 or higher, exactly when the turned one is or has
zero-turned : (c : ℕ) → c ≡ 0 → turn_clause c ≡ 0
zero-turned c e =
    same_bits RELATIONS (turn_clause c) 0 (turn-rest c ∙ ap (λ (x : ℕ). x / 2 ^ RELATIONS) e)
    (λ k l. turn-bit c k l ∙ (ap (λ (x : ℕ). bit x (before k)) e ∙ (bit-none (before k) ∙ sym (bit-none k))))

turned_zero : (c : ℕ) → turn_clause c ≡ 0 → c ≡ 0
turned_zero c e =
    same_bits RELATIONS c 0 (sym (turn-rest c) ∙ ap (λ (x : ℕ). x / 2 ^ RELATIONS) e)
    (λ k l. sym (bit-turned c k l) ∙ (ap (λ (x : ℕ). bit x (turn_relation k)) e ∙ (bit-none (turn_relation k) ∙ sym (bit-none k))))

pub bad-turned : (c : ℕ) → bad_clause (turn_clause c) ≡ bad_clause c
unfolding bad_clause
bad-turned c = grind (arith, common_steps, turn-rest c, zero-turned c, turned_zero c)

some-bad-turned : (clauses : List ℕ) → some_bad (turn_query clauses) ≡ some_bad clauses
unfolding some_bad
some-bad-turned [] = refl
some-bad-turned (c ∷ cs) = ap₂ (λ (a b : Bool). a || b) (bad-turned c) (some-bad-turned cs)

pub refusal-turned : (clauses : List ℕ) → refusal_of (turn_query clauses) ≡ refusal_of clauses
unfolding refusal_of
refusal-turned clauses =
    ap₂ (λ (n : ℕ) (b : Bool). cond (eqb n 0 || ltb CLAUSES n) CLAUSE_COUNT (cond b CLAUSE_NOT_VALID 0)) (length-map clauses turn_clause) (some-bad-turned clauses)

-- what a turned clause names, and what turned clauses admit
module _ (i j : ℕ) (ci : IsCode i) (cj : IsCode j) where
  abbrev cell : ℕ → ℕ → Bool
  cell c t = bit c t && in_relation t i j

  abbrev turned_cell : ℕ → ℕ → Bool
  turned_cell c t = bit (turn_clause c) t && in_relation t (turned j) i

  cell-turned : (c t : ℕ) → t < RELATIONS → turned_cell c (turn_relation t) ≡ cell c t
  cell-turned c t l = ap₂ (λ (a b : Bool). a && b) (bit-turned c t l) (relation-turned t i j l ci cj)

  named-turned : (c : ℕ) → named (turn_clause c) (turned j) i ≡ named c i j
  unfolding named
  named-turned c = same_test (some_below (turned_cell c) RELATIONS) (some_below (cell c) RELATIONS) to from
    where
      from : some_below (cell c) RELATIONS ≡ true → some_below (turned_cell c) RELATIONS ≡ true
      from e =
          let (t, l, h) = found_below (cell c) RELATIONS e in
          some_at (turned_cell c) RELATIONS (turn_relation t) (inside t l) (cell-turned c t l ∙ h)

      to : some_below (turned_cell c) RELATIONS ≡ true → some_below (cell c) RELATIONS ≡ true
      to e =
          let (t, l, h) = found_below (turned_cell c) RELATIONS e in
          let k = before-inside t l in
          some_at (cell c) RELATIONS (before t) k (sym (cell-turned c (before t) k) ∙ (ap (turned_cell c) (four t l) ∙ h))

  pub admits-turned : (clauses : List ℕ) → admits (turn_query clauses) (turned j) i ≡ admits clauses i j
  unfolding admits
  admits-turned [] = refl
  admits-turned (c ∷ cs) = ap₂ (λ (a b : Bool). a && b) (named-turned c) (admits-turned cs)
