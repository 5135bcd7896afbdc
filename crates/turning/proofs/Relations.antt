-- Relations under a turn: each law by a test that is computed over the 40 relations, one of them over the 169 configurations too.
use Prim.Native.Nat.{ℕ, suc, ◌+◌, ◌-◌, ◌<◌}
use mathlib.Core.Path.{◌≡◌, refl}
use mathlib.Core.Bool.{Bool, true, cond, beq}
use lib.Dec.{ltb, eqb}
use borrow.Author.Tests.{eqb-true, ltb-true}
use Rattle.relations.specs.Axis.{CODES, IsCode, turned}
use Rattle.relations.specs.Relation.{RELATIONS, in_relation}
use Rattle.relations.proofs.Tests.{all_below, all_pairs, all-at, pair-at, beq-eq}
use Rattle.relations.proofs.Sides.{of_code}
use Rattle.turning.specs.Turn.{turn_relation}

-- the relation that a turn sends to t: three turns after it
abbrev pub before : ℕ → ℕ
before t = turn_relation (turn_relation (turn_relation t))

four_right : ℕ → Bool
four_right t = eqb (turn_relation (before t)) t

four-test : all_below four_right RELATIONS ≡ true
unfolding all_below four_right turn_relation
four-test = refl

pub four : (t : ℕ) → t < RELATIONS → turn_relation (before t) ≡ t
unfolding four_right
four t l = eqb-true _ _ (all-at four_right RELATIONS t four-test l)

-- a turned relation is a relation
inside_right : ℕ → Bool
inside_right t = ltb (turn_relation t) RELATIONS

inside-test : all_below inside_right RELATIONS ≡ true
unfolding all_below inside_right turn_relation
inside-test = refl

pub inside : (t : ℕ) → t < RELATIONS → turn_relation t < RELATIONS
unfolding inside_right
inside t l = ltb-true _ _ (all-at inside_right RELATIONS t inside-test l)

pub before-inside : (t : ℕ) → t < RELATIONS → before t < RELATIONS
before-inside t l = inside (turn_relation (turn_relation t)) (inside (turn_relation t) (inside t l))

-- where a bit of a turned clause comes from, as its bytes move
abbrev pub comes_from : ℕ → ℕ
comes_from t = cond (ltb t 8) t (cond (ltb t 16) (t + 24) (t - 8))

from_right : ℕ → Bool
from_right t = eqb (comes_from t) (before t)

from-test : all_below from_right RELATIONS ≡ true
unfolding all_below from_right turn_relation
from-test = refl

pub comes-from : (t : ℕ) → t < RELATIONS → comes_from t ≡ before t
unfolding from_right
comes-from t l = eqb-true _ _ (all-at from_right RELATIONS t from-test l)

-- (j turned round, i) belongs to the turned relation exactly when (i, j) belongs to the relation
cell_right : ℕ → ℕ → ℕ → Bool
cell_right t h k = beq (in_relation (turn_relation t) (turned (suc k)) (suc h)) (in_relation t (suc h) (suc k))

relation_right : ℕ → Bool
relation_right t = all_pairs (cell_right t) CODES CODES

relation-test : all_below relation_right RELATIONS ≡ true
unfolding all_below all_pairs relation_right cell_right turn_relation in_relation
relation-test = refl

relation-at : (t h k : ℕ) → t < RELATIONS → h < CODES → k < CODES → in_relation (turn_relation t) (turned (suc k)) (suc h) ≡ in_relation t (suc h) (suc k)
unfolding relation_right cell_right
relation-at t h k l a b = beq-eq _ _ (pair-at (cell_right t) CODES CODES h k (all-at relation_right RELATIONS t relation-test l) a b)

pub relation-turned : (t i j : ℕ) → t < RELATIONS → IsCode i → IsCode j → in_relation (turn_relation t) (turned j) i ≡ in_relation t i j
relation-turned t i j l ci cj =
    of_code (λ i. in_relation (turn_relation t) (turned j) i ≡ in_relation t i j)
    (λ h a. of_code (λ j. in_relation (turn_relation t) (turned j) (suc h) ≡ in_relation t (suc h) j) (λ k b. relation-at t h k l a b) j cj) i ci
