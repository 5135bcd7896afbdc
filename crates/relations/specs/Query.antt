-- Queries: the clauses, what they admit, and the answer of the admitted-set call.
use Rattle.std.specs.Prelude.{Bool, true, false, cond, ◌&&◌, ◌||◌, List, [], ◌∷◌, ℕ, zero, suc, ◌^◌, eqb, leb, ltb, length, map, sum, replicate, Result, Ok, Err}
use Rattle.std.specs.Int.Count.{ones}
use Rattle.refusals.specs.declared.Refusal.{Refusal}
use Rattle.refusals.specs.Numbers.{number_of}
use Rattle.relations.specs.declared.AdmittedSet.{AdmittedSet}
use Rattle.relations.specs.declared.RowSets.{RowSets}
use Rattle.relations.specs.Sets.{bit, digit, packed, total, some_below, listed}
use Rattle.relations.specs.Axis.{CODES}
use Rattle.relations.specs.Relation.{RELATIONS, in_relation}

-- a query has 1 to 8 clauses
abbrev pub CLAUSES : ℕ
CLAUSES = 8

-- (i, j) belongs to a relation that the clause names
unfoldable pub named : ℕ → ℕ → ℕ → Bool
named clause i j = some_below (λ t. bit clause t && in_relation t i j) RELATIONS

-- (i, j) belongs, in every clause, to a relation that it names
unfoldable pub admits : List ℕ → ℕ → ℕ → Bool
admits [] i j = true
admits (c ∷ cs) i j = named c i j && admits cs i j

-- row set i: bit j - 1 is one exactly for each admitted (i, j)
unfoldable pub row_set : List ℕ → ℕ → ℕ
row_set clauses i = packed (λ k. admits clauses i (suc k)) CODES

-- row set i stands at place i - 1
unfoldable pub row_sets : List ℕ → List ℕ
row_sets clauses = listed (λ h. row_set clauses (suc h)) CODES

-- how many of the 169 configurations are admitted
unfoldable pub admitted_count : List ℕ → ℕ
admitted_count clauses = total (λ h. total (λ k. digit (admits clauses (suc h) (suc k))) CODES) CODES

-- a clause that is zero or has bit 40 or higher
unfoldable pub bad_clause : ℕ → Bool
bad_clause c = eqb c 0 || leb (2 ^ RELATIONS) c

unfoldable pub some_bad : List ℕ → Bool
some_bad [] = false
some_bad (c ∷ cs) = bad_clause c || some_bad cs

-- refusal 4: no clause, or more than 8
abbrev pub CLAUSE_COUNT : ℕ
CLAUSE_COUNT = 4

-- refusal 5: a clause that is zero or has bit 40 or higher
abbrev pub CLAUSE_NOT_VALID : ℕ
CLAUSE_NOT_VALID = 5

-- the first refusal whose condition holds; 0 where the clauses are a query
unfoldable pub refusal_of : List ℕ → ℕ
refusal_of clauses =
    cond (eqb (length clauses) 0 || ltb CLAUSES (length clauses)) CLAUSE_COUNT
    (cond (some_bad clauses) CLAUSE_NOT_VALID 0)

abbrev pub answer : ℕ → List ℕ → AdmittedSet
answer zero clauses = record { refusal = 0; rows = row_sets clauses; count = admitted_count clauses }
answer (suc r) clauses = record { refusal = suc r; rows = replicate CODES 0; count = 0 }

-- the answer of the admitted-set call
unfoldable pub admitted_of : List ℕ → AdmittedSet
admitted_of clauses = answer (refusal_of clauses) clauses

-- how many configurations row sets hold
abbrev pub count_of : List ℕ → ℕ
count_of rows = sum (map ones rows)

-- what C is told of row sets, or of their refusal
abbrev pub admitted_set_of : Result RowSets Refusal → AdmittedSet
admitted_set_of (Ok set) = record { refusal = 0; rows = set.rows; count = count_of set.rows }
admitted_set_of (Err e) = record { refusal = number_of e; rows = replicate CODES 0; count = 0 }
