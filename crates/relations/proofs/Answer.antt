-- The answer of the admitted-set call: its refusals, and its count as the ones of its rows.
use mathlib.Core.Bool.{Bool, true, false, ◌||◌}
use mathlib.Core.List.{List, map}
use mathlib.Core.Path.{◌≡◌, refl, sym, ap, ap₂, ◌∙◌}
use Prim.Native.Nat.{ℕ, zero, suc, ◌+◌, ◌≤◌, ◌<◌}
use native.Mathlib.Nat.{add-zero, zero-add}
use native.Mathlib.Omega.{arith}
use lib.Count.{ones}
use lib.ListN.{length, replicate}
use Rattle.std.specs.Prelude.{Ok, Err, [], ◌∷◌}
use Rattle.std.specs.List.{fold, list_any}
use Rattle.refusals.specs.declared.Refusal.{Refusal}
use Rattle.refusals.specs.Numbers.{number_of}
use Rattle.refusals.proofs.Numbers.{number-some}
use Rattle.relations.specs.declared.RowSets.{RowSets}
use borrow.Author.Tests.{ne_eqb, lt-ltb, le-ltb}
use Rattle.relations.specs.declared.AdmittedSet.{AdmittedSet}
use Rattle.relations.specs.Sets.{total, listed}
use Rattle.relations.specs.Axis.{CODES}
use Rattle.relations.specs.Query.{CLAUSES, CLAUSE_COUNT, CLAUSE_NOT_VALID, admits, row_set, row_sets, admitted_count, bad_clause, some_bad, refusal_of, answer, admitted_of, count_of, admitted_set_of}
use Rattle.relations.proofs.Bits.{ones-packed, total-front, total-same}

-- ---- refusals

module _ (cs : List ℕ) where
  pub refuse-many : (length cs ≡ 0 → ⊥) → CLAUSES < length cs → CLAUSE_COUNT ≡ refusal_of cs
  unfolding refusal_of
  refuse-many n h = simp (ne_eqb (length cs) 0 n, lt-ltb CLAUSES (length cs) h)

  pub refuse-bad : (length cs ≡ 0 → ⊥) → length cs ≤ CLAUSES → some_bad cs ≡ true → CLAUSE_NOT_VALID ≡ refusal_of cs
  unfolding refusal_of
  refuse-bad n h e = simp (ne_eqb (length cs) 0 n, le-ltb CLAUSES (length cs) h, e)

  pub accept : (length cs ≡ 0 → ⊥) → length cs ≤ CLAUSES → some_bad cs ≡ false → 0 ≡ refusal_of cs
  unfolding refusal_of
  accept n h e = simp (ne_eqb (length cs) 0 n, le-ltb CLAUSES (length cs) h, e)

-- as the source tests the clauses, one by one
pub some-bad : (cs : List ℕ) → list_any bad_clause cs ≡ some_bad cs
unfolding some_bad
some-bad [] = refl
some-bad (c ∷ cs) = ap (λ (b : Bool). bad_clause c || b) (some-bad cs)

-- ---- rows and count

-- the ones of a list of rows, summed up from a on
ones-summed : (f : ℕ → ℕ) (n a : ℕ) → fold (λ x y. x + y) a (map ones (listed f n)) ≡ a + total (λ h. ones (f h)) n
unfolding listed total
ones-summed f zero a = sym (add-zero a)
ones-summed f (suc n) a =
    ones-summed (λ k. f (suc k)) n (a + ones (f 0)) ∙ omega (arith, total-front (λ h. ones (f h)) n)

module _ (cs : List ℕ) where
  pub counted : count_of (row_sets cs) ≡ admitted_count cs
  unfolding row_sets row_set admitted_count
  counted =
      ones-summed (λ h. row_set cs (suc h)) CODES 0 ∙ zero-add _
      ∙ total-same _ _ CODES (λ h _. ones-packed (λ k. admits cs (suc h) (suc k)) CODES)

  answer-refused : (r : ℕ) → (r ≡ 0 → ⊥) → ◌≡◌ {A = AdmittedSet} (record { refusal = r; rows = replicate CODES 0; count = 0 }) (answer r cs)
  answer-refused zero n = absurd (n refl)
  answer-refused (suc r) n = refl

  pub refused-answer : (r : ℕ) → (r ≡ 0 → ⊥) → r ≡ refusal_of cs → ◌≡◌ {A = AdmittedSet} (record { refusal = r; rows = replicate CODES 0; count = 0 }) (admitted_of cs)
  unfolding admitted_of
  refused-answer r n e = answer-refused r n ∙ ap (λ (x : ℕ). answer x cs) e

  answer-refusal : (r : ℕ) → (answer r cs).refusal ≡ r
  answer-refusal zero = refl
  answer-refusal (suc r) = refl

  told-refusal : (admitted_of cs).refusal ≡ refusal_of cs
  unfolding admitted_of
  told-refusal = answer-refusal (refusal_of cs)

  -- what the call returns, where the clauses are refused, and where they are a query
  pub refused-set : (e : Refusal) → number_of e ≡ refusal_of cs → admitted_set_of (Err e) ≡ admitted_of cs
  refused-set e q = refused-answer (number_of e) (number-some e) q

  pub accepted-set : (set : RowSets) → set.rows ≡ row_sets cs → 0 ≡ refusal_of cs → admitted_set_of (Ok set) ≡ admitted_of cs
  unfolding admitted_of
  accepted-set set e q =
      ap₂ {C = AdmittedSet} (λ (x : List ℕ) (y : ℕ). record { refusal = 0; rows = x; count = y }) e (ap count_of e ∙ counted)
      ∙ ap (λ (x : ℕ). answer x cs) q

  -- and the other way round
  pub err-number : (e : Refusal) → admitted_set_of (Err e) ≡ admitted_of cs → number_of e ≡ refusal_of cs
  err-number e q = ap (λ (s : AdmittedSet). s.refusal) q ∙ told-refusal

  pub ok-zero : (set : RowSets) → admitted_set_of (Ok set) ≡ admitted_of cs → refusal_of cs ≡ 0
  ok-zero set q = sym (ap (λ (s : AdmittedSet). s.refusal) q ∙ told-refusal)

  -- the rows of an accepted query
  pub accepted-rows : refusal_of cs ≡ 0 → (admitted_of cs).rows ≡ row_sets cs
  unfolding admitted_of
  accepted-rows e = ap (λ (x : ℕ). (answer x cs).rows) e

  pub ok-rows : (set : RowSets) → admitted_set_of (Ok set) ≡ admitted_of cs → set.rows ≡ row_sets cs
  ok-rows set q = ap (λ (s : AdmittedSet). s.rows) q ∙ accepted-rows (ok-zero set q)
