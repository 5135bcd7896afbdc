-- What is read, and what is still to be read.
use Rattle.std.proofs.Common.{arith, ℕ, suc, zero, ◌+◌, ◌<◌, ◌≡◌, List, [], ◌∷◌, ◌++◌, length, take, map, append_assoc, append-nil, sym, ◌∙◌}
use Rattle.job.specs.Steps.{clause_in}
use Rattle.job.proofs.words.first_clauses.Goals as goal

one_more : (read all : List ℕ) (rest rest' : List (List (List ℕ))) (w : List (List ℕ)) (n n' : ℕ) → read ++ map clause_in (take n rest) ≡ all → rest ≡ w ∷ rest' → n' + 1 ≡ n
    → (read ++ clause_in w ∷ []) ++ map clause_in (take n' rest') ≡ all
one_more read all rest rest' w n n' so_far e l =
    let same : n ≡ suc n' = omega arith in
    append_assoc read (clause_in w ∷ []) (map clause_in (take n' rest')) ∙ (rw (e, same) at so_far)

none-left : (read all : List ℕ) (rest : List (List (List ℕ))) (n : ℕ) → read ++ map clause_in (take n rest) ≡ all → (0 < n → length rest ≡ 0) → read ≡ all
none-left read all rest zero so_far e = sym (append-nil read) ∙ so_far
none-left read all [] (suc n) so_far e = sym (append-nil read) ∙ so_far
none-left read all (w ∷ rest) (suc n) so_far e = absurd (omega (arith, e (omega arith)))

pub loop-words-preserved : goal.loop-words-preserved
loop-words-preserved c =
    let step = c.in-Some.ensures.steps in (
      tt,
      tt,
      rw (c.push.ensures.items, c.clause_in.ensures) (one_more _ _ _ _ _ _ _ c.loop-words.invariant.2 step.0 step.1),
      omega (arith, c.push.ensures.len, c.loop-words.invariant.3, step.1),
    )

pub returns : goal.returns
returns c = none-left _ _ _ _ c.loop-words.invariant.2 (λ h. (c.in-None.ensures.steps h).0)
