-- Each test decides the chain of tests.
use Rattle.std.proofs.Common.{ap, ◌∙◌}
use Rattle.std.proofs.lemmas.Result.{err_from_is_err_and}
use Rattle.refusals.specs.Numbers.{number_of}
use Rattle.refusals.proofs.Numbers.{number-some}
use Rattle.relations.proofs.Answer.{err-number, ok-zero, ok-rows}
use Rattle.query.proofs.Calls.{refused-rectangle, refused-clauses, refused-size, accepted-all}
use Rattle.query.proofs.search_of.Goals as goal

pub returns-in_err-reference-clause-refusal : goal.returns-in_err-reference-clause-refusal
returns-in_err-reference-clause-refusal c =
    let p = err_from_is_err_and c.from_residual.result c.from_residual.ensures.1 in
    let e = c.in_err-reference.ensures in
    rw (p.1, p.2) (ap number_of e.1 ∙ refused-rectangle _ _ _ _ e.0)

pub returns-in_err-set-clause-refusal : goal.returns-in_err-set-clause-refusal
returns-in_err-set-clause-refusal c =
    let p = err_from_is_err_and c.from_residual-in_err-set.result c.from_residual-in_err-set.ensures.1 in
    rw (p.1, p.2)
    (refused-clauses _ _ _ _ c.in_ok-reference.ensures.0 _ (err-number _ _ c.in_err-set.ensures) (number-some _))

pub returns-then-size-needed-clause-refusal : goal.returns-then-size-needed-clause-refusal
returns-then-size-needed-clause-refusal c =
    refused-size _ _ _ _ c.in_ok-reference.ensures.0 (ok-zero _ _ c.in_ok-set.ensures) c.if-size-needed.true

pub returns-clause-refusal : goal.returns-clause-refusal
returns-clause-refusal c =
    accepted-all _ _ _ _ c.in_ok-reference.ensures.0 (ok-zero _ _ c.in_ok-set.ensures) c.if-size-needed.false

pub returns-clause-search : goal.returns-clause-search
returns-clause-search c =
    let s = c.new.ensures in record {
      table = s.table;
      reference = ap (λ r. r.rect) s.reference ∙ c.in_ok-reference.ensures.1;
      rows = ap (λ r. r.rows) s.set ∙ ok-rows _ _ c.in_ok-set.ensures;
    }
