-- After so many clauses the rows are the row sets of those.
use mathlib.Core.List.{List}
use mathlib.Core.Path.{ap, ◌∙◌}
use Prim.Native.Nat.{ℕ}
use lib.ListN.{get_or}
use Rattle.std.proofs.lemmas.Result.{err_from_is_err_and}
use Rattle.relations.specs.Steps.{cut_to}
use Rattle.relations.proofs.Answer.{refused-set, accepted-set}
use Rattle.relations.proofs.Rows.{query-none, query-more, query-whole}
use Rattle.relations.proofs.admitted.Goals as goal

pub returns-in_err-refused : goal.returns-in_err-refused
returns-in_err-refused c =
    let p = err_from_is_err_and c.from_residual.result c.from_residual.ensures.1 in
    rw (p.1, p.2) (refused-set c.args.clauses.now _ c.in_err-refused.ensures)

pub loop-clause-init : goal.loop-clause-init
loop-clause-init c = query-none

pub loop-clause-preserved : goal.loop-clause-preserved
loop-clause-preserved c =
    let clauses = c.args.clauses.now in
    let at = c.loop-clause.clause-index in
    c.cut_to.ensures ∙ ap (λ (rows : List ℕ). cut_to rows (get_or clauses at 0)) c.loop-clause.invariant
    ∙ query-more clauses at c.loop-clause-test.true

pub returns : goal.returns
returns c =
    accepted-set c.args.clauses.now _ (c.loop-clause.invariant ∙ query-whole c.args.clauses.now _ c.loop-clause-test.false)
    c.in_ok-refused.ensures
