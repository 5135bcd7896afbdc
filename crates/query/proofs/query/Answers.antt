-- The table is refused, or it is sound.
use mathlib.Core.Path.{sym, ap, ◌∙◌}
use Rattle.std.proofs.lemmas.Result.{err_from_is_err_and}
use Rattle.query.specs.Calls.{query_call}
use Rattle.query.proofs.Whole.{query-unchecked, query-whole}
use Rattle.query.proofs.query.Goals as goal

pub returns-in_err-table : goal.returns-in_err-table
returns-in_err-table c =
    let p = err_from_is_err_and c.from_residual.result c.from_residual.ensures.1 in
    rw (p.1, p.2) (query-unchecked _ _ c.in_err-table.ensures.refusal _ _ _)

pub returns : goal.returns
returns c =
    let a = c.args in
    let t = c.in_ok-table.table in
    c.query_sound.ensures ∙ sym (query-whole _ t.long t.holds _ _ _) ∙ ap (λ w. query_call w a.reference a.clauses.now a.answer.now) c.in_ok-table.ensures.words
