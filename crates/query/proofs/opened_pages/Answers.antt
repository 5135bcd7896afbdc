-- The table is refused, or it is sound; the order of the walk is one of the free ones.
use mathlib.Core.Path.{subst}
use Rattle.std.proofs.lemmas.Result.{err_from_is_err_and}
use Rattle.query.specs.Calls.{opened_of, OpenedWords}
use Rattle.query.proofs.Whole.{opened-unchecked, opened-listed}
use Rattle.query.proofs.opened_pages.Goals as goal

pub returns-in_err-table : goal.returns-in_err-table
returns-in_err-table c =
    let p = err_from_is_err_and c.from_residual.result c.from_residual.ensures.1 in
    rw (p.1, p.2) (opened-unchecked _ _ c.in_err-table.ensures.refusal _ _ _)

pub returns : goal.returns
returns c =
    let a = c.args in
    let t = c.in_ok-table.table in
    let opened = opened_of c.opened_sound.result in
    subst (λ w. OpenedWords w a.reference a.clauses.now a.answer.now c.opened_sound.new.answer opened) c.in_ok-table.ensures.words (opened-listed _ t.long t.holds _ _ _ _ _ c.opened_sound.ensures)
