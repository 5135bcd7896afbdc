-- The table is refused, or it is sound.
use mathlib.Core.Path.{sym, ap, ◌∙◌}
use Rattle.std.proofs.lemmas.Result.{err_from_is_err_and}
use Rattle.nearest.specs.Calls.{nearest_call}
use Rattle.nearest.proofs.Calls.{call-whole, call-unchecked}
use Rattle.nearest.proofs.nearest_piece.Goals as goal

pub returns-in_err-table : goal.returns-in_err-table
returns-in_err-table c =
    let p = err_from_is_err_and c.from_residual.result c.from_residual.ensures.1 in
    rw (p.1, p.2) (call-unchecked _ _ _ _ _ c.in_err-table.ensures.refusal)

pub returns : goal.returns
returns c =
    let a = c.args in
    let t = c.in_ok-table.table in
    c.nearest_sound.ensures ∙ sym (call-whole _ _ _ _ t.long t.holds) ∙ ap (λ w. nearest_call w a.x a.y a.allowance) c.in_ok-table.ensures.words
