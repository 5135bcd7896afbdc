-- The refusal of the words or of the point, or the place.
use Rattle.std.proofs.lemmas.Result.{err_from_is_err_and}
use Rattle.outline.proofs.Answers.{point-err, point-beyond, point-ok}
use Rattle.outline.proofs.outline_point.Goals as goal

pub returns-in_err-outline : goal.returns-in_err-outline
returns-in_err-outline c =
    let p = err_from_is_err_and c.from_residual.result c.from_residual.ensures.1 in
    rw (p.1, p.2) (point-err _ _ _ _ c.in_err-outline.ensures)

pub returns-in_err-point : goal.returns-in_err-point
returns-in_err-point c =
    let p = err_from_is_err_and c.from_residual-in_err-point.result c.from_residual-in_err-point.ensures.1 in
    rw (p.1, p.2) (point-beyond _ _ _ _ _ c.in_ok-outline.ensures c.in_err-point.ensures)

pub returns : goal.returns
returns c = point-ok _ _ _ _ _ _ c.in_ok-outline.ensures c.in_ok-point.ensures c.place_of.ensures
