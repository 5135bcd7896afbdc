-- The refusal, or the area of the outline that is read.
use mathlib.Core.Path.{◌∙◌}
use native.Mathlib.Omega.{arith}
use Rattle.std.proofs.lemmas.Int.{ints}
use Rattle.std.proofs.lemmas.Result.{err_from_is_err_and}
use Rattle.outline.proofs.Answers.{area-err, area-ok}
use Rattle.outline.proofs.outline_area.Goals as goal

pub returns-in_err-outline : goal.returns-in_err-outline
returns-in_err-outline c =
    let p = err_from_is_err_and c.from_residual.result c.from_residual.ensures.1 in
    rw (p.1, p.2) (area-err _ _ c.in_err-outline.ensures)

pub returns : goal.returns
returns c = area-ok _ _ _ c.in_ok-outline.ensures (omega (arith, ints) ∙ c.twice_area.ensures)
