-- Each refusal by its condition; what none of them says is what `place_new` asks for.
use mathlib.Core.Path.{refl}
use Rattle.std.proofs.lemmas.Result.{err_from_is_err_and}
use Rattle.placing.proofs.Searching.{some-held, none-held}
use Rattle.placing.proofs.Called.{call-not-piece, call-stands, call-done}
use Rattle.placing.proofs.place_where.Goals as goal

pub returns-in_err-piece : goal.returns-in_err-piece
returns-in_err-piece g c =
    let p = err_from_is_err_and c.from_residual.result c.from_residual.ensures.1 in
    rw (p.1, p.2) (call-not-piece _ _ _ c.in_err-piece.ensures)

pub returns-then-is_standing : goal.returns-then-is_standing
returns-then-is_standing g c =
    let v = c.in_ok-piece.ensures in
    call-stands _ _ _ v.0 v.1 (some-held _ _ ((c.requires.knows v.1 _ refl).1 _ c.is_standing.ensures) c.if-is_standing.true)

pub place_new-requires : goal.place_new-requires
place_new-requires g c =
    let v = c.in_ok-piece.ensures in
    rw v.2 (c.requires.sound.0, c.requires.sound.1, none-held _ _ ((c.requires.knows v.1 _ refl).1 _ c.is_standing.ensures) c.if-is_standing.false)

pub returns : goal.returns
returns g c =
    let v = c.in_ok-piece.ensures in
    rw (c.place_new.ensures, v.2, v.3) (call-done _ _ _ v.0 v.1 (none-held _ _ ((c.requires.knows v.1 _ refl).1 _ c.is_standing.ensures) c.if-is_standing.false))
