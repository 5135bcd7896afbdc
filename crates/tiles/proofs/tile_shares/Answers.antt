-- Either rectangle not valid is refused.
use mathlib.Core.Path.{◌≡◌, ap₂, ◌∙◌}
use mathlib.Core.Bool.{true, false}
use Rattle.std.proofs.Common.{rules}
use Rattle.std.proofs.lemmas.Result.{err_from_is_err_and}
use Rattle.pages.specs.declared.Rect.{Rect}
use Rattle.pages.specs.Rectangles.{valid}
use Rattle.tiles.specs.Sides.{rect_with}
use Rattle.tiles.specs.Steps.{shares_in_tiles}
use Rattle.tiles.proofs.Called.{shared, refused-piece, refused-reference}
use Rattle.tiles.proofs.tile_shares.Goals as goal

pub returns-in_err-try_from : goal.returns-in_err-try_from
returns-in_err-try_from c =
    let p = err_from_is_err_and c.from_residual.result c.from_residual.ensures.1 in
    let e = c.in_err-try_from.ensures in
    rw (p.1, p.2, e.1) (refused-piece _ _ e.0)

pub returns-in_err-try_from-2 : goal.returns-in_err-try_from-2
returns-in_err-try_from-2 c =
    let p = err_from_is_err_and c.from_residual-in_err-try_from-2.result c.from_residual-in_err-try_from-2.ensures.1 in
    let e = c.in_err-try_from-2.ensures in
    let refused : valid c.args.reference ≡ false = search rules in
    rw (p.1, p.2, e.1) (refused-reference _ _ refused)

pub returns : goal.returns
returns c =
    let p = c.in_ok-try_from.ensures in
    let q : valid c.args.reference ≡ true = search rules in
    let lines : rect_with c.from-lines.result ≡ c.args.reference = search rules in
    let same = ap₂ (λ (a b : Rect). shares_in_tiles a b) (c.from-sides.ensures ∙ p.1) lines in
    shared _ _ _ (c.shares_by.ensures ∙ same) p.0 q
