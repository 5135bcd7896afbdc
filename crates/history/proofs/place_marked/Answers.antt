-- A refused call leaves the table as it was, and an accepted one places a number that had no mark.
use mathlib.Core.Path.{sym, ap, subst⁻¹, ◌∙◌}
use Rattle.std.proofs.Common.{rules}
use Rattle.refusals.proofs.Numbers.{number-some}
use Rattle.refusals.specs.Numbers.{refusal_of}
use Rattle.placing.proofs.Called.{call-accepted, answer-accepted, answer-refused}
use Rattle.history.specs.Replay.{Marked}
use Rattle.history.proofs.Marking.{marked-placed}
use Rattle.history.proofs.place_marked.Goals as goal

pub returns-in_err-place_where-clause-marked : goal.returns-in_err-place_where-clause-marked
returns-in_err-place_where-clause-marked c =
    subst⁻¹ (λ w. Marked w c.args.marks.now) (answer-refused _ _ _ _ _ c.place_where.ensures (λ z. number-some _ (sym (ap refusal_of c.in_err-place_where.was) ∙ z))) c.requires.marked

pub bounds-marks-piece : goal.bounds-marks-piece
bounds-marks-piece c =
    let a = answer-accepted _ _ _ _ _ c.place_where.ensures (ap refusal_of c.in_ok-place_where.was) in
    (call-accepted _ _ _ a.0).1

pub returns-clause-marked : goal.returns-clause-marked
returns-clause-marked c =
    let a = answer-accepted _ _ _ _ _ c.place_where.ensures (ap refusal_of c.in_ok-place_where.was) in
    let p = call-accepted _ _ _ a.0 in
    marked-placed _ _ _ c.requires.sound p.0 p.1 p.2 _ c.args.marks.now a.1 (search rules) c.requires.marked
