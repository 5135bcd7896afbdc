-- By the answer of the check: refused as it refuses, or a call on a sound table.
use mathlib.Core.Path.{sym, ◌∙◌}
use Rattle.std.proofs.lemmas.Result.{err_from_is_err_and}
use Rattle.soundness.proofs.Answers.{ok-sound}
use Rattle.placing.proofs.Tested.{call-tested, call-refused}
use Rattle.placing.proofs.place.Goals as goal

pub returns-in_err-check : goal.returns-in_err-check
returns-in_err-check c =
    let p = err_from_is_err_and c.from_residual.result c.from_residual.ensures.1 in
    rw (p.1, p.2) (call-refused _ _ _ _ c.in_err-check.ensures)

pub place_sound-requires : goal.place_sound-requires
place_sound-requires c = ok-sound _ _ c.in_ok-check.ensures

pub returns : goal.returns
returns c =
    let s = ok-sound _ _ c.in_ok-check.ensures in
    c.place_sound.ensures ∙ sym (call-tested _ _ _ s.0 s.1)
