-- The first words are the table.
use Rattle.std.proofs.Common.{sym}
use Rattle.soundness.proofs.Answers.{answer_short, answer_unsound, answer_words}
use Rattle.soundness.proofs.check.Goals as goal

pub returns-in_default : goal.returns-in_default
returns-in_default c = sym (answer_short _ c.in_default.ensures.cases)

pub returns-then-not-is_sound : goal.returns-then-not-is_sound
returns-then-not-is_sound c = sym (answer_unsound _ c.in-Some.ensures.cases (sym c.if-not-is_sound.ensures))

pub returns : goal.returns
returns c = sym (answer_words _ c.in-Some.ensures.cases (sym c.if-not-is_sound.ensures))
