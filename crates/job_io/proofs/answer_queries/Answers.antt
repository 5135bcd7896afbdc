-- Each turn puts one line more in the buffer, behind what was kept.
use Rattle.std.proofs.Common.{◌∙◌, refl, ap}
use Rattle.job.specs.declared.queries.Queries.{Queries}
use Rattle.job_io.proofs.Gathered.{no_line, line_more, prints-none, next-line}
use Rattle.job_io.proofs.answer_queries.Goals as goal

pub loop-query-init : goal.loop-query-init
loop-query-init g c =
    let same = c.into_iter-query-iterator.ensures.into_iter_gives in
    let first = ap (λ (s : Queries). s.positions.start) same ∙ c.queries-query-items.ensures.first in
    let bytes = ap (λ (s : Queries). s.job.bytes.now) same ∙ c.queries-query-items.ensures.same in
    (tt, tt, bytes, refl, c.requires.1 ∙ rw (first, no_line) refl, rw first (prints-none g.W.Write.contents c.args.out.now))

pub loop-query-preserved : goal.loop-query-preserved
loop-query-preserved g c =
    let turn = c.loop-query in
    let room = c.in_ok-make_room.ensures in
    let step = c.in-Some.ensures.steps in
    let line = c.answer.ensures.line.bytes ∙ rw (step.0, turn.invariant.2, step.1) refl in (
      tt,
      tt,
      step.2 ∙ turn.invariant.2,
      c.answer.auto.answer ∙ turn.invariant.3,
      rw step.3 (line ∙ rw (room.front, turn.invariant.4, line_more) refl),
      rw step.3 (next-line g.W.Write.contents _ _ _ _ _ turn.query-iterator.positions.start turn.invariant.5 room.all line),
    )
