use native.Mathlib.Omega.{arith}
use mathlib.Core.Path.{◌≡◌, sym, ap, ◌∙◌}
use mathlib.Core.List.{[], map}
use lib.ListN.{length, get_or, take}
use lib.Seq.{take-length, length-take-le}
use Rattle.std.proofs.lemmas.List.{length-map, map_more}
use Rattle.pages.specs.declared.piece.Piece.{Piece}
use Rattle.placing.specs.Calls.{place_sound}
use Rattle.history.specs.Replay.{call_in, calls_of}
use Rattle.history.proofs.Reached.{reached-emptied}
use Rattle.history.proofs.Marking.{marked-none}
use Rattle.history.proofs.Replaying.{calls-grouped, emptied, progress-none, progress-reached, progress-more, replay-done}
use Rattle.history.proofs.replay.Goals as goal

pub returns-in_err-empty : goal.returns-in_err-empty
returns-in_err-empty c = absurd (emptied _ _ _ (omega arith) c.in_err-empty.ensures)

pub loop-i-init : goal.loop-i-init
loop-i-init c =
    let start = reached-emptied _ _ _ (omega arith) c.empty.ensures in
    record { so_far = progress-none _ _ start; marked = marked-none _ start }

pub place_marked-requires-clause-sound : goal.place_marked-requires-clause-sound
place_marked-requires-clause-sound c = (progress-reached c.loop-i.invariant.so_far).sound

pub loop-i-preserved : goal.loop-i-preserved
unfolding call_in
loop-i-preserved c =
    let at = c.loop-i in
    let groups = c.as_chunks.result.0.now in
    let count = length-map (take at.i groups) call_in ∙ length-take-le at.i groups (omega arith) in
    let answer = ap (λ k. (k, c.place_marked.new.table)) c.refusal_of.ensures ∙ c.place_marked.ensures.answer ∙ ap (λ (p : Piece). place_sound at.table p.number p.rect) c.from.ensures in
    record {
      so_far = rw (map_more call_in groups at.i [] c.loop-i-test.true)
          (progress-more at.invariant.so_far (call_in (get_or groups at.i [])) c.place_marked.new.table c.refusal_of.result at.i count (omega arith) answer);
      marked = c.place_marked.ensures.marked;
    }

pub returns : goal.returns
returns c =
    let at = c.loop-i in
    let words = c.args.calls.now in
    let groups = c.as_chunks.result.0.now in
    let all : at.i ≡ length groups = omega arith in
    let done : map call_in (take at.i groups) ≡ calls_of words = rw (all, take-length groups, c.as_chunks.ensures.front) (sym (calls-grouped words)) in
    replay-done c.args.table.now words c.args.refusals.now _ _ _ _ (omega arith) (omega arith) c.empty.ensures (rw done at at.invariant.so_far)
