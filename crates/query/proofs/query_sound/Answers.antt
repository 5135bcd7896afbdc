-- Refused, or the marks of the walk are the listing.
use native.Mathlib.Omega.{arith}
use mathlib.Core.Path.{ap, ◌∙◌}
use lib.ListN.{length}
use Rattle.std.proofs.lemmas.Result.{err_from_is_err_and}
use Rattle.pages.proofs.Whole.{sound-in}
use Rattle.refusals.proofs.Numbers.{number-some}
use Rattle.query.specs.Calls.{sound_refusal}
use Rattle.query.proofs.Calls.{query-refused, query-accepted, opened-is, few-opened, lists}
use Rattle.query.proofs.query_sound.Goals as goal

pub returns-in_err-search : goal.returns-in_err-search
returns-in_err-search c =
    let a = c.args in
    let p = err_from_is_err_and c.from_residual.result c.from_residual.ensures.1 in
    let e = c.in_err-search.ensures.refusal ∙ ap (sound_refusal a.reference a.clauses.now _) c.piece_count.ensures in
    rw (p.1, p.2) (query-refused a.table.words.now _ _ _ _ (number-some _) e)

pub run-opened-requires : goal.run-opened-requires
run-opened-requires c = (sound-in _ c.in_ok-search.search.table.holds).most

pub list-hits-requires : goal.list-hits-requires
list-hits-requires c =
    let a = c.args in
    let s = c.in_ok-search.ensures in
    let e = s.refusal ∙ ap (sound_refusal a.reference a.clauses.now _) c.piece_count.ensures in
    (lists s.search a.answer.now _ _ e c.new-marks.ensures c.run-opened.ensures.visited).room

pub overflow_cast-result : goal.overflow_cast-result
overflow_cast-result c =
    let a = c.args in
    let s = c.in_ok-search.ensures in
    let e = s.refusal ∙ ap (sound_refusal a.reference a.clauses.now _) c.piece_count.ensures in
    let k = lists s.search a.answer.now _ _ e c.new-marks.ensures c.run-opened.ensures.visited in
    omega (arith, k.small, c.list-hits.ensures.count)

pub overflow_cast-result-2 : goal.overflow_cast-result-2
overflow_cast-result-2 c = omega (arith, c.run-opened.ensures.count, few-opened c.in_ok-search.ensures.search)

pub returns : goal.returns
returns c =
    let a = c.args in
    let s = c.in_ok-search.ensures in
    let e = s.refusal ∙ ap (sound_refusal a.reference a.clauses.now _) c.piece_count.ensures in
    let k = lists s.search a.answer.now _ _ e c.new-marks.ensures c.run-opened.ensures.visited in
    let m = c.list-hits.ensures in
    let o = c.run-opened.ensures.count ∙ ap length (opened-is s.search) in
    query-accepted a.table.words.now _ _ _ _ _ _ _ e k.is m.count o k.room m.words
