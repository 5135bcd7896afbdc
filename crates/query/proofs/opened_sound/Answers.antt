-- Refused, or the walk writes the opened pages.
use native.Mathlib.Omega.{arith}
use mathlib.Core.Path.{ap, ◌∙◌}
use Rattle.std.proofs.lemmas.Result.{err_from_is_err_and}
use Rattle.refusals.proofs.Numbers.{number-some}
use Rattle.query.specs.declared.walks.Lister.{Lister}
use Rattle.query.specs.Calls.{sound_refusal}
use Rattle.query.proofs.Calls.{opened-refused, opened-accepted, opened-is, few-opened, opened-fits, opened-writes}
use Rattle.query.proofs.Walking.{numbers-written}
use Rattle.query.proofs.opened_sound.Goals as goal

pub returns-in_err-search : goal.returns-in_err-search
returns-in_err-search c =
    let a = c.args in
    let p = err_from_is_err_and c.from_residual.result c.from_residual.ensures.1 in
    let e = c.in_err-search.ensures.refusal ∙ ap (sound_refusal a.reference a.clauses.now _) c.page_count.ensures in
    rw (p.1, p.2) (opened-refused a.table.words.now _ _ _ _ (number-some _) e)

pub run-count-requires : goal.run-count-requires
run-count-requires c =
    let a = c.args in
    let s = c.in_ok-search.ensures in
    opened-fits s.search a.answer.now (s.refusal ∙ ap (sound_refusal a.reference a.clauses.now _) c.page_count.ensures)

pub overflow_cast-result : goal.overflow_cast-result
overflow_cast-result c = omega (arith, c.run-count.ensures.count, few-opened c.in_ok-search.ensures.search)

pub returns : goal.returns
returns c =
    let a = c.args in
    let s = c.in_ok-search.ensures in
    let e = s.refusal ∙ ap (sound_refusal a.reference a.clauses.now _) c.page_count.ensures in
    let k = numbers-written (λ (x : Lister). x.words.now) (λ x. x.words.ghost_name) _ _ _ 0 c.run-count.ensures.visited in
    opened-accepted a.table.words.now _ _ _ _ _ _ e (opened-is s.search) c.run-count.ensures.count (opened-writes s.search _ e) (grind arith)
