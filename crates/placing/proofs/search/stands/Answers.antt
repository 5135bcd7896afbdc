-- The closure looks into one page.
use Rattle.std.proofs.Common.{◌≡◌, true, false, ltb, get_or, refl, arith, rules, tests}
use Rattle.std.proofs.lemmas.Iterator.{YieldsList-from_range, cases_from_any}
use Rattle.pages.specs.Layout.{page_words}
use Rattle.placing.specs.Steps.{held_in}
use Rattle.placing.proofs.Searching.{held-any}
use Rattle.placing.proofs.search.stands.Goals as goal

pub returns : goal.returns
returns c =
    let t = c.args.table.now in
    let n = c.args.number in
    held-any t n (get_or t 0 0) _
    (cases_from_any _ _ _ (λ p. ltb 0 (held_in (page_words t p) n) ≡ true) (λ p. ltb 0 (held_in (page_words t p) n) ≡ false) c.any.ensures.ran
    (YieldsList-from_range 0 (get_or t 0 0) (get_or t 0 0) refl (omega arith))
    (λ p q k. search (rules, tests)) (λ p q k. search (rules, tests)))
