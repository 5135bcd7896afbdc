-- By the level: a leaf takes the entry, a page above it goes to a child and settles what comes back.
use mathlib.Core.Path.{ap, ◌∙◌}
use Rattle.pages.specs.Layout.{page_words}
use Rattle.placing.proofs.Stepping.{place_out, place-leaf, place-kept, place-parted}
use Rattle.placing.proofs.+place_at.Goals as goal

pub returns-in_err-p : goal.returns-in_err-p
returns-in_err-p t c = rw c.from_residual.ensures (place_out _ _ _ _ c.in_err-p.ensures)

pub returns-then-level-eq0 : goal.returns-then-level-eq0
returns-then-level-eq0 t c = rw (← c.in_ok-p.ensures) (place-leaf _ _ _ _ _ c.in_ok-p.p.below c.if-level-eq0.true c.add_entry.ensures)

pub returns-in-None : goal.returns-in-None
returns-in-None t c =
    let a = c.args in
    rw (← c.in_ok-p.ensures)
    (place-kept a.level a.table.now _ _ _ a.e _ c.in_ok-p.p.below c.if-level-eq0.false
    (c.page_of-page.ensures ∙ ap (page_words a.table.now) c.index.ensures.same) c.choose-slot.ensures c.entry_of-q.ensures _ _ _ c.place_at.ensures c.in-None.is c.widen_entry.ensures)

pub returns-in-Some : goal.returns-in-Some
returns-in-Some t c =
    let a = c.args in
    rw (← c.in_ok-p.ensures)
    (place-parted a.level a.table.now _ _ _ a.e _ c.in_ok-p.p.below c.if-level-eq0.false
    (c.page_of-page.ensures ∙ ap (page_words a.table.now) c.index.ensures.same) c.choose-slot.ensures c.entry_of-q.ensures _ _ _ _ c.place_at.ensures c.in-Some.is c.add_part.ensures)
