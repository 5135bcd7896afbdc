-- Each entry marks its number exactly when its rectangle is admitted; what lies beyond the window is not.
use mathlib.Core.Path.{refl, sym, ap, ◌∙◌}
use mathlib.Core.Bool.{true, false}
use Rattle.pages.specs.Left.{left}
use Rattle.query.proofs.Leaf.{marking-all, marking-first, marking-step, marking-none}
use Rattle.query.proofs.WindowLemmas.{beyond-fails}
use Rattle.query.proofs.searches.Search.mark_leaf.Goals as goal
use Rattle.query.proofs.searches.Search.mark_leaf.Goals.{else-not-is_beyond-via-then-not-is_beyond+else-admits, else-not-is_beyond-via-else-not-is_beyond}

pub loop-e-init : goal.loop-e-init
loop-e-init c = marking-all _ _ _ _ _ c.requires (ap left c.into_iter-e-iterator.ensures.into_iter_gives ∙ c.entries-e-items.ensures)

pub loop-e-preserved-then-admits : goal.loop-e-preserved-then-admits
loop-e-preserved-then-admits c =
    marking-step _ _ _ _ _ _ c.loop-e.invariant _ _ c.in-Some.ensures.steps _ true (sym c.if-admits.true ∙ c.admits.ensures) c.mark.ensures

pub loop-e-preserved : goal.loop-e-preserved
loop-e-preserved c =
    let i = c.loop-e.invariant in
    let s = c.in-Some.ensures.steps in
    let first = marking-first _ _ _ _ _ _ i _ _ s in
    marking-step _ _ _ _ _ _ i _ _ s _ false
    (elim c.else-not-is_beyond.branch [
      | else-not-is_beyond-via-then-not-is_beyond+else-admits w ↦ sym w.if-admits.false ∙ w.admits.ensures
      | else-not-is_beyond-via-else-not-is_beyond w ↦ beyond-fails _ _ _ c.args.self.now.leaves _ first.0 _ c.is_beyond.ensures w.if-not-is_beyond.false
    ])
    refl

pub returns : goal.returns
returns c = marking-none _ _ _ _ _ _ c.loop-e.invariant c.in-None.ensures.steps.0
