-- Each entry marks its number exactly when it does not lie beyond the window, and that is when its rectangle is admitted.
use mathlib.Core.Path.{refl, sym, ap, ◌∙◌}
use mathlib.Core.Bool.{true, false}
use Rattle.pages.specs.Left.{left}
use Rattle.query.proofs.Leaf.{marking-all, marking-first, marking-step, marking-none}
use Rattle.query.proofs.WindowLemmas.{whole-decides, beyond-fails}
use Rattle.query.proofs.searches.Search.mark_near.Goals as goal

pub loop-e-init : goal.loop-e-init
loop-e-init c = marking-all _ _ _ _ _ c.requires.page (ap left c.into_iter-e-iterator.ensures.into_iter_gives ∙ c.entries-e-items.ensures)

pub loop-e-preserved-then-not-is_beyond : goal.loop-e-preserved-then-not-is_beyond
loop-e-preserved-then-not-is_beyond c =
    let i = c.loop-e.invariant in
    let s = c.in-Some.ensures.steps in
    let first = marking-first _ _ _ _ _ _ i _ _ s in
    marking-step _ _ _ _ _ _ i _ _ s _ true (whole-decides _ _ _ c.args.self.now.leaves _ first.0 false (sym c.if-not-is_beyond.true ∙ c.is_beyond.ensures) c.requires.whole) c.mark.ensures

pub loop-e-preserved : goal.loop-e-preserved
loop-e-preserved c =
    let i = c.loop-e.invariant in
    let s = c.in-Some.ensures.steps in
    let first = marking-first _ _ _ _ _ _ i _ _ s in
    marking-step _ _ _ _ _ _ i _ _ s _ false (beyond-fails _ _ _ c.args.self.now.leaves _ first.0 _ c.is_beyond.ensures c.if-not-is_beyond.false) refl

pub returns : goal.returns
returns c = marking-none _ _ _ _ _ _ c.loop-e.invariant c.in-None.ensures.steps.0
