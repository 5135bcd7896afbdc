-- Each edge of the walk by what it says of the point.
use mathlib.Core.Path.{sym, ap, ◌∙◌}
use mathlib.Core.Bool.{Bool, cond}
use Rattle.outline.specs.declared.Place.{Place}
use Rattle.outline.proofs.Walking.{on-stop, on-more, parity-more, place-walked, place-end}
use Rattle.outline.proofs.words.Outline.place_of.Goals as goal

pub returns-in-None-met_by : goal.returns-in-None-met_by
returns-in-None-met_by c =
    let p = c.args.p.now in
    place-walked _ p (sym c.loop-edge.invariant.on ∙ on-stop p _ _ _ c.in-Some.ensures.steps c.in-None-met_by.ensures)

pub loop-edge-preserved : goal.loop-edge-preserved
loop-edge-preserved c =
    let p = c.args.p.now in
    let step = c.in-Some.ensures.steps in
    let counts = c.in-Some-met_by.counts in
    record {
      on = on-more p _ _ _ step counts c.in-Some-met_by.ensures ∙ c.loop-edge.invariant.on;
      parity = parity-more p _ _ _ step counts c.loop-edge.inside c.in-Some-met_by.ensures ∙ c.loop-edge.invariant.parity;
    }

pub returns-then-inside : goal.returns-then-inside
returns-then-inside c =
    let at = c.loop-edge.invariant in
    sym (ap (λ (b : Bool). cond b Place.Inside Place.Outside) c.if-inside.true) ∙ place-end _ _ c.loop-edge.inside _ c.in-None.ensures.steps.0 at.on at.parity

pub returns-else-inside : goal.returns-else-inside
returns-else-inside c =
    let at = c.loop-edge.invariant in
    sym (ap (λ (b : Bool). cond b Place.Inside Place.Outside) c.if-inside.false) ∙ place-end _ _ c.loop-edge.inside _ c.in-None.ensures.steps.0 at.on at.parity
