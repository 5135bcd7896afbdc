-- Both corners are tested by the highest bits of paired words.
use Prim.Native.Nat.{◌+◌, ◌-◌}
use mathlib.Core.Path.{ap, ap₂, ◌∙◌}
use mathlib.Core.Bool.{◌||◌}
use Rattle.query.specs.Window.{over, beyond}
use Rattle.query.proofs.Halves.{beyond-paired}
use Rattle.query.proofs.window.Window.is_beyond.Goals as goal

pub returns : goal.returns
returns c =
    let w = c.self.inside in
    let r = c.self.invariant in
    ap₂ ◌||◌
    (c.is_over.ensures ∙ ap over (ap (λ x. x + w.starts) c.paired.ensures))
    (c.is_over-2.ensures ∙ ap over (ap (λ x. w.ends - x) c.paired-2.ensures))
    ∙ beyond-paired c.args.rect c.requires _ _ r.x-start r.y-start r.x-end r.y-end
    ∙ ap (λ w. beyond w c.args.rect) c.self.view_is
