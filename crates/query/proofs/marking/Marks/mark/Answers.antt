-- One bit of one word, and that word's bit.
use mathlib.Core.Path.{ap, ◌∙◌}
use Rattle.query.specs.Marks.{with_mark}
use Rattle.query.proofs.Marks.{mark-made, mark-summed}
use Rattle.query.proofs.marking.Marks.mark.Goals as goal

pub invariant_of-self : goal.invariant_of-self
invariant_of-self c = mark-summed _ _ c.args.r c.requires c.self.invariant

pub returns : goal.returns
returns c = mark-made _ c.args.r ∙ ap (λ m. with_mark m c.args.r) c.self.view_is
