use mathlib.Core.Path.{ap, ◌∙◌}
use native.Mathlib.Omega.{arith}
use Rattle.outline.specs.Steps.{closing_first}
use Rattle.outline.proofs.Indexed.{fine, in-range}
use Rattle.outline.proofs.Walking.{edges-most, begin-is}
use Rattle.outline.proofs.words.Outline.edges.Goals as goal

pub unreachable-requires : goal.unreachable-requires
unreachable-requires c = omega (arith, c.in_default.len_below, (fine _ c.self.invariant).fewest)

pub point_within-requires : goal.point_within-requires
point_within-requires c = let range = c.self.invariant.1 in (in-range _ _ range, in-range _ _ range)

pub returns-clause-edges : goal.returns-clause-edges
returns-clause-edges c = rw c.point_within.ensures (begin-is _ (fine _ c.self.invariant) ∙ ap closing_first c.self.view_is)

pub returns-clause-most : goal.returns-clause-most
returns-clause-most c = edges-most _ _ (fine _ c.self.invariant)
