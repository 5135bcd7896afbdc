-- The test of a bit is the definition.
use mathlib.Core.Path.{refl}
use Rattle.relations.specs.Sets.{bit}
use Rattle.relations.specs.Steps.{rows_have}
use Rattle.relations.proofs.RowSets.has.Goals as goal

pub returns : goal.returns
unfolding rows_have bit
returns c = rw (c.index.ensures, c.index-2.ensures) refl
