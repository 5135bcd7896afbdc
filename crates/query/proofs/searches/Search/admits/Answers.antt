-- The codes and a look at their row.
use mathlib.Core.Path.{ap₂, ◌∙◌}
use Rattle.relations.specs.Steps.{rows_have}
use Rattle.query.specs.Steps.{admits_by}
use Rattle.query.proofs.searches.Search.admits.Goals as goal

pub returns : goal.returns
unfolding admits_by
returns c = c.has.ensures ∙ ap₂ (rows_have _) c.codes.ensures.y c.codes.ensures.x
