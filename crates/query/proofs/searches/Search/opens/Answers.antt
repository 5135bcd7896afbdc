-- The window decides, or the codes do.
use mathlib.Core.Path.{sym, ap₂, ◌∙◌}
use Rattle.relations.specs.Steps.{page_test}
use Rattle.query.specs.Steps.{opens_by}
use Rattle.query.proofs.WindowLemmas.{beyond-fails, whole-decides}
use Rattle.query.proofs.searches.Search.opens.Goals as goal

pub returns-then-is_beyond : goal.returns-then-is_beyond
returns-then-is_beyond c = beyond-fails _ _ _ c.args.self.now.pages _ c.requires _ c.is_beyond.ensures c.if-is_beyond.true

pub returns-then-self : goal.returns-then-self
returns-then-self c = whole-decides _ _ _ c.args.self.now.pages _ c.requires _ (sym c.if-is_beyond.false ∙ c.is_beyond.ensures) c.if-self.true

pub returns : goal.returns
unfolding opens_by
returns c = c.may_hold.ensures ∙ ap₂ (page_test _) c.codes.ensures.y c.codes.ensures.x
