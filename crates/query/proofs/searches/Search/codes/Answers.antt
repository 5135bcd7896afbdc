-- The edges of a valid reference lie in order.
use Rattle.query.proofs.Tests.{proper}
use Rattle.query.proofs.searches.Search.codes.Goals as goal

pub axis_code-requires : goal.axis_code-requires
axis_code-requires c = (proper _ c.args.self.now.reference.holds).on-y

pub axis_code-requires-2 : goal.axis_code-requires-2
axis_code-requires-2 c = (proper _ c.args.self.now.reference.holds).on-x
