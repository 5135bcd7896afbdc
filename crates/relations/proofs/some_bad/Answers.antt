-- The chain tests each clause as the definition does.
use Rattle.std.proofs.Common.{rules, tests, ◌∙◌}
use Rattle.std.proofs.lemmas.Iterator.Search.{any_from_yields_List}
use Rattle.std.proofs.lemmas.Iterator.{YieldsList-from_slice}
use Rattle.relations.specs.Query.{bad_clause}
use Rattle.relations.proofs.Answer.{some-bad}
use Rattle.relations.proofs.some_bad.Goals as goal

pub returns : goal.returns
unfolding bad_clause
returns c =
    any_from_yields_List bad_clause _ _ c.any.result c.any.ensures.ran (YieldsList-from_slice c.args.clauses.now cc) (λ x b q k. search (rules, tests))
    ∙ some-bad c.args.clauses.now
