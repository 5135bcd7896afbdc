-- The table is sound, and the line heeds only the length of the answer slice.
use Rattle.std.proofs.Common.{rules, arith, subst, ◌∙◌}
use Rattle.job.specs.Steps.{Gathers}
use Rattle.job.proofs.Tables.{fine_of}
use Rattle.job.proofs.Asking.{hits-of}
use Rattle.job.proofs.Items.{line-made, answer-left}
use Rattle.job.proofs.queries.Query.answer.Goals as goal

pub invariant_of-table : goal.invariant_of-table
invariant_of-table g c =
    let F = fine_of c.args.table.now c.args.self.now.job.bytes.now _ c.requires.0 in
    record { long = omega (arith, F.size); holds = F.sound }

pub query-requires : goal.query-requires
query-requires g c = (search rules, (c.requires.2, c.ask-found.auto.answer ∙ c.requires.1, hits-of _ _ _ _ _ _ c.ask-found.ensures))

pub returns-clause-line : goal.returns-clause-line
returns-clause-line g c =
    let query = c.args.self.now in
    let asked = c.ask-found.ensures in
    subst (Gathers c.args.lines.now _) (line-made query.job.bytes.now query.position c.args.table.now c.args.answer.now _ _ _ _ c.requires.0 query.refers query.asks c.requires.1 asked)
    c.query.ensures

pub returns-clause-answer : goal.returns-clause-answer
returns-clause-answer g c =
    let query = c.args.self.now in
    answer-left query.job.bytes.now query.position c.args.table.now c.args.answer.now _ _ _ _ c.requires.0 query.refers query.asks c.requires.1 c.ask-found.ensures
