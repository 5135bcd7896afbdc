-- The clauses that are read are all, or one too many where there are more, which is as good.
use Rattle.std.proofs.Common.{◌∙◌, ap, sym, map}
use Rattle.std.proofs.lemmas.List.{take-map}
use Rattle.query.specs.Calls.{query_sound}
use Rattle.job.specs.Steps.{clause_in}
use Rattle.job.proofs.Asking.{enough}
use Rattle.job.proofs.queries.Query.ask.Goals as goal

pub returns : goal.returns
returns c =
    let query = c.args.self.now in
    let clauses = map clause_in query.clauses.now in
    let read = c.as_slice.ensures.value ∙ c.first_clauses-clauses.ensures ∙ sym (take-map clause_in 9 query.clauses.now) in
    c.query_sound.ensures ∙ ap (λ l. query_sound c.args.table.words.now query.reference l c.args.answer.now) read ∙ enough c.args.table.words.now query.reference clauses c.args.answer.now
