-- What going over a job's queries gives.
use Rattle.std.specs.Prelude.{◌≡◌, ◌+◌, Option, MatchOption}
use Rattle.job.specs.declared.queries.Query.{Query}
use Rattle.job.specs.declared.queries.Queries.{Queries}

-- the query at the next position, unless all were given
abbrev pub GivesQuery : Queries → Option Query → Queries → Type 0
GivesQuery s r t =
    MatchOption r (s.positions.start ≡ s.job.queries) λ q.
    (q.job.bytes.now ≡ s.job.bytes.now) × (q.position ≡ s.positions.start) × (t.job.bytes.now ≡ s.job.bytes.now) × (t.positions.start ≡ s.positions.start + 1)
