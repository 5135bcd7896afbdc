-- The query at the front of the words that are left is the next one, and there is one.
use Rattle.std.proofs.Common.{arith, ◌≡◌, ◌<◌, ap, ◌∙◌, length}
use Rattle.std.specs.List.{concat}
use Rattle.job.specs.Words.{word_at, query_count, query_start}
use Rattle.job.specs.Steps.{query_size}
use Rattle.job.specs.declared.queries.Queries.{Queries}
use Rattle.job.proofs.Reading.{word-front, rect-front, clauses-front}
use Rattle.job.proofs.Places.{no_query, next_words}
use Rattle.job.proofs.Items.{exact, query-refers, query-asks}
use Rattle.job.proofs.queries.QueriesIterator.next.Goals as goal

never : (s : Queries) → s.positions.start < s.job.queries → length s.rest.now < query_size (concat s.rest.now) → ⊥
never s h l =
    let b = s.job.bytes.now in
    omega (arith, exact b s.job.whole, no_query b s.positions.start (query_count b) s.rest.now s.begins (omega (arith, h, s.job.queries_are)) l)

pub invariant_of-self-in-Break-branch-2 : goal.invariant_of-self-in-Break-branch-2
invariant_of-self-in-Break-branch-2 c =
    let s = c.args.self.now in absurd (never s (omega (arith, s.listed, c.in_ok-position.ensures)) c.in_err-reference.ensures)

pub returns-in_err-reference-clause-steps : goal.returns-in_err-reference-clause-steps
returns-in_err-reference-clause-steps c =
    let s = c.args.self.now in absurd (never s (omega (arith, s.listed, c.in_ok-position.ensures)) c.in_err-reference.ensures)

pub invariant_of-self-2 : goal.invariant_of-self-2
invariant_of-self-2 c =
    let s = c.args.self.now in
    let step = c.in_ok-position.ensures in
    record {
      listed = (omega (arith, s.listed, step), omega (arith, s.listed, step));
      begins = next_words s.job.bytes.now s.positions.start _ s.rest.now _ s.begins c.in_ok-reference.ensures.3 (omega (arith, step));
    }

pub invariant_of-query : goal.invariant_of-query
invariant_of-query c =
    let s = c.args.self.now in
    let b = s.job.bytes.now in
    let left = s.rest.now in
    let position = c.in_ok-position.position in
    let at = query_start b s.positions.start in
    let here : s.positions.start ≡ position = omega (arith, c.in_ok-position.ensures) in
    let found = c.in_ok-reference.ensures in
    record {
      listed = omega (arith, s.listed, c.in_ok-position.ensures);
      refers = query-refers b position at _ (ap (query_start b) here) (found.1 ∙ rect-front b at left s.begins);
      asks = query-asks b position at (word_at (concat left) 4) _ (ap (query_start b) here) (word-front b at 4 left s.begins) (found.2 ∙ clauses-front b at 5 _ left s.begins);
    }
