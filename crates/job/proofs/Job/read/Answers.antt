-- The counts are the definition's, and so is where the queries begin and end.
use Rattle.std.proofs.Common.{rules, arith, ℕ, ◌*◌, ◌≡◌, ◌≤◌, List, length, refl, sym, ◌∙◌, ap, subst}
use Rattle.job.specs.Words.{piece_count, query_count, query_start}
use Rattle.job.specs.Steps.{WordsFrom}
use Rattle.job.proofs.Places.{exact, count_is, first_words, next_words, still_fits, all_read, some_left, no_query, not_exact}
use Rattle.job.proofs.Job.read.Goals as goal

-- what is known behind the last query
behind : (b : List ℕ) (n m : ℕ) (left : List (List ℕ)) → n ≡ m → WordsFrom b (query_start b n) left × (4 * query_start b n ≤ length b)
    → WordsFrom b (query_start b m) left × (4 * query_start b m ≤ length b)
behind b n m left e I = subst (λ k. WordsFrom b (query_start b k) left × (4 * query_start b k ≤ length b)) e I

pub loop-init : goal.loop-init
loop-init c =
    first_words c.args.bytes.now c.in_ok-words.words.now c.in_ok-first.first.now c.in_ok-pieces.pieces c.in_ok-words.ensures c.in_ok-pieces.ensures.1 c.in_ok-first.ensures.1
    (omega (arith, c.in_ok-first.ensures.0))

pub loop-preserved : goal.loop-preserved
loop-preserved c =
    let b = c.args.bytes.now in
    let I = c.loop.invariant in (
      next_words b c.loop.counter _ c.loop.left.now _ I.0 c.in-Some.ensures.3 refl,
      still_fits b c.loop.counter _ c.loop.left.now I.0 I.1 c.in-Some.ensures.0 refl,
    )

pub returns-then-not-is_empty-clause-some : goal.returns-then-not-is_empty-clause-some
returns-then-not-is_empty-clause-some c =
    let b = c.args.bytes.now in
    let queries = count_is _ _ _ c.in_ok-pieces.ensures.1 c.in_ok-queries.ensures.1 ∙ ap query_count c.in_ok-words.ensures.0 in
    let same : c.loop.counter ≡ query_count b = omega (arith, queries, c.loop-test.false, c.loop.auto.counter-end) in
    let I = behind b _ _ c.loop.left.now same c.loop.invariant in
    let some : length c.loop.left.now ≡ 0 → ⊥ = search rules in
    not_exact b λ e. omega (arith, e, some_left b _ c.loop.left.now I.0 (omega (arith, some)))

pub invariant_of-result : goal.invariant_of-result
invariant_of-result c =
    let b = c.args.bytes.now in
    let cut = c.in_ok-words.ensures in
    let queries = count_is _ _ _ c.in_ok-pieces.ensures.1 c.in_ok-queries.ensures.1 ∙ ap query_count cut.0 in
    let same : c.loop.counter ≡ query_count b = omega (arith, queries, c.loop-test.false, c.loop.auto.counter-end) in
    let I = behind b _ _ c.loop.left.now same c.loop.invariant in
    let first = first_words b c.in_ok-words.words.now c.in_ok-first.first.now c.in_ok-pieces.pieces cut c.in_ok-pieces.ensures.1 c.in_ok-first.ensures.1 (omega (arith, c.in_ok-first.ensures.0)) in
    record {
      cut = cut;
      whole = sym (exact b (omega arith) (all_read b _ c.loop.left.now I.0 I.1 (search rules)));
      pieces_are = c.in_ok-pieces.ensures.1 ∙ ap piece_count cut.0;
      queries_are = queries;
      begins = first.0;
    }

pub returns-in_default-clause-some : goal.returns-in_default-clause-some
returns-in_default-clause-some c =
    let b = c.args.bytes.now in
    let queries = count_is _ _ _ c.in_ok-pieces.ensures.1 c.in_ok-queries.ensures.1 ∙ ap query_count c.in_ok-words.ensures.0 in
    not_exact b λ e. omega (arith, e, no_query b c.loop.counter (query_count b) c.loop.left.now c.loop.invariant.0 (omega (arith, queries, c.loop-test.true)) c.in_default.ensures)
