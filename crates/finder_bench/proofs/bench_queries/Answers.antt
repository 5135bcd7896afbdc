-- The table is refused, or it is sound and stays as it is.
use Rattle.std.proofs.Common.{◌≡◌, ◌+◌, ◌/◌, ◌%◌, ◌^◌, length, refl, ◌∙◌, arith, subst}
use Rattle.query.specs.Calls.{answer_of}
use Rattle.finder_bench.specs.Asked.{RECT_WORDS, asked, asked_all}
use Rattle.finder_bench.proofs.Asked.{reference-is, all-refused, one_more, all_asked}
use Rattle.finder_bench.proofs.bench_queries.Goals as goal
use Rattle.finder_bench.proofs.bench_queries.Goals.{in-Ok-query_sound, in_default-query_sound}

pub returns-in_default : goal.returns-in_default
returns-in_default c =
    let a = c.args in
    all-refused a.table.now a.references.now a.clauses.now a.answer.now _ c.in_default.ensures.refusal

pub loop-words-init : goal.loop-words-init
unfolding asked
loop-words-init c = refl

pub loop-words-preserved : goal.loop-words-preserved
loop-words-preserved c =
    let l = c.loop-words in
    let table = c.in-Ok.table in
    let words = c.args.references.now in
    let at = c.from.ensures ∙ reference-is (length words / RECT_WORDS) words _ c.as_chunks.ensures.front l.words-index (omega arith) in
    let more : c.match-query_sound.hits ≡ (l.hits + (answer_of c.query_sound.result).hits) % 2 ^ 64 =
    elim c.match-query_sound.branch [
      | in-Ok-query_sound w ↦ w.hits-is ∙ rw (w.from-hits.ensures, w.in-Ok-query_sound.is)
      | in_default-query_sound w ↦ rw w.in_default-query_sound.is (omega (arith, w.hits-is, l.auto.hits-fits))
    ] in
    one_more _ _ _ _ table.long table.holds l.words-index _ _ _ _ c.query_sound.result _ l.invariant at c.query_sound.ensures more

pub returns : goal.returns
returns c =
    let a = c.args in
    let l = c.loop-words in
    let asked-all = all_asked _ _ _ _ l.words-index _ (omega arith) l.invariant in
    subst (λ w. ◌≡◌ (l.hits, l.answer) (asked_all w a.references.now a.clauses.now a.answer.now)) c.in-Ok.ensures.words asked-all
