-- The table is refused, or it is sound.
use Rattle.std.proofs.Common.{◌≡◌, ◌/◌, length, refl, ◌∙◌, arith, subst}
use Rattle.finder_bench.specs.Asked.{POINT_WORDS, nearest_of, nearest_all}
use Rattle.finder_bench.proofs.Asked.{word-at, none-nearest, one_nearest, all_nearest}
use Rattle.finder_bench.proofs.bench_nearest.Goals as goal

pub returns-in_default : goal.returns-in_default
returns-in_default c = none-nearest _ _ _ _ c.in_default.ensures.refusal

pub loop-words-init : goal.loop-words-init
unfolding nearest_of
loop-words-init c = refl

pub loop-words-preserved : goal.loop-words-preserved
loop-words-preserved c =
    let l = c.loop-words in
    let table = c.in-Ok.table in
    let points = c.args.points.now in
    let word = word-at POINT_WORDS (length points / POINT_WORDS) points _ c.as_chunks.ensures.front l.words-index (omega arith) in
    one_nearest _ _ _ table.long table.holds l.words-index _ _ _ _ c.from-found.result l.invariant
    (word 0 _ (omega arith) (omega arith)) (word 1 _ (omega arith) refl) (c.from-found.ensures ∙ c.nearest_sound.ensures) (rw (c.from.ensures, c.from-in-loop-words.ensures))

pub returns : goal.returns
returns c =
    let a = c.args in
    let l = c.loop-words in
    subst (λ w. l.total ≡ nearest_all w a.points.now a.allowance) c.in-Ok.ensures.words (all_nearest _ _ _ l.words-index _ (omega arith) l.invariant)
