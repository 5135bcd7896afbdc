-- The table is the first words, and the rest is left.
use Rattle.std.proofs.Common.{rules, ◌≡◌, ◌∙◌}
use lib.ListN.{take}
use Rattle.pages.specs.Sizes.{TABLE_WORDS}
use Rattle.soundness.proofs.Firsts.{stored-firsts, sound-firsts}
use Rattle.placing.proofs.Firsts.{placed-firsts}
use Rattle.placing.proofs.place_new.Goals as goal

pub place_words-requires : goal.place_words-requires
place_words-requires c =
    let p = c.requires in
    let same : c.unwrap.result.now ≡ take TABLE_WORDS c.args.table.now = search rules in
    (rw (same, sound-firsts) p.1, rw same (stored-firsts _ _ ∙ p.2))

pub returns : goal.returns
returns c =
    let a = c.args in
    let same : c.unwrap.result.now ≡ take TABLE_WORDS a.table.now = search rules in
    rw (c.place_words.ensures, same) (placed-firsts a.table.now a.piece.number a.piece.rect.rect)
