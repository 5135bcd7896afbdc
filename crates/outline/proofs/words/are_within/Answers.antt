-- The fold is the test of all words.
use mathlib.Core.Path.{◌∙◌}
use mathlib.Core.Bool.{true, ◌&&◌}
use lib.Dec.{leb}
use borrow.Author.Tests.{tests}
use Rattle.std.proofs.Common.{rules}
use Rattle.std.proofs.lemmas.Iterator.{YieldsList-from_slice}
use Rattle.std.proofs.lemmas.Iterator.Consumers.{fold_from_yields_List}
use Rattle.outline.specs.Outline.{FARTHEST}
use Rattle.outline.proofs.Indexed.{within_fold}
use Rattle.outline.proofs.words.are_within.Goals as goal

pub returns : goal.returns
returns c =
    fold_from_yields_List _ (λ t w. t && leb w FARTHEST) true c.fold.result c.fold.ensures.ran (YieldsList-from_slice c.args.words.now (cc)) (λ a x b q k. search (rules, tests))
    ∙ within_fold _
