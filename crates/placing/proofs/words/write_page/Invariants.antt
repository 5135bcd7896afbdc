use mathlib.Core.Path.{◌≡◌}
use lib.ListN.{take}
use Rattle.pages.specs.Layout.{page_of, encode_page}
use Rattle.placing.proofs.words.write_page.Given as goal

abbrev pub invariant-loop-e : goal.invariant-loop-e
invariant-loop-e l = l.page ≡ encode_page (page_of l.level (take l.e-index l.es))
