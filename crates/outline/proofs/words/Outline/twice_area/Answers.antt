-- The edges come in the order of the walk, and each adds its part.
use native.Mathlib.Omega.{arith}
use mathlib.Core.Path.{◌∙◌, ap}
use mir.Syntax.{w64}
use Rattle.std.proofs.Common.{rules, tests}
use Rattle.std.proofs.lemmas.Int.{to_z-of_z}
use Rattle.std.proofs.lemmas.Iterator.{YieldsList-from_map}
use Rattle.std.proofs.lemmas.Iterator.Consumers.{YieldsList-from_first}
use Rattle.std.proofs.lemmas.Iterator.Adapters.{at_most_from_yields_List}
use Rattle.outline.specs.Outline.{MOST_POINTS}
use Rattle.outline.specs.Area.{cross, area_twice}
use Rattle.outline.specs.Steps.{LARGEST}
use Rattle.outline.proofs.Walking.{area-walked}
use Rattle.outline.proofs.Summing.{summed, fits_within}
use Rattle.outline.proofs.words.Outline.twice_area.Goals as goal

pub sum-requires-clause-fits : goal.sum-requires-clause-fits
sum-requires-clause-fits c =
    fits_within _ _ _ LARGEST (λ x r q k. search (rules, tests)) MOST_POINTS
    (at_most_from_yields_List (YieldsList-from_first (λ x. x) (λ es. es) c.edges.result c.map.ensures.source) c.edges.ensures.most) c.map.ensures.closure (omega arith)

pub returns : goal.returns
returns c =
    to_z-of_z w64 c.sum.result (record { sfits = c.sum.type_inv })
    ∙ (summed c.edges.result c.sum.result c.sum.ensures.ran
    (YieldsList-from_map _ cross (YieldsList-from_first (λ x. x) (λ es. es) c.edges.result c.map.ensures.source) c.map.ensures.closure (λ x r q k. search (rules, tests)))
    ∙ ap area_twice c.edges.ensures.edges ∙ area-walked c.args.self.now)
