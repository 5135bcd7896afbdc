-- The places of a set of codes are below thirteen, and each turn joins the row at the next.
use Rattle.std.proofs.Common.{◌<◌, ℕ, sym, ap, ◌∙◌, subst}
use Rattle.std.specs.List.{All}
use Rattle.std.proofs.lemmas.List.Elements.{All-tail}
use Rattle.relations.specs.Sets.{ones_from}
use Rattle.relations.specs.Axis.{CODES}
use Rattle.relations.specs.Steps.{union_of}
use Rattle.relations.proofs.Lowest.{places_of}
use Rattle.relations.proofs.joined_row.Goals as goal

abbrev code_place : ℕ → Type 0
code_place t = t < CODES

pub loop-h-init : goal.loop-h-init
loop-h-init c =
    let all = c.into_iter-h-iterator.ensures.into_iter_gives ∙ c.new-h-items.ensures ∙ ap (ones_from 0 64) c.from.ensures in
    (subst (All code_place) (sym all) (places_of CODES 51 _ c.requires), ap (union_of _ _) all)

pub loop-h-preserved : goal.loop-h-preserved
unfolding union_of
loop-h-preserved c =
    let step = c.in-Some.ensures.steps in
    (All-tail code_place _ _ (subst (All code_place) step c.loop-h.invariant.0), ap (union_of _ _) (sym step) ∙ c.loop-h.invariant.1)

pub returns : goal.returns
unfolding union_of
returns c = ap (union_of _ _) (sym c.in-None.ensures.steps.0) ∙ c.loop-h.invariant.1
