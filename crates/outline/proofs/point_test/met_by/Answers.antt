-- Away from the edge's heights, in line with it, or to one of its sides.
use mathlib.Core.Path.{sym, ap, ◌∙◌}
use Rattle.std.specs.Prelude.{Some}
use Rattle.std.proofs.Common.{rules}
use Rattle.outline.proofs.Testing.{not-along, on-it, beside-it, on-right, on-left, lt-is}
use Rattle.outline.proofs.point_test.met_by.Goals as goal

pub returns-then-not-is_between : goal.returns-then-not-is_between
returns-then-not-is_between c = not-along _ _ (sym c.if-not-is_between.ensures)

pub returns-in-Equal : goal.returns-in-Equal
returns-in-Equal c = on-it _ _ (sym c.if-not-is_between.ensures) (search rules) (sym c.if-is_between.ensures)

pub returns-in-Equal-2 : goal.returns-in-Equal-2
returns-in-Equal-2 c = beside-it _ _ (sym c.if-not-is_between.ensures) (search rules) (sym c.if-is_between.ensures)

pub returns-in-Less : goal.returns-in-Less
returns-in-Less c = ap Some (c.lt.ensures ∙ lt-is _ _) ∙ on-right _ _ (sym c.if-not-is_between.ensures) (search rules)

pub returns-in-Greater : goal.returns-in-Greater
returns-in-Greater c = ap Some (c.lt-in-Greater.ensures ∙ lt-is _ _) ∙ on-left _ _ (sym c.if-not-is_between.ensures) (search rules)
