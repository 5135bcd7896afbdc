-- The walk, the marks that it leaves and the rest decide.
use Rattle.std.proofs.Common.{arith, sym, ◌∙◌}
use Rattle.pages.proofs.Lists.{not-both}
use Rattle.soundness.proofs.Marks.{unmarked}
use Rattle.soundness.proofs.Decides.{walk_refuses, marks_refuse, rest_decides}
use Rattle.soundness.proofs.is_sound_from.Goals as goal
use Rattle.soundness.proofs.is_sound_from.Goals.{then-is_some, else-is_some}

pub returns-then-is_complete : goal.returns-then-is_complete
returns-then-is_complete c =
    elim c.if-is_some.branch [
      | then-is_some w ↦ rest_decides c.requires (omega arith) (unmarked 341) (unmarked 1024) c.root_fewest.ensures c.visit.ensures.visited (sym w.if-is_some.ensures)
          c.visit.ensures.same c.visit.new.self.count (w.is_complete.ensures.0 (sym w.value-is ∙ c.if-is_complete.true)) c.is_blank.ensures
      | else-is_some w ↦ absurd (not-both _ c.if-is_complete.true (w.value-is ∙ w.if-is_some.false))
    ]

pub returns-else-is_complete : goal.returns-else-is_complete
returns-else-is_complete c =
    elim c.if-is_some.branch [
      | then-is_some w ↦ c.if-is_complete.false
          ∙ marks_refuse c.requires (omega arith) (unmarked 341) (unmarked 1024) c.root_fewest.ensures c.visit.ensures.visited (sym w.if-is_some.ensures)
          c.visit.ensures.same c.visit.new.self.count (λ t. not-both _ (w.is_complete.ensures.1 t) (sym w.value-is ∙ c.if-is_complete.false))
      | else-is_some w ↦ c.if-is_complete.false ∙ walk_refuses c.requires (omega arith) (unmarked 341) (unmarked 1024) c.root_fewest.ensures c.visit.ensures.visited (sym w.if-is_some.ensures)
    ]
