-- The steps of an accepted call in turn; a sound table's head gives what they ask for.
use Rattle.std.proofs.Common.{get_or, rules, ap, ◌∙◌}
use native.Mathlib.Omega.{arith}
use Rattle.placing.proofs.Stepping.{placed-is}
use Rattle.placing.proofs.Joined.{head_in, placed-in}
use Rattle.placing.proofs.place_words.Goals as goal
use Rattle.placing.proofs.place_words.Goals.{in-Some, in_default}

pub page_of-requires : goal.page_of-requires
page_of-requires c = (search rules, omega (arith, head_in c.args.table.now (omega arith) c.requires.0))

pub overflow_add-level : goal.overflow_add-level
overflow_add-level c =
    omega (arith, head_in c.args.table.now (omega arith) c.requires.0, ap (λ w. get_or w 0 0) c.page_of.ensures)

pub overflow_add-table : goal.overflow_add-table
overflow_add-table c =
    omega (arith, head_in c.args.table.now (omega arith) c.requires.0)

pub returns : goal.returns
returns c =
    let p = c.requires in
    placed-is _ _ c.match-place_at.table _ _ _ c.place_at.result (ap (λ w. get_or w 0 0) c.page_of.ensures) c.place_at.ensures
    (elim c.match-place_at.branch [ in-Some w ↦ rw w.in-Some.is (w.table-is ∙ w.make_root.ensures) | in_default w ↦ rw w.in_default.is w.table-is ])
    ∙ placed-in c.args.table.now _ _ (omega arith) p.0 c.args.piece.rect.holds c.args.piece.below p.1
