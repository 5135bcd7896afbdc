-- A page number is small.
use native.Mathlib.Omega.{arith}
use Rattle.soundness.proofs.Reading.{page-few}
use Rattle.query.proofs.walks.ListerVisitor.visit.Goals as goal

pub overflow_cast-self : goal.overflow_cast-self
overflow_cast-self c =
    let s = c.requires.page in
    omega (arith, page-few _ s.words s.holds _ s.inside)
