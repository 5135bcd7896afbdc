-- What the entries left will mark makes the whole.
use Rattle.pages.specs.Left.{left}
use Rattle.query.specs.Search.{admits_in}
use Rattle.query.proofs.Leaf.{Marking}
use Rattle.query.proofs.searches.Search.mark_leaf.Given as goal

abbrev pub invariant-loop-e : goal.invariant-loop-e
invariant-loop-e l = Marking (admits_in l.self) l.self.table.words.now l.p l.initial.marks l.marks (left l.e-iterator)
