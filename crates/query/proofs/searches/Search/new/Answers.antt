-- The window is made so that it decides.
use Rattle.query.proofs.Decided.{pages-decided, leaves-decided}
use Rattle.query.proofs.searches.Search.new.Goals as goal

pub invariant_of-result-clause-leaves : goal.invariant_of-result-clause-leaves
invariant_of-result-clause-leaves c =
    leaves-decided _ _ c.args.reference.holds _ _ _ _ c.new-test.ensures c.reach.ensures c.is_overlap-whole.ensures c.new-window.ensures

pub invariant_of-result-clause-pages : goal.invariant_of-result-clause-pages
invariant_of-result-clause-pages c =
    pages-decided _ _ c.args.reference.holds _ _ _ _ c.new-test.ensures c.reach.ensures c.is_overlap-whole.ensures c.new-window.ensures
