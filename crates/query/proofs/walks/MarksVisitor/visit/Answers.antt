-- A page above the leaves has no pieces.
use mathlib.Core.Path.{sym, ap, ◌∙◌}
use Rattle.query.specs.Marks.{marked}
use Rattle.query.specs.Search.{admits_in, table_of}
use Rattle.query.proofs.Walking.{hits-above}
use Rattle.query.proofs.walks.MarksVisitor.visit.Goals as goal

pub returns-else-level-eq0-clause-visited : goal.returns-else-level-eq0-clause-visited
unfolding marked
returns-else-level-eq0-clause-visited c =
    let s = c.args.search.now in
    sym (ap (marked _) (hits-above (admits_in s) (table_of s) c.args.p (λ z. c.if-level-eq0.false (sym c.requires.page.level ∙ z))))
