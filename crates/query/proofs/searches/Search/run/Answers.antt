-- The walk starts at the root, which opens at most k pages.
use native.Mathlib.Omega.{arith}
use native.Mathlib.Nat.{le_trans}
use mathlib.Core.Path.{ap, subst}
use lib.ListN.{length}
use Rattle.query.specs.Search.{table_of, opens_in}
use Rattle.query.specs.Visits.{VisitsAll}
use Rattle.query.proofs.Root.{opened-from, root-inside, root-page, root-few, root-room}
use Rattle.query.proofs.searches.Search.run.Goals as goal

pub level-level-requires : goal.level-level-requires
level-level-requires g c =
    let s = c.args.self.now.table in
    root-inside _ s.long s.holds _ 0 c.root-root.ensures

pub walk-requires-clause-page : goal.walk-requires-clause-page
walk-requires-clause-page g c =
    let s = c.args.self.now.table in
    root-page _ s.long s.holds _ _ c.root-root.ensures c.level-level.ensures

pub walk-requires-clause-few : goal.walk-requires-clause-few
walk-requires-clause-few g c =
    let s = c.args.self.now in
    omega (arith, root-few _ s.table.long s.table.holds _ _ c.root-root.ensures (opens_in s) c.level-level.ensures)

pub walk-requires-clause-room : goal.walk-requires-clause-room
walk-requires-clause-room g c =
    let s = c.args.self.now in
    le_trans (root-room _ s.table.long s.table.holds _ _ c.root-root.ensures (opens_in s) c.level-level.ensures) c.requires

pub returns-clause-count : goal.returns-clause-count
returns-clause-count g c =
    let s = c.args.self.now in
    omega (arith, c.walk.ensures.count, ap length (opened-from (table_of s) _ _ c.root-root.ensures c.level-level.ensures (opens_in s)))

pub returns-clause-visited : goal.returns-clause-visited
returns-clause-visited g c =
    let s = c.args.self.now in
    subst (λ x. VisitsAll (g.V.Visitor.Visited s) c.args.visitor.now 0 x c.walk.new.visitor)
    (opened-from (table_of s) _ _ c.root-root.ensures c.level-level.ensures (opens_in s)) c.walk.ensures.visited
