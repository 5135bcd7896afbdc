use Prim.Native.Nat.{◌+◌, ◌-◌}
use mathlib.Core.Path.{◌≡◌}
use lib.ListN.{length}
use Rattle.pages.specs.Lists.{concat_map, Every}
use Rattle.pages.specs.Left.{left}
use Rattle.pages.specs.Rectangles.{Small}
use Rattle.query.specs.Steps.{SoundPage}
use Rattle.query.specs.Search.{opens_in, table_of, opened_at}
use Rattle.query.specs.Visits.{VisitsAll}
use Rattle.query.proofs.Walking.{open_each}
use Rattle.query.proofs.searches.Search.+walk.Given as goal

abbrev pub decreases-walk : goal.decreases-walk
decreases-walk g l = l.level

-- what the entries left will open makes the whole
abbrev pub invariant-loop-e : goal.invariant-loop-e
invariant-loop-e g l =
    let still = concat_map (open_each (opens_in l.self) (table_of l.self).pages (l.level - 1)) (left l.e-iterator) in record {
      count : l.count + length still ≡ l.n + length (opened_at l.self l.level l.p);
      visited : (w : _) → VisitsAll (g.V.Visitor.Visited l.self) l.visitor l.count still w → VisitsAll (g.V.Visitor.Visited l.self) l.fn.visitor l.n (opened_at l.self l.level l.p) w;
      limit : g.V.Visitor.limit l.visitor ≡ g.V.Visitor.limit l.fn.visitor;
      each : Every (λ e. Small e.rect × SoundPage l.self.table.words.now e.r (l.level - 1)) (left l.e-iterator);
    }
