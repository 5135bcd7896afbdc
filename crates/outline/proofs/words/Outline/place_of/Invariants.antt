-- The point is on none of the edges passed; those counted and those left make up the whole.
use Rattle.std.proofs.Common.{◌≡◌}
use Rattle.outline.specs.Place.{on_any, crossings, odd}
use Rattle.outline.specs.Steps.{closing_first}
use Rattle.outline.proofs.Walking.{flip}
use Rattle.outline.proofs.words.Outline.place_of.Given as goal

abbrev pub invariant-loop-edge : goal.invariant-loop-edge
invariant-loop-edge l = record {
  on : on_any l.edge-iterator l.p ≡ on_any (closing_first l.self) l.p;
  parity : flip l.inside (odd (crossings l.edge-iterator l.p)) ≡ odd (crossings (closing_first l.self) l.p);
}
