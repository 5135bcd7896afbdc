-- `Progress` says what the calls so far leave, and `Marked` which numbers stand then: what `place_marked` requires.
use mathlib.Core.List.{map}
use lib.ListN.{take}
use Rattle.history.specs.Replay.{Marked, call_in}
use Rattle.history.proofs.Replaying.{Progress}
use Rattle.history.proofs.replay.Given as goal

abbrev pub invariant-loop-i : goal.invariant-loop-i
invariant-loop-i l = record {
  so_far : Progress l.initial.table l.initial.refusals (map call_in (take l.i l.groups)) l.table l.refusals;
  marked : Marked l.table l.marks;
}
