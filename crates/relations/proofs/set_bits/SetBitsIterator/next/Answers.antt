-- The first of the ones is the lowest, and the others are those of the word without it.
use mathlib.Core.List.{[], ◌∷◌}
use mathlib.Core.Path.{◌≡◌, sym, ap, ◌∙◌}
use Prim.Native.Nat.{◌-◌, ◌^◌, ◌<◌}
use native.Mathlib.Nat.{zero-add}
use Rattle.std.proofs.Common.{rules}
use Rattle.relations.specs.Sets.{ones_from}
use Rattle.relations.proofs.Lowest.{lowest_one, lowest, ones_none}
use Rattle.relations.proofs.set_bits.SetBitsIterator.next.Goals as goal

pub returns-then-self-eq0-clause-steps : goal.returns-then-self-eq0-clause-steps
returns-then-self-eq0-clause-steps c =
    let none : c.args.self.now ≡ [] = sym c.self.view_is ∙ ap (ones_from 0 64) c.if-self-eq0.true ∙ ones_none 0 64 in
    (none, none)

pub overflow_sub-self : goal.overflow_sub-self
overflow_sub-self c =
    let fits : c.self.inside.rest < 2 ^ 64 = search rules in
    (lowest 64 _ c.if-self-eq0.false fits).small

pub returns-clause-steps : goal.returns-clause-steps
returns-clause-steps c =
    let fits : c.self.inside.rest < 2 ^ 64 = search rules in
    sym c.self.view_is ∙ rw ((lowest 64 _ c.if-self-eq0.false fits).first 0, zero-add)

pub returns-clause-goes : goal.returns-clause-goes
returns-clause-goes c =
    let fits : c.self.inside.rest < 2 ^ 64 = search rules in
    let rest = c.self.inside.rest in
    let first : c.args.self.now ≡ (_ ∷ ones_from 0 64 (rest - lowest_one 64 rest)) = sym c.self.view_is ∙ (lowest 64 _ c.if-self-eq0.false fits).first 0 in
    search rules
