-- What stands behind `self` are the fields of the numbers before n; each next one has room, since all of them have.
use Rattle.std.proofs.Common.{rules, refl, ◌∙◌, append-nil, append_assoc}
use Rattle.job.proofs.Writing.{no_fields, next_field, field_room}
use Rattle.job.proofs.lines.Lines.fields.Goals as goal

pub loop-n-init : goal.loop-n-init
loop-n-init g c = rw (no_fields, append-nil) refl

pub field-requires : goal.field-requires
field-requires g c = (search rules, rw (c.from.ensures, c.loop-n.invariant) (field_room c.args.self.now c.args.numbers.now c.loop-n.n-index _ c.loop-n-test.true c.requires))

pub loop-n-preserved : goal.loop-n-preserved
loop-n-preserved g c = c.field.ensures ∙ rw (c.from.ensures, c.loop-n.invariant, next_field c.args.numbers.now c.loop-n.n-index c.loop-n-test.true) (append_assoc c.args.self.now _ _)
