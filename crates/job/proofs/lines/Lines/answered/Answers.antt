-- The letter, three fields of at most ten digits, those of the numbers, each of at most five, and the newline.
use Rattle.std.proofs.Common.{rules, arith, ◌∙◌, length-append}
use Rattle.job.specs.Lines.{ANSWERED}
use Rattle.job.proofs.Writing.{more_short, answered_short, answered_behind}
use Rattle.job.proofs.lines.Lines.answered.Goals as goal

pub field-requires : goal.field-requires
field-requires g c =
    let at = c.args in
    let short = more_short at.position at.found.hits at.found.opened at.numbers.now c.ranges.position.fits (search rules) (search rules) (λ i. (c.type_inv.numbers i).fits) c.requires.1 in
    (search rules, rw (c.byte.ensures, length-append) (omega (arith, short, c.requires.0)))

pub field-requires-2 : goal.field-requires-2
field-requires-2 g c =
    let at = c.args in
    let short = more_short at.position at.found.hits at.found.opened at.numbers.now c.ranges.position.fits (search rules) (search rules) (λ i. (c.type_inv.numbers i).fits) c.requires.1 in
    (search rules, rw (c.field.ensures, c.byte.ensures, length-append, length-append) (omega (arith, short, c.requires.0)))

pub field-requires-3 : goal.field-requires-3
field-requires-3 g c =
    let at = c.args in
    let short = more_short at.position at.found.hits at.found.opened at.numbers.now c.ranges.position.fits (search rules) (search rules) (λ i. (c.type_inv.numbers i).fits) c.requires.1 in
    (search rules, rw (c.field-2.ensures, c.field.ensures, c.byte.ensures, length-append, length-append, length-append) (omega (arith, short, c.requires.0)))

pub fields-requires : goal.fields-requires
fields-requires g c =
    let at = c.args in
    let short = more_short at.position at.found.hits at.found.opened at.numbers.now c.ranges.position.fits (search rules) (search rules) (λ i. (c.type_inv.numbers i).fits) c.requires.1 in
    (search rules, rw (c.field-3.ensures, c.field-2.ensures, c.field.ensures, c.byte.ensures, length-append, length-append, length-append, length-append) (omega (arith, short, c.requires.0)))

pub byte-requires-2 : goal.byte-requires-2
byte-requires-2 g c =
    let at = c.args in
    let short = more_short at.position at.found.hits at.found.opened at.numbers.now c.ranges.position.fits (search rules) (search rules) (λ i. (c.type_inv.numbers i).fits) c.requires.1 in (
      search rules,
      rw (c.fields.ensures, c.field-3.ensures, c.field-2.ensures, c.field.ensures, c.byte.ensures, length-append, length-append, length-append, length-append, length-append)
          (omega (arith, short, c.requires.0)),
    )

pub returns : goal.returns
returns g c =
    let at = c.args in
    record {
      bytes = c.byte-2.ensures
          ∙ rw (c.fields.ensures, c.field-3.ensures, c.field-2.ensures, c.field.ensures, c.byte.ensures)
          (answered_behind at.self.now ANSWERED at.position at.found.hits at.found.opened at.numbers.now);
      most = answered_short at.position at.found.hits at.found.opened at.numbers.now c.ranges.position.fits (search rules) (search rules) (λ i. (c.type_inv.numbers i).fits) c.requires.1 ANSWERED;
    }
