-- The letter, two fields of at most ten digits, and the newline.
use Rattle.std.proofs.Common.{rules, arith, ◌∙◌, length-append}
use Rattle.refusals.specs.Numbers.{number_of}
use Rattle.job.proofs.Decimal.{word_short}
use Rattle.job.proofs.Writing.{two_short, refused_short, refused_behind}
use Rattle.job.proofs.lines.Lines.refused.Goals as goal

pub field-requires : goal.field-requires
field-requires g c = let at = c.args in (search rules, rw (c.byte.ensures, length-append) (omega (arith, word_short at.position c.ranges.position.fits)))

pub field-requires-2 : goal.field-requires-2
field-requires-2 g c =
    let short = two_short c.args.position c.number.result c.ranges.position.fits (search rules) in
    (search rules, rw (c.field.ensures, c.byte.ensures, length-append, length-append) (omega (arith, short)))

pub byte-requires-2 : goal.byte-requires-2
byte-requires-2 g c =
    let short = two_short c.args.position c.number.result c.ranges.position.fits (search rules) in
    (search rules, rw (c.field-2.ensures, c.field.ensures, c.byte.ensures, length-append, length-append, length-append) (omega (arith, short)))

pub returns : goal.returns
returns g c =
    let at = c.args in
    let number = c.number.ensures.number in
    record {
      bytes = c.byte-2.ensures ∙ rw (c.field-2.ensures, number, c.field.ensures, c.byte.ensures) (refused_behind at.self.now at.letter at.position (number_of at.refusal));
      most = rw number at (refused_short at.letter at.position c.number.result c.ranges.position.fits (search rules));
    }
