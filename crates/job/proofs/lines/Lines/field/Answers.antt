-- The space, and then the digits that are printed, which are those of the definition.
use Rattle.std.proofs.Common.{arith, ◌∙◌, length-append, append_assoc}
use Rattle.job.proofs.Decimal.{printed_is}
use Rattle.job.proofs.lines.Lines.field.Goals as goal

pub text-requires : goal.text-requires
text-requires g c = let digits = c.as_bytes.ensures.value ∙ c.format.ensures.text ∙ printed_is c.args.n (omega arith) in rw (digits, c.byte.ensures, length-append) (omega arith)

pub returns : goal.returns
returns g c = let digits = c.as_bytes.ensures.value ∙ c.format.ensures.text ∙ printed_is c.args.n (omega arith) in c.text.ensures ∙ rw (digits, c.byte.ensures) (append_assoc c.args.self.now _ _)
