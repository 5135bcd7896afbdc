-- What the numbers of refusals tell.
use native.Mathlib.Omega.{arith}
use mathlib.Core.Path.{◌≡◌}
use Rattle.refusals.specs.declared.Refusal.{Refusal}
use Rattle.refusals.specs.declared.Refusal.TheVariants.{TableTooShort, RectangleNotValid, NumberTooLarge, ClauseCount, ClauseNotValid}
use Rattle.refusals.specs.declared.Refusal.TheVariants.{TableNotSound, AlreadyStanding, AnswerTooShort, PointCount, CoordinateTooLarge, OutOfRange, NoPieces}
use Rattle.refusals.specs.Numbers.{number_of}

-- a refusal has another number than an accepted call
pub number-some : (why : Refusal) → number_of why ≡ 0 → ⊥
number-some TableTooShort e = absurd (omega arith)
number-some RectangleNotValid e = absurd (omega arith)
number-some NumberTooLarge e = absurd (omega arith)
number-some ClauseCount e = absurd (omega arith)
number-some ClauseNotValid e = absurd (omega arith)
number-some TableNotSound e = absurd (omega arith)
number-some AlreadyStanding e = absurd (omega arith)
number-some AnswerTooShort e = absurd (omega arith)
number-some PointCount e = absurd (omega arith)
number-some CoordinateTooLarge e = absurd (omega arith)
number-some OutOfRange e = absurd (omega arith)
number-some NoPieces e = absurd (omega arith)
