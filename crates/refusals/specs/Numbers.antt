-- The numbers of the refusals; "Zero means accepted".
use Rattle.std.specs.Prelude.{ℕ, Result, Ok, Err}
use Rattle.refusals.specs.declared.Refusal.{Refusal}
use Rattle.refusals.specs.declared.Refusal.TheVariants.{TableTooShort, RectangleNotValid, NumberTooLarge, ClauseCount, ClauseNotValid}
use Rattle.refusals.specs.declared.Refusal.TheVariants.{TableNotSound, AlreadyStanding, AnswerTooShort, PointCount, CoordinateTooLarge, OutOfRange, NoPieces}

abbrev pub number_of : Refusal → ℕ
number_of TableTooShort = 1
number_of RectangleNotValid = 2
number_of NumberTooLarge = 3
number_of ClauseCount = 4
number_of ClauseNotValid = 5
number_of TableNotSound = 6
number_of AlreadyStanding = 7
number_of AnswerTooShort = 8
number_of PointCount = 10
number_of CoordinateTooLarge = 11
number_of OutOfRange = 13
number_of NoPieces = 14

-- of what a call returns
abbrev pub refusal_of : {T : Type 0} → Result T Refusal → ℕ
refusal_of (Ok _) = 0
refusal_of (Err e) = number_of e
