-- The check call.
use Rattle.std.specs.Prelude.{ℕ, cond, List, length, ltb, Result, Ok, Err}
use Rattle.refusals.specs.declared.Refusal.{Refusal}
use Rattle.refusals.specs.Numbers.{number_of}
use Rattle.pages.specs.Sizes.{TABLE_WORDS}
use Rattle.pages.specs.Refusals.{ACCEPTED, TABLE_TOO_SHORT, TABLE_NOT_SOUND}
use Rattle.pages.specs.Layout.{table_in}
use Rattle.pages.specs.Sound.{sound}
use Rattle.soundness.specs.declared.Checked.{Checked}

-- what C gets of what check returns
abbrev pub checked_of : Result ℕ Refusal → Checked
checked_of (Ok pieces) = record { refusal = ACCEPTED; pieces = pieces }
checked_of (Err why) = record { refusal = number_of why; pieces = 0 }

-- "check 1, 6, and otherwise the piece count"
unfoldable pub check_call : List ℕ → Checked
unfolding sound table_in
check_call w =
    cond (ltb (length w) TABLE_WORDS) (record { refusal = TABLE_TOO_SHORT; pieces = 0 })
    (cond (sound w) (record { refusal = ACCEPTED; pieces = (table_in w).count }) (record { refusal = TABLE_NOT_SOUND; pieces = 0 }))
