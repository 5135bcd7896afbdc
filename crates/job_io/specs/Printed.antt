-- What a run writes, where std says which bytes a reader has left and which a writer holds.
use Rattle.std.specs.Prelude.{ℕ, ◌⊎◌, List, IfSome}
use Rattle.std.specs.declared.option.Option.{Option}
use Rattle.std.specs.Io.KnownBytes.{Appends}
use Rattle.job.specs.Output.{bad_job}
use Rattle.job.specs.Words.{output}

-- The output of the input; or, only after a failed read, what a bad job prints. `run` is proved for whatever `failed` is, so that only a
-- `read_some` that gave an error can give it. It does not say when that gives one: std lets any read fail, and `failed` of its readers is ⊤.
abbrev pub Printed : Option (List ℕ) → Type 0 → Option (List ℕ) → Option (List ℕ) → Type 0
Printed input failed old new = IfSome input (λ b. Appends old new (output b) ⊎ (failed × Appends old new bad_job))
