-- What a part of a run prints: written, or gathered to be written.
use Rattle.std.specs.Prelude.{ℕ, ◌≡◌, List}
use Rattle.std.specs.declared.option.Option.{Option}
use Rattle.std.specs.Io.KnownBytes.{append_known, Appends}
use Rattle.job_io.specs.declared.Output.{Output}

-- The writer is the same, and `text` stands behind what it had and what was gathered.
pub record Prints {W : Type 0} (contents : W → Option (List ℕ)) (before after : Output W) (text : List ℕ) : Type 0 where
  pub same_writer : after.to.ghost_name ≡ before.to.ghost_name
  pub all : Appends (append_known (contents before.to.now) before.lines) (append_known (contents after.to.now) after.lines) text
