-- What the buffer of lines holds while a job is answered.
use Rattle.std.specs.Prelude.{ℕ, zero, suc, ◌+◌, ◌≡◌, cond, List, [], ◌++◌, length, leb, Option, Some, None}
use Rattle.job.specs.Sizes.{LINE_BYTES}
use Rattle.job.specs.Output.{bad_job}
use Rattle.job.specs.Words.{piece_count, query_count, output}
use Rattle.job.specs.declared.Job.{Job}
use Rattle.job.specs.Steps.{piece_line_at, query_line_at}

-- what a buffer of `size` bytes still holds before the next line: nothing where that might not fit, since all was written
unfoldable pub kept : ℕ → List ℕ → List ℕ
kept size before = cond (leb (length before + LINE_BYTES) size) before []

-- what it holds after n lines more
unfoldable pub held : ℕ → List ℕ → (ℕ → List ℕ) → ℕ → List ℕ
unfolding kept
held size before line zero = before
held size before line (suc n) = kept size (held size before line n) ++ line n

-- after the pieces, and after the queries too
unfoldable pub held_pieces : ℕ → List ℕ → List ℕ
unfolding held piece_line_at
held_pieces size b = held size [] (piece_line_at b) (piece_count b)

unfoldable pub held_queries : ℕ → List ℕ → List ℕ
unfolding held_pieces query_line_at
held_queries size b = held size (held_pieces size b) (query_line_at b) (query_count b)

-- what a job that was read prints, and bytes that are none
abbrev pub output_of : Option Job → List ℕ
output_of None = bad_job
output_of (Some job) = output job.bytes.now

-- what the buffer holds in the end
abbrev pub held_at_end : ℕ → Option Job → List ℕ
held_at_end size None = bad_job
held_at_end size (Some job) = held_queries size job.bytes.now

-- The text ends with what the buffer holds; `sent` is some list, all of the text before that. `Printed` speaks of a writer whose contents
-- std knows; what reaches a file descriptor is run.
pub record Gathered (text buffer : List ℕ) : Type 0 where
  pub sent : List ℕ
  pub whole : text ≡ sent ++ buffer
