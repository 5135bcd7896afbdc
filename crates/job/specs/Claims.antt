-- What is shown of whole jobs: the format, and that the lines of the functions are the output.
use Rattle.std.specs.Prelude.{ℕ, ◌≤◌, ◌<◌, ◌≡◌, false, List, ◌++◌, length, get_or, T}
use Rattle.job.specs.Sizes.{JOB_BYTES, BYTE_VALUES, WORD_VALUES}
use Rattle.job.specs.Job.{Job, job_words, job_bytes}
use Rattle.job.specs.Output.{bad_job}
use Rattle.job.specs.Words.{piece_count, query_count, job_in, well_formed, output}
use Rattle.job.specs.Steps.{piece_line_at, query_line_at, lines_to}

-- each is a byte; each is a 32-bit word
abbrev pub Bytes : List ℕ → Type 0
Bytes b = (i : ℕ) → get_or b i 0 < BYTE_VALUES

abbrev pub Words : List ℕ → Type 0
Words ws = (i : ℕ) → get_or ws i 0 < WORD_VALUES

pub record Claims : Type 0 where
  -- well-formed bytes are the bytes of a job, the one that is read from them: "exactly that"
  pub read : (b : List ℕ) → Bytes b → T (well_formed b) → job_bytes (job_in b) ≡ b
  -- the bytes of every job of 32-bit words that is not too long are well formed, and it is the one that is read from them
  pub written : (j : Job) → Words (job_words j) → length (job_bytes j) ≤ JOB_BYTES → T (well_formed (job_bytes j)) × (job_in (job_bytes j) ≡ j)
  -- the lines that `Job::place_piece` and `Query::answer` give, in order, are the output of a well-formed job
  pub in_order : (b : List ℕ) → T (well_formed b) → output b ≡ lines_to (piece_line_at b) (piece_count b) ++ lines_to (query_line_at b) (query_count b)
  -- what `bad_job` writes is the output of any other bytes
  pub bad : (b : List ℕ) → well_formed b ≡ false → output b ≡ bad_job
