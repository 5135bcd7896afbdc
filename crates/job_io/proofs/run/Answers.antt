-- Fewer bytes than fill the slice are the input; those that fill it are too many for a job. After a failed read no job was read.
use Rattle.std.proofs.Common.{arith, ◌∙◌, ap, take, length-take-le, subst}
use Rattle.std.specs.Io.KnownBytes.{Appends}
use Rattle.job_io.specs.Gathered.{output_of}
use Rattle.job_io.proofs.Gathered.{printed, printed_failed, read_prints}
use Rattle.std.proofs.lemmas.Result.{IfOk-weaker}
use Rattle.job_io.proofs.run.Goals.{in-Ok, in-Err}
use Rattle.job_io.proofs.run.Goals as goal

pub returns : goal.returns
returns g c =
    IfOk-weaker c.print_job.result _ _
    (λ _ text. elim c.match-read_all.branch [
      | in-Ok w ↦
          let read = w.in-Ok.ensures in
          printed (take w.in-Ok.n c.read_all.new.bytes) _ _ _ _ _ read.read
          (λ h. read.end (omega (arith, h, length-take-le w.in-Ok.n c.read_all.new.bytes read.within, c.read_all.auto.bytes)))
          (subst (Appends _ _) (ap output_of w.job-is ∙ read_prints _ _ w.read-job.ensures.some w.read-job.ensures.same) text)
      | in-Err w ↦ printed_failed _ _ _ _ w.in-Err.ensures.failure (subst (Appends _ _) (ap output_of w.job-is) text)
    ])
    c.print_job.ensures
