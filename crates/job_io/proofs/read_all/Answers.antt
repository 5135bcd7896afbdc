-- A read takes what it gives, behind what was read.
use Rattle.std.proofs.Common.{rules, sym, subst}
use Rattle.std.specs.Io.KnownBytes.{Consumes}
use Rattle.std.proofs.KnownBytes.{Consumes-trans}
use Rattle.job_io.proofs.Gathered.{take-more}
use Rattle.job_io.proofs.read_all.Goals as goal

pub loop-n-preserved : goal.loop-n-preserved
loop-n-preserved g c =
    let read = c.in_ok-more.ensures in (
      search rules,
      search rules,
      subst (Consumes _ _) (sym (take-more _ _ _ _ _ c.loop-n.invariant.0 read.bound.0)) (Consumes-trans _ _ _ _ _ c.loop-n.invariant.2 read.bytes.0),
    )
