-- The claims about whole jobs hold.
use Rattle.job.specs.Claims.{Claims}
use Rattle.job.proofs.InOrder.{in-order, bad}
use Rattle.job.proofs.Format.{read_back}
use Rattle.job.proofs.Accepted.{written}

pub claimed : Claims
claimed = record { read = read_back; written = written; in_order = in-order; bad = bad }
