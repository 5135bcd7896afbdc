-- Demand 2, from the laws of an accepted query.
use lib.ListN.{length}
use Rattle.query.specs.Demand2.{Demand2}
use Rattle.query.proofs.Accepted.{Good, good-call, answer-is, listed, listing-rises, root_opened, child-opened, opened-pages, opened-apart, opened-most, none-listed, root-only}

pub demand2 : Demand2
demand2 w q clauses answer e =
    let g : Good w q clauses (length answer) = good-call w q clauses answer e in
    record {
      answered = answer-is w q clauses answer g;
      exactly = listed w q clauses (length answer) g;
      rising = listing-rises w q clauses (length answer) g;
      root = root_opened w q clauses (length answer) g;
      below = child-opened w q clauses (length answer) g;
      pages = opened-pages w q clauses (length answer) g;
      once = opened-apart w q clauses (length answer) g;
      most = opened-most w q clauses (length answer) g;
      empty = λ z. (none-listed w q clauses (length answer) g z, root-only w q clauses (length answer) g z);
    }
