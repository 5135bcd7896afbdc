-- A job gives the lines of its pieces and of its queries.
use Rattle.std.proofs.lemmas.Result.{IfOk-weaker}
use Rattle.job_io.specs.declared.TheConstants.{BUFFER_BYTES}
use Rattle.job_io.proofs.Gathered.{good-end, all-good}
use Rattle.job_io.proofs.answer_job.Goals as goal

pub returns-clause-gathered : goal.returns-clause-gathered
returns-clause-gathered g c = let job = c.in-Some.job in
    rw c.in-Some.is (IfOk-weaker c.answer_queries.result _ _ (λ _ h. good-end BUFFER_BYTES job.bytes.now c.answer_queries.new.out.lines job.whole h) c.answer_queries.ensures.held)

pub returns-clause-all : goal.returns-clause-all
returns-clause-all g c = let job = c.in-Some.job in
    rw c.in-Some.is
    (IfOk-weaker c.answer_queries.result _ _
    (λ _ h. all-good g.W.Write.contents job.bytes.now _ _ _ job.whole c.in_ok-place_pieces.ensures.all h)
    c.answer_queries.ensures.all)
