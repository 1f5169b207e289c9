use Rattle.std.proofs.Common.{subst}
use Rattle.http_jobs.specs.declared.answers.Received.{Received}
use Rattle.http_jobs.specs.Exchange.{IsReceived}
use Rattle.http_jobs.proofs.Meanwhile.{refusal_by}
use Rattle.http_jobs.proofs.answers.refusal_from.Goals as goal

pub returns-in-Whole-clause-received : goal.returns-in-Whole-clause-received
returns-in-Whole-clause-received c limits bounds first now h =
    let read = rw c.in-Ok.is at h in
    refusal_by c.refusal_in.result c.in-Whole.answer c.in-Ok.receipt.came c.refusal_in.ensures.is_answer c.refusal_in.ensures.success limits bounds first now (record {
      seen = read.seen;
      has_seen = read.has_seen;
      received = subst (λ (r : Received). IsReceived limits bounds.max_body read.seen.read r) c.in-Whole.is read.received;
      came = read.came;
    })

pub returns-in-Err-clause-received : goal.returns-in-Err-clause-received
returns-in-Err-clause-received c limits bounds first now h =
    let none = rw c.in-Err.is at h in
    record {
      seen = none.seen;
      sees = none.sees;
      why = c.not_refused.ensures.refused limits bounds.max_body bounds.deadline none.seen first.input now.input none.why.0;
      came = c.not_refused.ensures.came _ none.why.1;
    }
