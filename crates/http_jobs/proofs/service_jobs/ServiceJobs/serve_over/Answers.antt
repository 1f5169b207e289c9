use Rattle.std.proofs.Common.{◌∙◌, ap, subst}
use Rattle.gear_packets.specs.Reading.{job_of}
use Rattle.byte_io.specs.Sides.{Input, Output, and_then}
use Rattle.job_runner.specs.Run.{Link, seen_link}
use Rattle.std.specs.Prelude.{take}
use Rattle.http_jobs.specs.Exchange.{ExplainsUnanswered, IsRefusal, Sends}
use Rattle.http_jobs.specs.Request.{most_body, request_of}
use Rattle.http_jobs.specs.Response.{reply_of}
use Rattle.http_jobs.proofs.Uses.{same_link}
use Rattle.http_jobs.proofs.service_jobs.ServiceJobs.serve_over.Goals as goal

pub returns-in-Ok-clause-answered : goal.returns-in-Ok-clause-answered
returns-in-Ok-clause-answered g c =
    let input = g.L.Device.input in
    let output = g.L.Device.output in
    let request = request_of c.args.self.now.service (job_of c.args.job.now) c.args.sending.attempt in
    let ex = c.in-Ok.ensures.exchanged in
    let left = c.leave.ensures.leaves in
    let refused = IsRefusal (reply_of c.in-Ok.done.reply) c.in-Ok.done.is_kept in
    let sends : Sends request (output c.args.link) (output c.exchange.new.link) refused =
    subst (λ (o : Output). Sends request o (output c.exchange.new.link) refused) c.limit_untimed.ensures.output c.in-Ok.ensures.request in
    record {
      is_kept = c.in-Ok.done.is_kept;
      sent = sends.0;
      seen = ex.0;
      after = seen_link input output c.exchange.new.link;
      carries = record {
        last = left.0;
        given = ex.1.0 ∙ ap (λ (i : Input). and_then i.given ex.0.read) c.limit_untimed.ensures.input;
        got = sends.1;
        leaves = left.2;
        calls = left.1;
        shown = ap (λ k. g.C.Clock.shown k) c.leave.ensures.clock ∙ ex.1.2;
      };
      is_sent = sends.2;
      in_time = ex.2;
      answered = ex.3;
    }

pub returns-in-Err-clause-unanswered : goal.returns-in-Err-clause-unanswered
returns-in-Err-clause-unanswered g c =
    let input = g.L.Device.input in
    let output = g.L.Device.output in
    let job = job_of c.args.job.now in
    let request = request_of c.args.self.now.service job c.args.sending.attempt in
    let ex = c.in-Err.ensures.exchanged in
    let left = c.leave-in-Err.ensures.leaves in
    let prefix = c.exchange.ensures.prefix in
    record {
      count = prefix.0;
      seen = ex.0;
      after = seen_link input output c.exchange.new.link;
      carries = record {
        last = left.0;
        given = ex.1.0 ∙ ap (λ (i : Input). and_then i.given ex.0.read) c.limit_untimed.ensures.input;
        got = prefix.1 ∙ ap (λ (o : Output). and_then o.got (take prefix.0 request)) c.limit_untimed.ensures.output;
        leaves = left.2;
        calls = left.1;
        shown = ap (λ k. g.C.Clock.shown k) c.leave-in-Err.ensures.clock ∙ ex.1.2;
      };
      explained = subst (λ (before : Link). ExplainsUnanswered (most_body job) c.args.sending.deadline ex.0 before (seen_link input output c.exchange.new.link) c.in-Err.e)
          (same_link _ _ _ _ c.limit_untimed.ensures.input c.limit_untimed.ensures.output) ex.3;
    }
