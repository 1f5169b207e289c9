use Rattle.std.proofs.Common.{subst}
use Rattle.std.specs.Prelude.{IfErr, IfOk}
use Rattle.gear_packets.specs.Reading.{job_of}
use Rattle.http_jobs.specs.Response.{reply_of}
use Rattle.http_jobs.specs.Serving.{AnsweredNew, UnansweredNew, failed_over_new, first_by, over_new, visible}
use Rattle.http_jobs.proofs.Uses.{if_err_both, if_ok_both}
use Rattle.http_jobs.proofs.service_jobs.ServiceJobs.serve_from.Goals as goal

pub returns-in_default-clause-answered : goal.returns-in_default-clause-answered
returns-in_default-clause-answered g c =
    let begun = visible g.L.Device.input g.L.Device.output g.L.Look.quiet c.reuse.new.self.kept (g.D.Dial.calls c.reuse.new.self.dial) (g.C.Clock.shown c.reuse.new.self.clock) in
    let answered = subst (λ s. IfOk c.serve_new.result (λ reply. AnsweredNew s (first_by c.args.start.deadline)
    begun
    (visible g.L.Device.input g.L.Device.output g.L.Look.quiet c.serve_new.new.self.kept (g.D.Dial.calls c.serve_new.new.self.dial) (g.C.Clock.shown c.serve_new.new.self.clock))
    (job_of c.args.job.now) (reply_of reply))) c.reuse.ensures.service c.serve_new.ensures.answered in
    if_ok_both _ _ c.serve_new.result (λ reply done. over_new begun (c.reuse.ensures.dropped c.in_default.is) done) answered

pub returns-in_default-clause-unanswered : goal.returns-in_default-clause-unanswered
returns-in_default-clause-unanswered g c =
    let begun = visible g.L.Device.input g.L.Device.output g.L.Look.quiet c.reuse.new.self.kept (g.D.Dial.calls c.reuse.new.self.dial) (g.C.Clock.shown c.reuse.new.self.clock) in
    let unanswered = subst (λ s. IfErr c.serve_new.result (UnansweredNew s (first_by c.args.start.deadline)
    begun
    (visible g.L.Device.input g.L.Device.output g.L.Look.quiet c.serve_new.new.self.kept (g.D.Dial.calls c.serve_new.new.self.dial) (g.C.Clock.shown c.serve_new.new.self.clock))
    (job_of c.args.job.now))) c.reuse.ensures.service c.serve_new.ensures.unanswered in
    if_err_both _ _ c.serve_new.result (λ e done. failed_over_new begun (c.reuse.ensures.dropped c.in_default.is) done) unanswered
