use Rattle.std.proofs.Common.{◌∙◌, ap, refl, subst, sym}
use Rattle.std.specs.Prelude.{IfErr, IfOk}
use Rattle.gear_packets.specs.Reading.{job_of}
use Rattle.job_runner.specs.Run.{seen_link}
use Rattle.http_jobs.specs.declared.service_jobs.Resend.{Resend}
use Rattle.http_jobs.specs.Response.{reply_of}
use Rattle.http_jobs.specs.Serving.{AnsweredNew, UnansweredAgain, failed_again, failed_over_kept, is_sent_again, over_kept, second_by, sent_again, too_late, visible}
use Rattle.http_jobs.proofs.Uses.{if_err_both, if_ok_both}
use Rattle.http_jobs.proofs.service_jobs.ServiceJobs.serve_kept.Goals as goal

pub returns-in-Ok-clause-answered : goal.returns-in-Ok-clause-answered
returns-in-Ok-clause-answered g c = λ old takes. over_kept (seen_link g.L.Device.input g.L.Device.output c.args.link) _ takes c.in-Ok.ensures.answered

pub returns-then-not-is_sent_again-clause-unanswered :
    goal.returns-then-not-is_sent_again-clause-unanswered
returns-then-not-is_sent_again-clause-unanswered g c = λ old takes.
    let resend = ap (λ (r : Resend). is_sent_again r c.in-Err.unanswered) (ap (λ t. t.resend) c.serve_over.ensures.terms) in
    failed_over_kept (seen_link g.L.Device.input g.L.Device.output c.args.link) _ c.in-Err.unanswered takes c.in-Err.ensures.unanswered
    (sym resend ∙ sym c.is_sent_again.ensures ∙ c.if-not-is_sent_again.true) c.from.ensures

pub returns-then-is_late-clause-unanswered : goal.returns-then-is_late-clause-unanswered
returns-then-is_late-clause-unanswered g c = λ old takes.
    let resend = ap (λ (r : Resend). is_sent_again r c.in-Err.unanswered) (ap (λ t. t.resend) c.serve_over.ensures.terms) in
    let look = c.is_late.ensures in
    too_late c.in-Err.unanswered look.0
    (seen_link g.L.Device.input g.L.Device.output c.args.link, _, _, takes, c.in-Err.ensures.unanswered, sym resend ∙ sym c.is_sent_again.ensures ∙ c.if-not-is_sent_again.false, (refl, refl, refl, look.1))
    (sym look.2 ∙ c.if-is_late.true) c.from-then-is_late.ensures

pub returns-clause-answered : goal.returns-clause-answered
returns-clause-answered g c = λ old takes.
    let resend = ap (λ (r : Resend). is_sent_again r c.in-Err.unanswered) (ap (λ t. t.resend) c.serve_over.ensures.terms) in
    let look = c.is_late.ensures in
    let answered = subst (λ s. IfOk c.serve_again.result (λ reply. AnsweredNew s (second_by c.args.deadline)
    (visible g.L.Device.input g.L.Device.output g.L.Look.quiet c.serve_over.new.self.kept (g.D.Dial.calls c.serve_over.new.self.dial) (g.C.Clock.shown c.is_late.new.clock))
    (visible g.L.Device.input g.L.Device.output g.L.Look.quiet c.serve_again.new.self.kept (g.D.Dial.calls c.serve_again.new.self.dial) (g.C.Clock.shown c.serve_again.new.self.clock))
    (job_of c.args.job.now) (reply_of reply))) c.serve_over.ensures.service c.serve_again.ensures.answered in
    if_ok_both _ _ c.serve_again.result (λ reply done. sent_again c.in-Err.unanswered look.0 _
    (seen_link g.L.Device.input g.L.Device.output c.args.link, _, _, takes, c.in-Err.ensures.unanswered, sym resend ∙ sym c.is_sent_again.ensures ∙ c.if-not-is_sent_again.false, (refl, refl, refl, look.1))
    (sym look.2 ∙ c.if-is_late.false) done) answered

pub returns-clause-unanswered : goal.returns-clause-unanswered
returns-clause-unanswered g c = λ old takes.
    let resend = ap (λ (r : Resend). is_sent_again r c.in-Err.unanswered) (ap (λ t. t.resend) c.serve_over.ensures.terms) in
    let look = c.is_late.ensures in
    let unanswered = subst (λ s. IfErr c.serve_again.result (UnansweredAgain s c.args.deadline c.in-Err.unanswered
    (visible g.L.Device.input g.L.Device.output g.L.Look.quiet c.serve_over.new.self.kept (g.D.Dial.calls c.serve_over.new.self.dial) (g.C.Clock.shown c.is_late.new.clock))
    (visible g.L.Device.input g.L.Device.output g.L.Look.quiet c.serve_again.new.self.kept (g.D.Dial.calls c.serve_again.new.self.dial) (g.C.Clock.shown c.serve_again.new.self.clock))
    (job_of c.args.job.now))) c.serve_over.ensures.service c.serve_again.ensures.unanswered in
    if_err_both _ _ c.serve_again.result (λ e done. failed_again c.in-Err.unanswered look.0 _
    (seen_link g.L.Device.input g.L.Device.output c.args.link, _, _, takes, c.in-Err.ensures.unanswered, sym resend ∙ sym c.is_sent_again.ensures ∙ c.if-not-is_sent_again.false, (refl, refl, refl, look.1))
    (sym look.2 ∙ c.if-is_late.false) done) unanswered
