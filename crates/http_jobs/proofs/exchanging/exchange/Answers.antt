use Rattle.std.proofs.Common.{◌≡◌, ◌∙◌, ℕ, ap, sym, subst, subst₂}
use Rattle.std.proofs.lemmas.Result.{err_from_is_err_and}
use Rattle.http1.specs.Head.{pairs}
use Rattle.gear_packets.specs.Reading.{job_of}
use Rattle.http_jobs.specs.Exchange.{IsDone}
use Rattle.http_jobs.specs.Post.{CanBeSent}
use Rattle.http_jobs.specs.Request.{headers_of, target_of}
use Rattle.http_jobs.specs.Response.{head_limits}
use Rattle.http_jobs.proofs.Accepted.{job_can_be_sent}
use Rattle.http_jobs.proofs.Exchanges.{sees_nothing, nothing}
use Rattle.http_jobs.proofs.exchanging.exchange.Goals as goal

pub returns-in_err-target-clause-exchanged : goal.returns-in_err-target-clause-exchanged
returns-in_err-target-clause-exchanged g c =
    let p = err_from_is_err_and c.from_residual.result c.from_residual.ensures.1 in
    (nothing, sees_nothing (g.L.Device.input c.args.link.now) (g.C.Clock.shown c.args.clock.now), rw p.1 tt, rw (p.1, p.2) (tt, tt))

pub returns-in_err-headers-clause-exchanged : goal.returns-in_err-headers-clause-exchanged
returns-in_err-headers-clause-exchanged g c =
    let p = err_from_is_err_and c.from_residual-in_err-headers.result c.from_residual-in_err-headers.ensures.1 in
    (nothing, sees_nothing (g.L.Device.input c.args.link.now) (g.C.Clock.shown c.args.clock.now), rw p.1 tt, rw (p.1, p.2) (tt, tt))

pub answer_to-requires-clause-sendable : goal.answer_to-requires-clause-sendable
answer_to-requires-clause-sendable g c =
    let service = c.args.service.now in
    let job = job_of c.args.job.now in
    let same_target : c.as_bytes.result.now ≡ target_of service job = c.as_bytes.ensures.value ∙ c.in_ok-target.ensures in
    let same_headers : pairs c.as_slice.result.now ≡ headers_of service job c.args.sending.attempt = ap pairs c.as_slice.ensures.value ∙ c.in_ok-headers.ensures in
    subst₂ CanBeSent (sym same_target) (sym same_headers) (job_can_be_sent service job c.args.sending.attempt service.hosted service.visible)

pub returns-clause-exchanged : goal.returns-clause-exchanged
returns-clause-exchanged g c =
    let got = c.in_ok-received.ensures.answered in
    let most = c.most_body.result in
    (got.0, got.1, got.2, subst (λ (n : ℕ). IsDone head_limits n got.0.read c.in_ok-done_of.field-0) c.most_body.ensures (c.in_ok-done_of.ensures.done head_limits most got.0.read got.3))
