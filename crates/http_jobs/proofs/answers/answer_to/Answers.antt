use Rattle.std.proofs.Common.{◌∙◌, ◌+◌, ◌≡◌, ◌≤◌, [], ap, arith, length, subst, sym, ℕ}
use Rattle.std.proofs.lemmas.Result.{err_from_is_err_and}
use Rattle.byte_io.specs.Sides.{Output}
use Rattle.job_runner.specs.Run.{seen_link}
use Rattle.http_jobs.specs.Meanwhile.{moment}
use Rattle.http_jobs.specs.Response.{head_limits}
use Rattle.http_jobs.proofs.Exchanges.{nothing, sees_nothing}
use Rattle.http_jobs.proofs.Meanwhile.{read_nothing}
use Rattle.http_jobs.proofs.Refusals.{by_none, by_receipt, by_refusal, unfailed}
use Rattle.http_jobs.proofs.answers.answer_to.Goals as goal

pub returns-in_err-request-clause-answered : goal.returns-in_err-request-clause-answered
returns-in_err-request-clause-answered g c =
    let p = err_from_is_err_and c.from_residual.result c.from_residual.ensures.1 in
    (nothing, sees_nothing (g.L.Device.input c.args.link.now) (g.C.Clock.shown c.args.clock.now), rw p.1 tt, rw (p.1, p.2) (tt, tt))

pub send_request-requires-clause-reading : goal.send_request-requires-clause-reading
send_request-requires-clause-reading g c =
    let first = moment (g.L.Device.input c.args.link.now) (g.C.Clock.shown c.args.clock.now) in
    let asks = c.in_ok-request.ensures in
    let e = c.new-reader.ensures in
    let start = read_nothing head_limits c.new-client.result c.encode_post.new.client c.args.bounds.deadline first c.new-reader.result c.new-client.ensures asks.asked asks.reads e.client e.unread e.at e.status e.body e.came in
    (subst (λ (n : ℕ). n ≤ length c.new-reader.result.unread.items) (sym e.at) (omega arith), (head_limits, [], start.partway, start.wants))

pub returns-in-Err-clause-answered : goal.returns-in-Err-clause-answered
returns-in-Err-clause-answered g c =
    let first = moment (g.L.Device.input c.args.link.now) (g.C.Clock.shown c.args.clock.now) in
    let asks = c.in_ok-request.ensures in
    let e = c.new-reader.ensures in
    let start = read_nothing head_limits c.new-client.result c.encode_post.new.client c.args.bounds.deadline first c.new-reader.result c.new-client.ensures asks.asked asks.reads e.client e.unread e.at e.status e.body e.came in
    let seen = seen_link g.L.Device.input g.L.Device.output in
    let shown = g.C.Clock.shown in
    by_none c.args.bounds (seen c.args.link.now) (seen c.send_request.new.link) (shown c.args.clock.now) (shown c.send_request.new.clock) c.in-Err.e (c.in-Err.ensures.read head_limits first nothing start)

pub returns-in-Ok-read-clause-answered : goal.returns-in-Ok-read-clause-answered
returns-in-Ok-read-clause-answered g c =
    let first = moment (g.L.Device.input c.args.link.now) (g.C.Clock.shown c.args.clock.now) in
    let asks = c.in_ok-request.ensures in
    let e = c.new-reader.ensures in
    let start = read_nothing head_limits c.new-client.result c.encode_post.new.client c.args.bounds.deadline first c.new-reader.result c.new-client.ensures asks.asked asks.reads e.client e.unread e.at e.status e.body e.came in
    let seen = seen_link g.L.Device.input g.L.Device.output in
    let shown = g.C.Clock.shown in
    let read = c.in-Ok.ensures.read head_limits first nothing start in
    by_receipt c.args.bounds (seen c.args.link.now) (seen c.receive_rest-read.new.link) (shown c.args.clock.now) (shown c.receive_rest-read.new.clock) c.in-Ok-read.receipt (c.in-Ok-read.ensures.received head_limits first read)

pub returns-in-Ok-read-clause-no_failure : goal.returns-in-Ok-read-clause-no_failure
returns-in-Ok-read-clause-no_failure g c =
    let first = moment (g.L.Device.input c.args.link.now) (g.C.Clock.shown c.args.clock.now) in
    let asks = c.in_ok-request.ensures in
    let e = c.new-reader.ensures in
    let start = read_nothing head_limits c.new-client.result c.encode_post.new.client c.args.bounds.deadline first c.new-reader.result c.new-client.ensures asks.asked asks.reads e.client e.unread e.at e.status e.body e.came in
    let read = c.in-Ok.ensures.read head_limits first nothing start in
    let receipt = c.in-Ok-read.ensures.received head_limits first read in
    receipt.has_seen.unfailed

pub returns-in-Whole-clause-answered : goal.returns-in-Whole-clause-answered
returns-in-Whole-clause-answered g c =
    let first = moment (g.L.Device.input c.args.link.now) (g.C.Clock.shown c.args.clock.now) in
    let asks = c.in_ok-request.ensures in
    let e = c.new-reader.ensures in
    let start = read_nothing head_limits c.new-client.result c.encode_post.new.client c.args.bounds.deadline first c.new-reader.result c.new-client.ensures asks.asked asks.reads e.client e.unread e.at e.status e.body e.came in
    let seen = seen_link g.L.Device.input g.L.Device.output in
    let shown = g.C.Clock.shown in
    let read = c.in-Ok.ensures.read head_limits first nothing start in
    by_none c.args.bounds (seen c.args.link.now) (seen c.receive_rest-read.new.link) (shown c.args.clock.now) (shown c.receive_rest-read.new.clock) c.in-Err-read.e (c.in-Err-read.ensures.received head_limits first read)

pub returns-clause-answered : goal.returns-clause-answered
returns-clause-answered g c =
    let first = moment (g.L.Device.input c.args.link.now) (g.C.Clock.shown c.args.clock.now) in
    let asks = c.in_ok-request.ensures in
    let e = c.new-reader.ensures in
    let start = read_nothing head_limits c.new-client.result c.encode_post.new.client c.args.bounds.deadline first c.new-reader.result c.new-client.ensures asks.asked asks.reads e.client e.unread e.at e.status e.body e.came in
    let seen = seen_link g.L.Device.input g.L.Device.output in
    let shown = g.C.Clock.shown in
    let read = c.in-Ok.ensures.read head_limits first nothing start in
    let last = moment (g.L.Device.input c.receive_rest-read.new.link) (g.C.Clock.shown c.receive_rest-read.new.clock) in
    let got = c.refusal_from.ensures.received head_limits c.args.bounds first last (c.receive_rest-read.ensures.received head_limits first read) in
    let went = rw c.in-Cut.is at c.in-Ok.ensures.went in
    let one : (g.L.Device.output c.receive_rest-read.new.link).failures ≡ (g.L.Device.output c.args.link.now).failures + 1 = ap (λ (o : Output). o.failures) c.receive_rest-read.ensures.output ∙ went.1 in
    by_refusal c.args.bounds (seen c.args.link.now) (seen c.receive_rest-read.new.link) (shown c.args.clock.now) (shown c.receive_rest-read.new.clock) c.refusal_from.result one got

pub returns-clause-no_failure : goal.returns-clause-no_failure
returns-clause-no_failure g c =
    let first = moment (g.L.Device.input c.args.link.now) (g.C.Clock.shown c.args.clock.now) in
    let asks = c.in_ok-request.ensures in
    let e = c.new-reader.ensures in
    let start = read_nothing head_limits c.new-client.result c.encode_post.new.client c.args.bounds.deadline first c.new-reader.result c.new-client.ensures asks.asked asks.reads e.client e.unread e.at e.status e.body e.came in
    let read = c.in-Ok.ensures.read head_limits first nothing start in
    let last = moment (g.L.Device.input c.receive_rest-read.new.link) (g.C.Clock.shown c.receive_rest-read.new.clock) in
    let got = c.refusal_from.ensures.received head_limits c.args.bounds first last (c.receive_rest-read.ensures.received head_limits first read) in
    unfailed c.args.bounds first last c.refusal_from.result got
