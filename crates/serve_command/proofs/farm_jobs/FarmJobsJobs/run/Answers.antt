use Rattle.std.proofs.Common.{refl, ap, ◌∙◌}
use Rattle.std.specs.Result.{result_from_control_flow}
use Rattle.gear_packets.specs.Reading.{job_of}
use Rattle.http_jobs.specs.Serving.{visible}
use Rattle.serve_command.proofs.Kept.{failed_if_settled, heard, told_if_settled}
use Rattle.serve_command.proofs.farm_jobs.FarmJobsJobs.run.Goals as goal

pub returns-clause-tells : goal.returns-clause-tells
returns-clause-tells g c =
    let set = c.set_terms.ensures in
    let facts = c.terms.ensures in
    let name = c.deref-3.ensures.value in
    let is_ok = c.branch-done.ensures ∙ ap result_from_control_flow c.in_ok-done.is in
    let served = rw (set.service, set.terms, set.kept, set.dial, set.clock, facts, name) at c.serve-served.ensures.served in
    let failed = rw (set.service, set.terms, set.kept, set.dial, set.clock, facts, name) at c.serve-served.ensures.failed in
    let settled = rw (c.retries.ensures, c.deref-4.ensures.value) at c.settle-done.ensures in
    let farm = c.args.self.now.books.farm.now in
    let first = c.args.self.now.jobs in
    let last = c.serve-served.new.self in
    let before = visible g.H.Call.Device.input g.H.Call.Device.output g.H.Call.Look.quiet first.kept (g.H.Dials.Dial.calls first.dial) (g.H.Times.Clock.shown first.clock) in
    let after = visible g.H.Call.Device.input g.H.Call.Device.output g.H.Call.Look.quiet last.kept (g.H.Dials.Dial.calls last.dial) (g.H.Times.Clock.shown last.clock) in (
      refl,
      refl,
      refl,
      rw set.dial at c.serve-served.ensures.host,
      told_if_settled farm first.service before after (job_of c.args.job) c.serve-served.result c.settle-done.result c.in_ok-done.field-0 _ served failed settled is_ok c.outcome_in.ensures,
      (rw set.service at c.serve-served.ensures.service),
      (rw (set.terms, facts, name) at c.serve-served.ensures.terms),
    )

pub returns-in_err-done-clause-fails : goal.returns-in_err-done-clause-fails
returns-in_err-done-clause-fails g c =
    let set = c.set_terms.ensures in
    let facts = c.terms.ensures in
    let name = c.deref-3.ensures.value in
    let is_err = c.branch-done.ensures ∙ ap result_from_control_flow c.in_err-done.is in
    let was_err = failed_if_settled _ c.serve-served.result c.settle-done.result c.in_err-done.field-0.0 c.settle-done.ensures is_err in
    heard _ _ _ _ _ _ _ c.serve-served.result c.in_err-done.field-0.0 c.from_residual.result refl refl refl (rw set.dial at c.serve-served.ensures.host)
    (rw set.service at c.serve-served.ensures.service) (rw (set.terms, facts, name) at c.serve-served.ensures.terms)
    was_err c.from_residual.ensures.1
    (rw (set.service, set.terms, set.kept, set.dial, set.clock, facts, name) at c.serve-served.ensures.failed)
