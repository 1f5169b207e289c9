use Rattle.std.proofs.Common.{◌∙◌, ap, sym}
use Rattle.std.specs.Option.{option_and_then, option_map}
use Rattle.job_runner.specs.Run.{seen_link}
use Rattle.http_jobs.specs.Request.{has_no_path}
use Rattle.http_jobs.proofs.service_jobs.ServiceJobs.serve.Goals as goal

pub returns-in-Ok-clause-served : goal.returns-in-Ok-clause-served
returns-in-Ok-clause-served g c =
    let start = c.start-start.ensures.shown in
    let stays = c.start-start.ensures in (
      ap has_no_path (sym c.as_slice.ensures.value) ∙ sym c.has_no_path.ensures ∙ c.if-has_no_path.false,
      (
        start.0,
        _,
        (ap (option_map (seen_link g.L.Device.input g.L.Device.output)) stays.kept, ap (option_and_then g.L.Look.quiet) stays.kept, ap (λ d. g.D.Dial.calls d) stays.dial, start.1),
        rw (sym start.2, sym stays.service, sym stays.terms) c.in-Ok.ensures.answered,
      ),
    )

pub returns-in-Err-clause-failed : goal.returns-in-Err-clause-failed
returns-in-Err-clause-failed g c =
    let start = c.start-start.ensures.shown in
    let stays = c.start-start.ensures in (
      start.0,
      _,
      (ap (option_map (seen_link g.L.Device.input g.L.Device.output)) stays.kept, ap (option_and_then g.L.Look.quiet) stays.kept, ap (λ d. g.D.Dial.calls d) stays.dial, start.1),
      rw (sym start.2, sym stays.service, sym stays.terms) c.in-Err.ensures.unanswered,
    )
