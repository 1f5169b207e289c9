use Rattle.std.proofs.Common.{◌≡◌, ◌∙◌, List, [], ap, subst}
use Rattle.http_jobs.specs.Serving.{visible}
use Rattle.pool_settings.specs.Settings.{Settings}
use Rattle.pool_supervisor.specs.Runs.{AreOfOneHistory}
use Rattle.pool_supervisor.specs.FarmPosts.{TellFarm}
use Rattle.pool_supervisor.specs.Sessions.{AllHad, AreSums, PastSession}
use Rattle.pool_supervisor.specs.Tries.{joined_by}
use Rattle.pool_supervisor.specs.declared.attempt.Attempt.{Attempt}
use Rattle.pool_supervisor.specs.declared.run_end.RunEnd.{RunEnd}
use Rattle.serve_command.specs.Farm.{Farm}
use Rattle.serve_command.specs.ServiceJobs.{HadServiceJobs}
use Rattle.serve_command.proofs.ServiceJobs.{Parts, had_service_jobs}
use Rattle.serve_command.proofs.serving.run_until_end.Goals as goal

-- a run of the farm, by settings that are its own
abbrev FarmRunBy : Settings → Farm → RunEnd → Type 0
FarmRunBy settings farm ended =
    (lines : List Attempt) × TellFarm settings [] lines [] × AreOfOneHistory settings ended.totals ended.chapters lines
    × (sessions : List PastSession) × AreSums settings sessions ended × AllHad (HadServiceJobs farm) sessions

pub returns : goal.returns
returns g c =
    let run = c.in_ok-run.ensures in
    let dials = run.attempts.2 in
    let sessions = joined_by dials.attempts.tries dials.last.sessions in
    let parts : Parts _ _ = record {
      farm = λ j. j.books.farm;
      worker = λ j. j.worker;
      machine = λ j. j.machine;
      now = λ f. f.now;
      service = λ j. j.jobs.service;
      terms = λ j. j.jobs.terms;
      host = λ j. g.H.Dials.Dial.host j.jobs.dial;
      see = λ j. visible g.H.Call.Device.input g.H.Call.Device.output g.H.Call.Look.quiet j.jobs.kept (g.H.Dials.Dial.calls j.jobs.dial) (g.H.Times.Clock.shown j.jobs.clock);
    } in
    let had = had_service_jobs parts c.args.farm _ _ sessions dials.jobs (λ worker given is. (is.0, is.1, is.2)) in
    let same : c.in_ok-settings.settings ≡ c.args.farm.now.settings = c.in_ok-settings.ensures.equal ∙ ap (λ (f : Farm). f.settings) c.farm.view_is in
    subst (λ (s : Settings). FarmRunBy s c.args.farm.now c.in_ok-run.run') same (run.attempts.0, run.attempts.1, run.attempts.3, sessions, dials.sums, had)
