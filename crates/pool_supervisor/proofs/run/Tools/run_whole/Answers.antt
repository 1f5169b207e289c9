use Rattle.std.proofs.Common.{[], subst}
use Rattle.std.specs.Prelude.{IfOk}
use Rattle.pool_settings.specs.Settings.{Settings}
use Rattle.pool_supervisor.specs.declared.attempts.Until.{Until}
use Rattle.pool_supervisor.specs.Runs.{IsRun}
use Rattle.pool_supervisor.specs.Sessions.{HadJobs}
use Rattle.pool_supervisor.proofs.run.Tools.run_whole.Goals as goal

pub returns : goal.returns
returns g c =
    let had = HadJobs g.J.Jobs.Jobs.tells g.J.Jobs.Jobs.fails g.J.Jobs.Jobs.prepares (g.J.JobSource.gives c.args.lent.jobs.now) (g.J.JobSource.denies c.args.lent.jobs.now) in
    let called = g.Y.Dial.calls c.args.self.dial in
    let made = c.in_ok-made.made in
    let of_settings =
    subst (λ (s : Settings). IfOk c.run-ran.result (λ e. IsRun s (g.J.JobSource.allows c.args.lent.jobs.now) had made.lines.until [] e.0 [] called (g.Y.Dial.calls e.1))) c.in_ok-made.ensures.settings c.run-ran.ensures.runs
    in
    record {
      runs = subst (λ (u : Until). IfOk c.run-ran.result (λ e. IsRun c.args.self.settings.now (g.J.JobSource.allows c.args.lent.jobs.now) had u [] e.0 [] called (g.Y.Dial.calls e.1))) c.in_ok-made.ensures.until of_settings;
    }
