use Rattle.std.proofs.Common.{◌<◌, subst, sym}
use Rattle.job_runner.specs.Run.{seen_link}
use Rattle.pool_settings.specs.Settings.{Settings}
use Rattle.pool_settings.specs.Slots.{slots}
use Rattle.worker_state.specs.declared.slot.WorkerName.{WorkerName}
use Rattle.pool_supervisor.specs.Sessions.{IsPast}
use Rattle.pool_supervisor.proofs.Sessions.{is_past}
use Rattle.pool_supervisor.proofs.ended.EndedSession.of.Goals as goal

pub returns-clause-past : goal.returns-clause-past
returns-clause-past g c =
    let see = seen_link g.L.Device.input g.L.Device.output in
    let same = c.args.site.now.run.settings_are in
    let known = subst (λ (s : Settings). c.args.papers.worker.pass.slot < slots s) same c.requires.slot in
    let end = c.run_worker-returned.result.end in
    let past = is_past see _ _ _ _ _ g.N.RunId.had_jobs g.N.RunId.settings c.args.site.now.run.settings.now c.args.papers.worker.pass end _ _ _ c.requires.source same known c.requires.fresh c.run_worker-returned.ensures.served in
    let linked = subst (λ link. IsPast g.N.RunId.settings g.N.RunId.had_jobs c.args.papers.worker.pass end (see link)) (sym c.of.ensures) past in
    subst (λ (w : WorkerName). IsPast g.N.RunId.settings g.N.RunId.had_jobs w end (see c.of.result.value)) (sym c.name-worker.ensures) linked
