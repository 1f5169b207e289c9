use Rattle.std.proofs.Common.{◌<◌, [], ◌∷◌, length, None, inl, refl, sym, ap, subst, arith}
use Rattle.gear_packets.specs.Reading.{message_of}
use Rattle.gear_packets.specs.Text.{assignments_in}
use Rattle.gear_packets.specs.declared.response.Response.{Response}
use Rattle.job_runner.specs.declared.end.EndCause.TheVariants.{BadPacket, ServerError}
use Rattle.job_runner.specs.Book.{Ledger}
use Rattle.job_runner.specs.Acting.{FollowsOrder, moment, skip, sleep, follow, serve, end, asked_by}
use Rattle.job_runner.proofs.Asking.{asked_to_sleep, asked_to_end, asked_to_follow, asked_to_serve, asked_nothing_awake, asked_nothing_still}
use Rattle.job_runner.proofs.Telling.{acted_at, told_so, port_serves, send_serves}
use Rattle.job_runner.proofs.state.Session.act.Goals as goal

pub returns-in-Asleep-clause-does : goal.returns-in-Asleep-clause-does
returns-in-Asleep-clause-does g c =
    let went = c.prepare_and_follow in
    acted_at g.J.Jobs.tells g.J.Jobs.fails g.J.Jobs.prepares c.args.self.now.jobs.now went.new.self.jobs.now c.args.worker.now _ follow _ _ _ (asked_to_follow _ _ (ap message_of c.in-Noop.is) c.in-Asleep.is) (
      None,
      told_so g.J.Jobs.tells g.J.Jobs.fails g.J.Jobs.prepares c.args.self.now.jobs.now went.new.self.jobs.now [] went.result (port_serves c.args.worker.now.pass.now.generation (g.P.PoolPort.book went.new.self.port.now) went.result went.ensures.reason) went.ensures.ready.jobs,
      went.ensures.follows,
    )

pub returns-in-Waiting-clause-does : goal.returns-in-Waiting-clause-does
returns-in-Waiting-clause-does g c =
    acted_at g.J.Jobs.tells g.J.Jobs.fails g.J.Jobs.prepares c.args.self.now.jobs.now c.sleep.new.self.jobs.now c.args.worker.now _ sleep _ _ _ (asked_to_sleep _ _ (ap message_of c.in-NoJob.is) c.in-Waiting.is) (
      None,
      told_so g.J.Jobs.tells g.J.Jobs.fails g.J.Jobs.prepares c.args.self.now.jobs.now c.sleep.new.self.jobs.now [] c.sleep.result (send_serves c.sleep.result c.sleep.ensures.reason) ([], c.sleep.ensures.idles.jobs),
      c.sleep.ensures.sleeps,
    )

pub returns-in-Waiting-phase-clause-does : goal.returns-in-Waiting-phase-clause-does
returns-in-Waiting-phase-clause-does g c =
    acted_at g.J.Jobs.tells g.J.Jobs.fails g.J.Jobs.prepares c.args.self.now.jobs.now c.serve_job.new.self.jobs.now c.args.worker.now _ (serve _) _ _ _ (asked_to_serve _ _ _ (ap message_of c.in-Assign.is) c.in-Waiting-phase.is) c.serve_job.ensures.serves

pub returns-in-Noop-clause-does : goal.returns-in-Noop-clause-does
returns-in-Noop-clause-does g c =
    acted_at g.J.Jobs.tells g.J.Jobs.fails g.J.Jobs.prepares c.args.self.now.jobs.now c.args.self.now.jobs.now c.args.worker.now _ skip _ _ _ (asked_nothing_awake _ _ (ap message_of c.in-Noop.is) c.in_default.not-Asleep) (None, ([], refl), (refl, refl))

pub returns-in-NoJob-clause-does : goal.returns-in-NoJob-clause-does
returns-in-NoJob-clause-does g c =
    acted_at g.J.Jobs.tells g.J.Jobs.fails g.J.Jobs.prepares c.args.self.now.jobs.now c.args.self.now.jobs.now c.args.worker.now _ skip _ _ _ (asked_nothing_still _ _ (ap message_of c.in-NoJob.is) c.in_default-phase.not-Waiting) (None, ([], refl), (refl, refl))

pub returns-clause-does : goal.returns-clause-does
returns-clause-does g c =
    acted_at g.J.Jobs.tells g.J.Jobs.fails g.J.Jobs.prepares c.args.self.now.jobs.now c.args.self.now.jobs.now c.args.worker.now _ skip _ _ _ (ap (λ (m : Response). asked_by (message_of m) c.args.self.now.state.phase) c.in-Other.is) (None, ([], refl), (refl, refl))

pub returns-in-Fault-clause-does : goal.returns-in-Fault-clause-does
returns-in-Fault-clause-does g c =
    acted_at g.J.Jobs.tells g.J.Jobs.fails g.J.Jobs.prepares c.args.self.now.jobs.now c.args.self.now.jobs.now c.args.worker.now _ (end ServerError) _ _ _ (ap (λ (m : Response). asked_by (message_of m) c.args.self.now.state.phase) c.in-Fault.is)
    (None, (c.args.self.now.jobs.now, ([], refl), inl (refl, λ e. cc)), (refl, refl))

pub returns-in-Assign : goal.returns-in-Assign
returns-in-Assign g c = record {
  parts = record { link = refl; port = refl; jobs = refl };
  does = acted_at g.J.Jobs.tells g.J.Jobs.fails g.J.Jobs.prepares c.args.self.now.jobs.now c.args.self.now.jobs.now c.args.worker.now _ (end BadPacket) _ _ _ (asked_to_end _ _ _ (ap message_of c.in-Assign.is) c.in_default-phase-2.not-Waiting)
      (None, (c.args.self.now.jobs.now, ([], refl), inl (refl, λ e. cc)), (refl, refl));
  link = record { input = refl; write_fault = λ x. absurd cc; no_failure = λ o. refl };
  reason = (refl, subst (λ (m : Response). 0 < length (assignments_in (message_of m ∷ []))) (sym c.in-Assign.is) (omega arith));
  losses = refl;
}
