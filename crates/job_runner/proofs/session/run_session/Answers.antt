use Rattle.std.proofs.Common.{ap, ◌∙◌}
use Rattle.job_runner.specs.Told.{replies}
use Rattle.job_runner.proofs.Telling.{all_meant, first_told, never_unserved}
use Rattle.job_runner.proofs.session.run_session.Goals as goal

pub returns : goal.returns
returns g c =
    let ran = c.serve_worker.ensures.served in
    let told = ran.2 in
    let served = ran.6 in
    let means = all_meant (λ x. g.J.NamedJobs.told x.now) c.args.jobs ran.5.0 told ran.5.1 in
    record {
      served = (
        ran.0,
        ran.1,
        ran.3,
        ran.4,
        record {
          told = told;
          meant_so = means;
          served = served;
          never_unserved = never_unserved ran.5.0 _ _ ran.5.2;
          work = λ other. served.work other ∙ ap replies (first_told (g.J.NamedJobs.told c.args.jobs.now) _ told served.ends.answered _ _ served.ends.later means served.ends.chain.answered_is served.ends.told_are served.ends.in_order);
        },
      );
      turns = c.serve_worker.ensures.turns;
    }
