use Rattle.std.proofs.Common.{inl, inr, refl, subst}
use Rattle.pool_supervisor.proofs.session.run_worker.Goals as goal

pub returns-in-Some : goal.returns-in-Some
returns-in-Some g c =
    let ran = c.run_jobs.ensures.served in record {
      served = inr (
        ran.0,
        ran.1,
        ran.2,
        ran.3,
        c.in-Some.jobs,
        ran.4,
        subst (λ w. g.J.JobSource.gives c.args.site.now.lent.jobs.now w c.in-Some.jobs) c.name.ensures c.in-Some.ensures.given,
        ran.5,
        ran.6,
        ran.7,
        ran.8,
        ran.9,
      );
    }

pub returns-in-None : goal.returns-in-None
returns-in-None g c = record {
  served = inl (
    subst (λ w. g.J.JobSource.denies c.args.site.now.lent.jobs.now w) c.name.ensures c.in-None.ensures.denied,
    refl,
    c.turn_away.ensures.end,
  );
}
