use Rattle.job_runner.proofs.Telling.{prepared}
use Rattle.job_runner.proofs.state.Session.prepare_and_follow.Goals as goal

pub returns-clause-ready : goal.returns-clause-ready
returns-clause-ready g c =
    let idles = c.follow.ensures.idles in
    record {
      parts = record { link = idles.parts.link; port = idles.parts.port; jobs = idles.parts.jobs };
      jobs = prepared g.J.Jobs.prepares c.args.self.now.jobs.now c.prepare-readiness.new.self c.follow.new.self.jobs.now c.prepare-readiness.ensures idles.jobs;
    }
