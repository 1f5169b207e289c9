use Rattle.pool_supervisor.proofs.Sessions.{named}
use Rattle.pool_supervisor.proofs.jobs.sessions_have_named_jobs.Goals as goal

pub returns : goal.returns
returns g c = named c.args.jobs (λ j. g.T.NamedJobs.told j.now) _
