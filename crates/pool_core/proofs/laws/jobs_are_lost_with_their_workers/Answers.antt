use Rattle.pool_core.proofs.Grabbers.{jobs_are_lost_with_their_workers_lem}
use Rattle.pool_core.proofs.laws.jobs_are_lost_with_their_workers.Goals as goal

pub returns : goal.returns
returns c = jobs_are_lost_with_their_workers_lem
