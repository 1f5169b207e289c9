use Rattle.pool_core.proofs.Told.{jobs_are_accounted_for_lem}
use Rattle.pool_core.proofs.laws.jobs_are_accounted_for.Goals as goal

pub returns : goal.returns
returns c = jobs_are_accounted_for_lem
