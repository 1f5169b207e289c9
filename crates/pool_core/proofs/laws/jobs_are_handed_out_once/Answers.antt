use Rattle.pool_core.proofs.Handed.{jobs_are_handed_out_once_lem}
use Rattle.pool_core.proofs.laws.jobs_are_handed_out_once.Goals as goal

pub returns : goal.returns
returns c = jobs_are_handed_out_once_lem
