use Rattle.pool_core.proofs.Booked.{jobs_are_booked_once_lem}
use Rattle.pool_core.proofs.laws.jobs_are_booked_once.Goals as goal

pub returns : goal.returns
returns c = jobs_are_booked_once_lem
