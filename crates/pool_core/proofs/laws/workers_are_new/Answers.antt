use Rattle.pool_core.proofs.Lasting.{workers_are_new_lem}
use Rattle.pool_core.proofs.laws.workers_are_new.Goals as goal

pub returns : goal.returns
returns c = workers_are_new_lem
