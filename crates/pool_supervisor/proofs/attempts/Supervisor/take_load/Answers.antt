use Rattle.pool_supervisor.proofs.Tries.{tells_if_not_taken}
use Rattle.pool_supervisor.proofs.attempts.Supervisor.take_load.Goals as goal

pub returns-clause-err : goal.returns-clause-err
returns-clause-err g c = tells_if_not_taken c.in_ok-load.load _ _ c.give_load.result c.in_ok-load.ensures c.give_load.ensures.err
