use Rattle.std.proofs.Common.{rules}
use Rattle.pool_supervisor.proofs.Tries.{no_joins, more_joins}
use Rattle.pool_supervisor.proofs.crew.Crew.join_all.Goals as goal

pub loop-self-init : goal.loop-self-init
loop-self-init g c = (search rules, no_joins _ _ _ _)

pub loop-self-preserved : goal.loop-self-preserved
loop-self-preserved g c = (search rules, more_joins _ _ _ _ _ _ _ _ c.loop-self.invariant.1 c.take_back.ensures.joins)
