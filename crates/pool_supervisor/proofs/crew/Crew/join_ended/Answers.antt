use Rattle.std.proofs.Common.{rules}
use Rattle.pool_supervisor.proofs.Tries.{no_joins, more_joins}
use Rattle.pool_supervisor.proofs.crew.Crew.join_ended.Goals as goal

pub loop-at-init : goal.loop-at-init
loop-at-init g c = (search rules, search rules, no_joins _ _ _ _)

pub loop-at-preserved-then-has_ended : goal.loop-at-preserved-then-has_ended
loop-at-preserved-then-has_ended g c = (search rules, search rules, more_joins _ _ _ _ _ _ _ _ c.loop-at.invariant.2 c.take_back.ensures.joins)
