use Rattle.pool_supervisor.proofs.Late.{SeenTo}
use Rattle.pool_supervisor.proofs.place.RunBoard.expire_late.Given as goal

abbrev pub invariant-loop-number : goal.invariant-loop-number
invariant-loop-number g l = SeenTo l.now_ms l.number l.initial.held l.held
