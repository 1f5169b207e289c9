use Rattle.std.specs.Prelude.{◌≡◌, count_by, take}
use Rattle.worker_state.specs.Slots.{is_live}
use Rattle.pool_supervisor.proofs.place.RunBoard.alive.Given as goal

abbrev pub invariant-loop-number : goal.invariant-loop-number
invariant-loop-number g l = l.alive ≡ count_by is_live (take l.number l.held.state.slots)
