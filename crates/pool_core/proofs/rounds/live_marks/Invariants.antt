use Rattle.std.proofs.Common.{◌≡◌, ◌++◌, drop, map}
use Rattle.worker_state.specs.Slots.{is_live}
use Rattle.pool_core.proofs.rounds.live_marks.Given as goal

abbrev pub invariant-loop-slot : goal.invariant-loop-slot
invariant-loop-slot l = l.marks.items ++ map is_live (drop l.slot-index l.slots) ≡ map is_live l.slots
