use Rattle.std.specs.Prelude.{◌≡◌, ◌<◌, ◌≤◌, ℕ}
use Rattle.worker_state.specs.Slots.{last_generation}
use Rattle.pool_core.specs.Machine.{slot_in}
use Rattle.pool_supervisor.proofs.Most.{Reaches}
use Rattle.pool_supervisor.proofs.place.RunBoard.most_used.Given as goal

abbrev pub invariant-loop-number : goal.invariant-loop-number
invariant-loop-number g l = ((slot : ℕ) → slot < l.number → last_generation (slot_in l.fn.held.state.slots slot) ≤ l.most)
    × Reaches (λ slot. last_generation (slot_in l.fn.held.state.slots slot)) l.number l.most
