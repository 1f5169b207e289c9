use Rattle.std.proofs.Common.{◌≡◌, ◌≤◌}
use Rattle.std.specs.Prelude.{replicate, vec_len, vec_capacity}
use Rattle.worker_state.specs.declared.slot.Slot.TheVariants.{Empty}
use Rattle.pool_core.proofs.table.empty_slots.Given as goal

abbrev pub invariant-loop-number : goal.invariant-loop-number
invariant-loop-number l = record {
  made : l.slots.items ≡ replicate l._number (Empty 0);
  filled : vec_len l.slots ≡ l._number;
  room : l.count ≤ vec_capacity l.slots;
}
