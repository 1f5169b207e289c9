use Rattle.std.proofs.Common.{◌≡◌, ◌≤◌, ◌++◌, drop, take, length}
use Rattle.pool_settings.specs.Slots.{owners}
use Rattle.pool_core.specs.Walk.{live_from}
use Rattle.pool_core.proofs.rounds.are_live.Given as goal

abbrev pub invariant-loop-number : goal.invariant-loop-number
invariant-loop-number l = record {
  within : l.next ≤ length l.listed;
  so_far : take l.next l.listed ++ live_from l.number (drop l.number (owners l.settings)) (drop l.number l.slots) ≡ live_from 0 (owners l.settings) l.slots;
}
