use Rattle.std.proofs.Common.{◌≡◌, ◌++◌, drop}
use Rattle.pool_settings.specs.Slots.{owners_from}
use Rattle.pool_settings.proofs.slots.owners_of.Given as goal

-- what is done, and what is left
abbrev pub invariant-loop-count : goal.invariant-loop-count
invariant-loop-count l = record {
  owned : l.owners.items ++ owners_from l.machine (drop l.count-index l.workers) ≡ owners_from 0 l.workers;
  counted : l.machine ≡ l.count-index;
}
