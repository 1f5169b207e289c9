use Rattle.std.proofs.Common.{◌≡◌, ◌+◌, ◌++◌, drop}
use Rattle.std.specs.Prelude.{sum}
use Rattle.pool_settings.specs.Slots.{firsts_from}
use Rattle.pool_settings.proofs.slots.first_slots.Given as goal

-- what is done, and what is left
abbrev pub invariant-loop-count : goal.invariant-loop-count
invariant-loop-count l = record {
  firsts : l.first.items ++ firsts_from l.slot (drop l.count-index l.workers) ≡ firsts_from 0 l.workers;
  total : l.slot + sum (drop l.count-index l.workers) ≡ sum l.workers;
}
