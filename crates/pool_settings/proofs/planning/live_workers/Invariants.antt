use Rattle.std.proofs.Common.{◌≡◌, ◌++◌, false, drop, get_or, filter}
use Rattle.std.specs.List.{enumerate_from}
use Rattle.pool_settings.proofs.planning.live_workers.Given as goal

-- what is done, and what is left
abbrev pub invariant-loop-machine : goal.invariant-loop-machine
invariant-loop-machine l = record {
  counted : l.slot ≡ l.machine-index;
  done : l.workers.items ++ filter (λ worker. get_or l.live worker.0 false) (enumerate_from l.slot (drop l.machine-index l.owners))
      ≡ filter (λ worker. get_or l.live worker.0 false) (enumerate_from 0 l.owners);
}
