use Rattle.std.proofs.Common.{◌≡◌, map, take}
use Rattle.plan_sizing.proofs.search.machines_of.Given as goal

abbrev pub invariant-loop-machine : goal.invariant-loop-machine
invariant-loop-machine l = l.machines.items ≡ map (λ hire. hire.0) (take l.machine-index l.hires)
