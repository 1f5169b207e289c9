use Rattle.std.proofs.Common.{◌≡◌, ◌++◌, drop}
use Rattle.pool_core.specs.Machine.{orders_from}
use Rattle.pool_core.proofs.rounds.orders_after.Given as goal

abbrev pub invariant-loop-number : goal.invariant-loop-number
invariant-loop-number l = l.made.items ++ orders_from l.number l.plan l.round (drop l.number l.slots) (drop l.number l.orders) ≡ orders_from 0 l.plan l.round l.slots l.orders
