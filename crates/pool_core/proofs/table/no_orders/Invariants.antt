use Rattle.std.proofs.Common.{◌≡◌}
use Rattle.std.specs.Prelude.{replicate}
use Rattle.worker_state.specs.Orders.{no_order}
use Rattle.pool_core.proofs.table.no_orders.Given as goal

abbrev pub invariant-loop-number : goal.invariant-loop-number
invariant-loop-number l = l.orders.items ≡ replicate l._number (no_order)
