use Rattle.pool_core.proofs.Ordered.{rounds_order_lem}
use Rattle.pool_core.proofs.laws.rounds_order.Goals as goal

pub returns : goal.returns
returns c = rounds_order_lem
