use Rattle.std.proofs.Common.{ap, ◌∙◌}
use Rattle.plan_model.specs.Planning.{assigned}
use Rattle.pool_core.specs.Machine.{what_of}
use Rattle.pool_core.proofs.Ordered.{order_in_ranges}
use Rattle.pool_core.proofs.rounds.orders_after.Goals as goal

pub order_after-order-requires : goal.order_after-order-requires
order_after-order-requires c =
    let plan = c.args.plan.now in
    order_in_ranges plan c.args.round c.loop-number.number c.args.slots.now c.args.orders.now c.what.result c.index-slots-number.result c.index-orders-number.result
    c.requires.paired c.loop-number-test.true
    (c.what.ensures ∙ ap what_of (c.function_of-function.ensures ∙ ap (assigned plan) c.new.ensures))
    c.index-slots-number.is c.index-orders-number.is c.requires.ranges
