-- The orders that a port answered, in their order.
use Rattle.std.specs.Prelude.{List, [], ◌∷◌, ◌++◌}
use Rattle.worker_state.specs.OrderParts.{OrderParts}
use Rattle.tests_job_runner.specs.declared.orders.Orders.{Orders, New, Then'}

abbrev pub orders_of : Orders → List OrderParts
orders_of New = []
orders_of (Then' shape before order) = orders_of before ++ order ∷ []
