-- What contracts see of an order: the numbers and the task that it says.
use Rattle.std.specs.Prelude.{ℕ}
use Rattle.worker_state.specs.declared.order.What.{What}

pub record OrderParts : Type 0 where
  pub generation : ℕ
  pub round : ℕ
  pub what : What
