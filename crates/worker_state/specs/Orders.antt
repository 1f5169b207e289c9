-- The order before any round, the ranges of orders, and the word that an order has.
use Rattle.std.specs.Prelude.{ℕ, ◌+◌, ◌*◌, ◌^◌, ◌<◌, ◌≤◌}
use Rattle.worker_state.specs.Limits.{max_generation, max_rounds}
use Rattle.worker_state.specs.OrderParts.{OrderParts}
use Rattle.worker_state.specs.declared.order.What.{What}
use Rattle.worker_state.specs.declared.order.What.TheVariants.{Idle, Work, Stop}

abbrev pub no_order : OrderParts
no_order = record { generation = 0; round = 0; what = Idle }

-- the function, if there is one, is below 1,024
abbrev pub IsTaskWithin : What → Type 0
IsTaskWithin Idle = Unit {0}
IsTaskWithin (Work function) = function < 1024
IsTaskWithin Stop = Unit {0}

-- The ranges of an order: a generation of at most 262,143, and a function below 1,024.
pub record IsOrder (order : OrderParts) : Type 0 where
  pub generation : order.generation ≤ max_generation
  pub function : IsTaskWithin order.what

-- Each order that a program holds is in these ranges, and its round is one that a pool counts. Exactly these have a word.
pub record HasWord (order : OrderParts) : Type 0 where
  pub ranges : IsOrder order
  pub round : order.round ≤ max_rounds

-- 0 for Idle, 1 more than the function for Work, 1,025 for Stop
abbrev pub task_number : What → ℕ
task_number Idle = 0
task_number (Work function) = function + 1
task_number Stop = 1025

-- bits 0 to 31 are the round, bits 32 to 42 the number of the task, and bits 43 to 60 the generation
abbrev pub word_of : OrderParts → ℕ
word_of order = order.round + 2 ^ 32 * task_number order.what + 2 ^ 43 * order.generation
