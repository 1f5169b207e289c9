-- The orders that are published.
use Rattle.std.specs.Prelude.{◌≡◌, ◌⊎◌, ℕ, nat_lt, List, [], ◌∷◌, ◌++◌, ◌≤◌, length, if◌then◌else◌, is_some}
use Rattle.worker_state.specs.OrderParts.{OrderParts}
use Rattle.worker_state.specs.Limits.{max_generation}
use Rattle.worker_state.specs.Slots.{is_live}
use Rattle.worker_state.specs.declared.order.What.TheVariants.{Stop}
use Rattle.order_board.specs.declared.view.Post.{Post}
use Rattle.order_board.specs.Posts.{BeginsWith, posts_of, latest}
use Rattle.pool_core.specs.declared.answer.Ran.{Ran}
use Rattle.pool_core.specs.Machine.{State, slot_in}
use Rattle.pool_core.specs.Laws.{order_at}

-- the order of the slot where a worker is live in it, and else none
abbrev pub live_order : State → ℕ → List OrderParts
live_order state slot = if is_live (slot_in state.slots slot) then order_at state.orders slot ∷ [] else []

-- the orders of a round: each live slot's where it has a plan, and else none
abbrev pub round_order : Ran → State → ℕ → List OrderParts
round_order ran state slot = if is_some ran.backlog then live_order state slot else []

-- Stop, to the worker to whom the slot's order goes; a slot that is not there gets none
abbrev pub stop_order : State → ℕ → List OrderParts
stop_order state slot = if nat_lt slot (length state.slots) then record (order_at state.orders slot) { what = Stop } ∷ [] else []

-- To each slot just these orders were posted.
abbrev pub ArePosted : (ℕ → List OrderParts) → List Post → List Post → Type 0
ArePosted orders before now = (slot : ℕ) → posts_of slot now ≡ posts_of slot before ++ orders slot

-- What a reader that has seen these posts of its slot is told: the last of them, or Stop.
abbrev pub IsRead : List OrderParts → OrderParts → Type 0
IsRead seen order = (order ≡ latest seen) ⊎ (order.what ≡ Stop)

-- Stop, to the worker of this generation, if an order can name it.
abbrev pub IsStopFor : ℕ → OrderParts → Type 0
IsStopFor generation order = (order.what ≡ Stop) × (generation ≤ max_generation → order.generation ≡ generation)

-- A seat that had seen the first of these posts of its slot was told these orders, one after the other, and has seen the last of these
-- posts now: at each order it had seen as many as before or more, and was told of them.
abbrev pub AreReadFrom : List OrderParts → List OrderParts → List OrderParts → Type 0
AreReadFrom first [] last = BeginsWith last first
AreReadFrom first (order ∷ orders) last =
    (seen : List OrderParts) × BeginsWith seen first × IsRead seen order × AreReadFrom seen orders last

-- The orders, in turn, are what a reader is told that had seen no post of its slot at first and has seen these now.
abbrev pub AreSeen : List OrderParts → List OrderParts → Type 0
AreSeen seen orders = ∥ AreReadFrom [] orders seen ∥₁
