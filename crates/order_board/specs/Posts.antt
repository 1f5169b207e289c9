-- Posts: orders, each with the slot that it was posted to.
use Rattle.std.specs.Prelude.{◌≡◌, ◌==◌, ℕ, List, ◌++◌, None, map, unwrap_or}
use Rattle.std.specs.List.{filter, last_or}
use Rattle.worker_state.specs.OrderParts.{OrderParts}
use Rattle.worker_state.specs.Orders.{no_order}
use Rattle.order_board.specs.declared.view.Post.{Post}

abbrev pub post : ℕ → OrderParts → Post
post slot order = record { slot = slot; order = order }

-- the orders that were posted to the slot, the oldest first
abbrev pub posts_of : ℕ → List Post → List OrderParts
posts_of slot posts = map (λ p. p.order) (filter (λ p. p.slot == slot) posts)

-- the last of the orders, or the order before any
abbrev pub latest : List OrderParts → OrderParts
latest orders = unwrap_or (last_or None orders) no_order

-- the orders begin with those that were seen
abbrev pub BeginsWith : List OrderParts → List OrderParts → Type 0
BeginsWith orders seen = (unseen : List OrderParts) × (orders ≡ seen ++ unseen)
