-- What a session is told of the orders that its seat has seen.
use Rattle.std.proofs.Common.{◌≡◌, List, [], ◌∷◌, ◌++◌, refl, sym, subst}
use Rattle.std.proofs.Math.Logic.{∥∥₁_elim, ∥∥₁_prop}
use Rattle.worker_state.specs.OrderParts.{OrderParts}
use Rattle.order_board.specs.Posts.{BeginsWith}
use Rattle.order_board.proofs.Posts.{begins_longer, begins_whole}
use Rattle.pool_supervisor.specs.Published.{AreReadFrom, AreSeen, IsRead}

-- what begins a beginning begins the whole
begins_later : (earlier seen more : List OrderParts) → BeginsWith more seen → BeginsWith seen earlier → BeginsWith more earlier
begins_later earlier seen more later before =
    subst (λ (l : List OrderParts). BeginsWith l earlier) (sym later.1) (begins_longer seen earlier later.0 before)

read_more : (first seen more orders : List OrderParts) (order : OrderParts) → BeginsWith more seen → IsRead more order → AreReadFrom first orders seen
    → AreReadFrom first (orders ++ order ∷ []) more
read_more first seen more [] order later read before = (more, begins_later first seen more later before, read, begins_whole more)
read_more first seen more (o ∷ orders) order later read before = (before.0, before.1, before.2, read_more before.0 seen more orders order later read before.3)

-- no order was read
pub none_seen : (seen orders : List OrderParts) → orders ≡ [] → AreSeen seen orders
none_seen seen orders none = subst (λ (l : List OrderParts). AreSeen seen l) (sym none) ∣ (seen, refl) ∣₁

-- one more order was read, by a seat that had seen more
pub seen_more : (seen more orders now : List OrderParts) (order : OrderParts) → BeginsWith more seen → IsRead more order → AreSeen seen orders
    → now ≡ orders ++ order ∷ [] → AreSeen more now
seen_more seen more orders now order later read before are =
    subst (λ (l : List OrderParts). AreSeen more l) (sym are) (∥∥₁_elim before ∥∥₁_prop (λ all. ∣ read_more [] seen more orders order later read all ∣₁))
