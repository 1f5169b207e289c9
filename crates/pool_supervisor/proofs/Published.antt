-- The orders of the first slots, posted one by one.
use Rattle.std.proofs.Common.{◌≡◌, ◌≢◌, ◌≤◌, ◌<◌, ℕ, ◌+◌, List, [], ◌∷◌, ◌++◌, length, Bool, true, false, refl, sym, ap, subst, ◌∙◌, arith}
use Rattle.std.specs.Prelude.{nat_lt, if◌then◌else◌, slice_get, Option, Some}
use Rattle.std.proofs.lemmas.Option.{get_or_from_slice_get}
use Rattle.std.proofs.lemmas.List.{append-nil, get_or_past}
use Rattle.std.proofs.lemmas.Bool.{lt-ltb, le-ltb, ltb-true, ltb-false}
use Rattle.std.proofs.Math.Arith.{lt_of_le-ne}
use mathlib.Core.Logic.{dite}
use native.Mathlib.Decide.{ℕ_discrete}
use Rattle.worker_state.specs.OrderParts.{OrderParts}
use Rattle.worker_state.specs.Slots.{is_live}
use Rattle.worker_state.specs.Orders.{no_order}
use Rattle.plan_model.specs.Planning.{assigned}
use Rattle.worker_state.specs.declared.order.What.{What}
use Rattle.worker_state.specs.declared.order.What.TheVariants.{Idle, Stop}
use Rattle.worker_state.specs.declared.slot.Slot.{Slot}
use Rattle.worker_state.specs.declared.slot.Slot.TheVariants.{Empty}
use Rattle.order_board.specs.declared.view.Post.{Post}
use Rattle.order_board.specs.Posts.{posts_of}
use Rattle.pool_core.specs.Machine.{State, slot_in}
use Rattle.pool_core.specs.Laws.{order_at}
use Rattle.pool_supervisor.specs.Published.{ArePosted, live_order, stop_order}
use Rattle.pool_supervisor.specs.FarmPosts.{plan_order, standing_order, what_at, what_by}

-- the orders of the slots below this one
abbrev pub orders_below : (ℕ → List OrderParts) → ℕ → ℕ → List OrderParts
orders_below orders count slot = if nat_lt slot count then orders slot else []

later_test : (s j : ℕ) → s ≢ j → (b : Bool) → nat_lt s j ≡ b → nat_lt s (j + 1) ≡ b
later_test s j apart true below = lt-ltb s (j + 1) (omega (arith, ltb-true s j below))
later_test s j apart false above = le-ltb s (j + 1) (omega (arith, lt_of_le-ne (ltb-false s j above) (λ e. apart (sym e))))

-- one more slot: its orders were posted, and no other slot's posts changed
pub one_more : (orders : ℕ → List OrderParts) (j : ℕ) (old new next : List Post)
    → posts_of j next ≡ posts_of j new ++ orders j
    → ((s : ℕ) → s ≢ j → posts_of s next ≡ posts_of s new)
    → ArePosted (orders_below orders j) old new
    → ArePosted (orders_below orders (j + 1)) old next
one_more orders j old new next here elsewhere before s =
    dite (ℕ_discrete s j)
    (λ (e : s ≡ j).
    let P : ℕ → Type 0 = λ t. posts_of t next ≡ posts_of t old ++ orders_below orders (j + 1) t in
    let none_yet : orders_below orders j j ≡ [] = ap (λ (b : Bool). if b then orders j else []) (le-ltb j j (omega arith)) in
    let there_now : orders_below orders (j + 1) j ≡ orders j = ap (λ (b : Bool). if b then orders j else []) (lt-ltb j (j + 1) (omega arith)) in
    let so_far : posts_of j new ≡ posts_of j old = before j ∙ (ap (λ (l : List OrderParts). posts_of j old ++ l) none_yet ∙ append-nil (posts_of j old)) in
    subst P (sym e) (here ∙ (ap (λ (l : List OrderParts). l ++ orders j) so_far ∙ ap (λ (l : List OrderParts). posts_of j old ++ l) (sym there_now))))
    (λ (apart : s ≢ j).
    elsewhere s apart ∙ (before s ∙ ap (λ (b : Bool). posts_of s old ++ (if b then orders s else [])) (sym (later_test s j apart (nat_lt s j) refl))))

-- a slot with nothing to post
pub none_more : (orders : ℕ → List OrderParts) (j : ℕ) (old new : List Post) → orders j ≡ []
    → ArePosted (orders_below orders j) old new
    → ArePosted (orders_below orders (j + 1)) old new
none_more orders j old new none before =
    one_more orders j old new new (sym (ap (λ (l : List OrderParts). posts_of j new ++ l) none ∙ append-nil (posts_of j new))) (λ s apart. refl) before

-- after the last slot, all orders were posted
pub all_more : (orders : ℕ → List OrderParts) (count s : ℕ) → (count ≤ s → orders s ≡ []) → (b : Bool) → nat_lt s count ≡ b → (if b then orders s else []) ≡ orders s
all_more orders count s none true below = refl
all_more orders count s none false above = sym (none (ltb-false s count above))

-- the order of a live slot, by what was read
pub live_here : (state : State) (j : ℕ) (slot : Slot) (order : OrderParts) → slice_get state.slots j ≡ Some slot → is_live slot ≡ true → slice_get state.orders j ≡ Some order
    → live_order state j ≡ order ∷ []
live_here state j slot order at live at_order =
    ap (λ (b : Bool). if b then order_at state.orders j ∷ [] else []) (ap is_live (get_or_from_slice_get state.slots j slot (Empty 0) at) ∙ live)
    ∙ ap (λ (o : OrderParts). o ∷ []) (get_or_from_slice_get state.orders j order no_order at_order)

pub empty_here : (state : State) (j : ℕ) (slot : Slot) → slice_get state.slots j ≡ Some slot → is_live slot ≡ false → live_order state j ≡ []
empty_here state j slot at empty =
    ap (λ (b : Bool). if b then order_at state.orders j ∷ [] else []) (ap is_live (get_or_from_slice_get state.slots j slot (Empty 0) at) ∙ empty)

pub no_live_past : (state : State) (s : ℕ) → length state.slots ≤ s → live_order state s ≡ []
no_live_past state s past = ap (λ slot. if is_live slot then order_at state.orders s ∷ [] else []) (get_or_past state.slots s (Empty 0) past)

-- Stop for a slot, by the order that was read
pub stop_here : (state : State) (j : ℕ) (order : OrderParts) → nat_lt j (length state.slots) ≡ true → slice_get state.orders j ≡ Some order
    → stop_order state j ≡ record order { what = Stop } ∷ []
stop_here state j order there at_order =
    ap (λ (b : Bool). if b then record (order_at state.orders j) { what = Stop } ∷ [] else []) there
    ∙ ap (λ (o : OrderParts). record o { what = Stop } ∷ []) (get_or_from_slice_get state.orders j order no_order at_order)

pub no_stop_past : (state : State) (s : ℕ) → length state.slots ≤ s → stop_order state s ≡ []
no_stop_past state s past = ap (λ (b : Bool). if b then record (order_at state.orders s) { what = Stop } ∷ [] else []) (le-ltb s (length state.slots) past)

-- the order of a slot after a plan, by what was read
pub standing_here : (state : State) (j : ℕ) (slot : Slot) (order : OrderParts) (what : What) → j < length state.slots → slice_get state.slots j ≡ Some slot → slice_get state.orders j ≡ Some order
    → what ≡ (if is_live slot then order.what else Idle) → standing_order state j ≡ record order { what = what } ∷ []
standing_here state j slot order what there at at_order is =
    let same = get_or_from_slice_get state.slots j slot (Empty 0) at in
    let same_order = get_or_from_slice_get state.orders j order no_order at_order in
    ap (λ (b : Bool). if b then record (order_at state.orders j) { what = what_at state j } ∷ [] else []) (lt-ltb j (length state.slots) there)
    ∙ (ap (λ (o : OrderParts). record o { what = if is_live (slot_in state.slots j) then o.what else Idle } ∷ []) same_order
    ∙ (ap (λ (s : Slot). record order { what = if is_live s then order.what else Idle } ∷ []) same
    ∙ ap (λ (w : What). record order { what = w } ∷ []) (sym is)))

-- what a plan gives a slot, by what was read
pub plan_here : (plan : List (ℕ × Option ℕ)) (round : ℕ) (state : State) (j : ℕ) (order : OrderParts) (what : What) → j < length state.slots → slice_get state.orders j ≡ Some order
    → what ≡ what_by (assigned plan j) → plan_order plan round state j ≡ record order { round = round; what = what } ∷ []
plan_here plan round state j order what there at_order is =
    ap (λ (b : Bool). if b then record (order_at state.orders j) { round = round; what = what_by (assigned plan j) } ∷ [] else []) (lt-ltb j (length state.slots) there)
    ∙ (ap (λ (o : OrderParts). record o { round = round; what = what_by (assigned plan j) } ∷ []) (get_or_from_slice_get state.orders j order no_order at_order)
    ∙ ap (λ (w : What). record order { round = round; what = w } ∷ []) (sym is))

pub no_standing_past : (state : State) (s : ℕ) → length state.slots ≤ s → standing_order state s ≡ []
no_standing_past state s past = ap (λ (b : Bool). if b then record (order_at state.orders s) { what = what_at state s } ∷ [] else []) (le-ltb s (length state.slots) past)

pub no_plan_past : (plan : List (ℕ × Option ℕ)) (round : ℕ) (state : State) (s : ℕ) → length state.slots ≤ s → plan_order plan round state s ≡ []
no_plan_past plan round state s past =
    ap (λ (b : Bool). if b then record (order_at state.orders s) { round = round; what = what_by (assigned plan s) } ∷ [] else []) (le-ltb s (length state.slots) past)
