-- Orders after a round with a plan.
use Rattle.std.proofs.Common.{◌≡◌, ℕ, ◌+◌, ◌<◌, zero, suc, Bool, true, false, cond, List, [], ◌∷◌, length, get_or, Option, ◌⊎◌, inl, inr, refl, sym, ap, subst, ◌∙◌, arith}
use Rattle.std.specs.Prelude.{◌==◌, ◌&&◌}
use Rattle.std.proofs.lemmas.List.{get_or_default}
use Rattle.std.proofs.lemmas.Bool.{cond_both, and_parts, eqb-true, eq-eqb, false≢true}
use Rattle.plan_model.specs.Planning.{assigned}
use Rattle.worker_state.specs.declared.slot.Slot.{Slot}
use Rattle.worker_state.specs.declared.slot.Slot.TheVariants.{Empty, Live}
use Rattle.worker_state.specs.declared.order.Order.{Order}
use Rattle.worker_state.specs.declared.order.What.{What}
use Rattle.worker_state.specs.declared.order.What.TheVariants.{Idle, Work, Stop}
use Rattle.worker_state.specs.Slots.{is_live, last_generation}
use Rattle.worker_state.specs.Orders.{no_order, IsOrder}
use Rattle.pool_core.specs.Machine.{what_of, same_what, ordered, orders_from}
use Rattle.pool_core.specs.Laws.{RoundsOrder}

-- the order of one slot
order_at : (plan : List (ℕ × Option ℕ)) (round n : ℕ) (slots : List Slot) (orders : List Order) (s : ℕ) → length slots ≡ length orders
    → get_or (orders_from n plan round slots orders) s no_order ≡ ordered (what_of (assigned plan (n + s))) round (get_or slots s (Empty 0)) (get_or orders s no_order)
order_at plan round n [] [] s e = refl
order_at plan round n [] (order ∷ orders) s e = absurd (omega arith)
order_at plan round n (slot ∷ slots) [] s e = absurd (omega arith)
order_at plan round n (slot ∷ slots) (order ∷ orders) zero e =
    ap (λ (m : ℕ). ordered (what_of (assigned plan m)) round slot order) (let i : n ≡ n + 0 = omega arith in i)
order_at plan round n (slot ∷ slots) (order ∷ orders) (suc s) e =
    order_at plan round (n + 1) slots orders s (omega (arith, e))
    ∙ ap (λ (m : ℕ). ordered (what_of (assigned plan m)) round (get_or slots s (Empty 0)) (get_or orders s no_order)) (let i : n + 1 + s ≡ n + suc s = omega arith in i)

-- an order that a round writes is within its ranges where the list of them is
pub order_in_ranges : (plan : List (ℕ × Option ℕ)) (round n : ℕ) (slots : List Slot) (orders : List Order) (what : What) (slot : Slot) (order : Order) → length slots ≡ length orders → n < length slots
    → what ≡ what_of (assigned plan n) → slot ≡ get_or slots n slot → order ≡ get_or orders n order
    → ((s : ℕ) → IsOrder (get_or (orders_from 0 plan round slots orders) s no_order)) → IsOrder (ordered what round slot order)
order_in_ranges plan round n slots orders what slot order e within is_what is_slot is_order ranges =
    let from_zero : 0 + n ≡ n = omega arith in
    let empty = get_or_default slots n (Empty 0) slot within in
    let none = get_or_default orders n no_order order (omega (arith, within, e)) in
    subst IsOrder (order_at plan round 0 slots orders n e ∙ cc) (ranges n)

same_what_is : (a b : What) → same_what a b ≡ true → a ≡ b
same_what_is Idle Idle h = refl
same_what_is Idle (Work g) h = absurd (false≢true h)
same_what_is Idle Stop h = absurd (false≢true h)
same_what_is (Work f) Idle h = absurd (false≢true h)
same_what_is (Work f) (Work g) h = ap (λ (n : ℕ). let w : What = Work n in w) (eqb-true f g h)
same_what_is (Work f) Stop h = absurd (false≢true h)
same_what_is Stop Idle h = absurd (false≢true h)
same_what_is Stop (Work g) h = absurd (false≢true h)
same_what_is Stop Stop h = refl

what_same : (a b : What) → a ≡ b → same_what a b ≡ true
what_same a b e = subst (λ (w : What). same_what a w ≡ true) e (itself a)
  where
    itself : (a : What) → same_what a a ≡ true
    itself Idle = refl
    itself (Work f) = eq-eqb f f refl
    itself Stop = refl

live_ordered : (what : What) (round : ℕ) (slot : Slot) (order : Order) → is_live slot ≡ true
    → ((ordered what round slot order).generation ≡ last_generation slot) × ((ordered what round slot order).what ≡ what)
live_ordered what round (Empty last) order h = absurd (false≢true h)
live_ordered what round (Live generation runs ticket) order h =
    cond_both ((order.generation == generation) && same_what order.what what) order (record { generation = generation; round = round; what = what })
    (λ o. (o.generation ≡ generation) × (o.what ≡ what))
    (λ e.
    let t = and_parts (order.generation == generation) (same_what order.what what) e in
    (eqb-true order.generation generation t.0, same_what_is order.what what t.1))
    (λ e. (refl, refl))

-- the order that says this already
stays_ordered : (what : What) (round : ℕ) (slot : Slot) (order : Order) → is_live slot ≡ true → order.generation ≡ last_generation slot → order.what ≡ what
    → ordered what round slot order ≡ order
stays_ordered what round (Empty last) order h g w = absurd (false≢true h)
stays_ordered what round (Live generation runs ticket) order h g w =
    ap (λ (b : Bool). cond (b && same_what order.what what) order (record { generation = generation; round = round; what = what })) (eq-eqb order.generation generation g)
    ∙ ap (λ (b : Bool). cond b order (record { generation = generation; round = round; what = what })) (what_same order.what what w)

numbered : (what : What) (round : ℕ) (slot : Slot) (order : Order) → is_live slot ≡ true
    → (ordered what round slot order ≡ order) ⊎ ((ordered what round slot order).round ≡ round)
numbered what round (Empty last) order h = absurd (false≢true h)
numbered what round (Live generation runs ticket) order h =
    cond_both ((order.generation == generation) && same_what order.what what) order (record { generation = generation; round = round; what = what })
    (λ o. (o ≡ order) ⊎ (o.round ≡ round)) (λ e. inl refl) (λ e. inr refl)

empty_ordered : (what : What) (round : ℕ) (slot : Slot) (order : Order) → is_live slot ≡ false → ordered what round slot order ≡ order
empty_ordered what round (Empty last) order h = refl
empty_ordered what round (Live generation runs ticket) order h = absurd (false≢true (sym h))

pub rounds_order_lem : RoundsOrder
rounds_order_lem settings state h plan backlog short =
    record {
      live = λ s is.
          let t = live_ordered (what_of (assigned plan s)) (state.rounds + 1) (get_or state.slots s (Empty 0)) (get_or state.orders s no_order) is in
          (ap (λ (o : Order). o.generation) (here s) ∙ t.0, ap (λ (o : Order). o.what) (here s) ∙ t.1);
      stays = λ s is g w. here s ∙ stays_ordered (what_of (assigned plan s)) (state.rounds + 1) (get_or state.slots s (Empty 0)) (get_or state.orders s no_order) is g w;
      numbered = λ s is.
          subst (λ (o : Order). (o ≡ get_or state.orders s no_order) ⊎ (o.round ≡ state.rounds + 1)) (sym (here s))
          (numbered (what_of (assigned plan s)) (state.rounds + 1) (get_or state.slots s (Empty 0)) (get_or state.orders s no_order) is);
      empty = λ s is. here s ∙ empty_ordered (what_of (assigned plan s)) (state.rounds + 1) (get_or state.slots s (Empty 0)) (get_or state.orders s no_order) is;
    }
  where
    here : (s : ℕ) → get_or (orders_from 0 plan (state.rounds + 1) state.slots state.orders) s no_order ≡ ordered (what_of (assigned plan s)) (state.rounds + 1) (get_or state.slots s (Empty 0)) (get_or state.orders s no_order)
    here s =
        order_at plan (state.rounds + 1) 0 state.slots state.orders s (h.slots ∙ sym h.orders)
        ∙ ap (λ (m : ℕ). ordered (what_of (assigned plan m)) (state.rounds + 1) (get_or state.slots s (Empty 0)) (get_or state.orders s no_order)) (let i : 0 + s ≡ s = omega arith in i)
