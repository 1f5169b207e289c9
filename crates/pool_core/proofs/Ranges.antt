-- The orders of a round are within their ranges: its functions are permitted, so they are functions of the settings.
use Rattle.std.proofs.Common.{◌≡◌, ℕ, zero, suc, ◌+◌, ◌<◌, ◌≤◌, Bool, true, false, List, [], ◌∷◌, length, map, get_or, Option, None, Some, refl, sym, ◌∙◌, subst, arith}
use Rattle.std.specs.List.{list_all, list_any}
use Rattle.std.specs.Prelude.{All, ◌==◌, ◌||◌, ◌&&◌, if◌then◌else◌}
use Rattle.std.proofs.lemmas.Bool.{and_parts, cond_both, eqb-true, false≢true}
use Rattle.plan_model.specs.Planning.{Instance, assigned, is_permitted, may_have}
use Rattle.pool_settings.specs.Settings.{Settings, AreSettings}
use Rattle.pool_settings.specs.Slots.{owners, live_workers, slots as slot_count}
use Rattle.worker_state.specs.declared.order.Order.{Order}
use Rattle.worker_state.specs.declared.order.What.{What}
use Rattle.worker_state.specs.declared.slot.Slot.{Slot}
use Rattle.worker_state.specs.declared.slot.Slot.TheVariants.{Empty, Live}
use Rattle.worker_state.specs.Orders.{no_order, IsOrder, IsTaskWithin}
use Rattle.worker_state.specs.Limits.{max_generation}
use Rattle.worker_state.specs.Slots.{is_live, last_generation}
use Rattle.pool_core.specs.Machine.{ordered, orders_from, same_what, what_of}
use Rattle.pool_core.specs.Walk.{live_from}
use Rattle.pool_core.proofs.Inputs.{walked, length-owners_from}

below_by : (g f limit : ℕ) (gs : List ℕ) (b : Bool) → (g == f) ≡ b → g < limit → (list_any (λ h. h == f) gs ≡ true → f < limit) → (b || list_any (λ h. h == f) gs) ≡ true → f < limit
below_by g f limit gs true e here rest h = omega (arith, eqb-true g f e, here)
below_by g f limit gs false e here rest h = rest h

-- what stands in a row is below what all of the row are below
row_below : (row : List ℕ) (f limit : ℕ) → All (λ g. g < limit) row → list_any (λ g. g == f) row ≡ true → f < limit
row_below [] f limit all h = absurd (false≢true h)
row_below (g ∷ gs) f limit all h =
    below_by g f limit gs (g == f) refl (all 0 0 (omega arith)) (row_below gs f limit (λ k d within. all (suc k) d (omega (arith, within)))) h

rows_below : (rows : List (List ℕ)) (machine f limit : ℕ) → All (λ row. All (λ g. g < limit) row) rows → list_any (λ g. g == f) (get_or rows machine []) ≡ true → f < limit
rows_below [] machine f limit all h = absurd (false≢true h)
rows_below (row ∷ rows) zero f limit all h = row_below row f limit (all 0 [] (omega arith)) h
rows_below (row ∷ rows) (suc machine) f limit all h = rows_below rows machine f limit (λ k d within. all (suc k) d (omega (arith, within))) h

what_within : (i : Instance) → All (λ row. All (λ g. g < 1024) row) i.may → (machine : ℕ) (o : Option ℕ) → may_have i machine o ≡ true → IsTaskWithin (what_of o)
what_within i rows machine None h = tt
what_within i rows machine (Some f) h = rows_below i.may machine f 1024 rows h

order_within : (what : What) (round : ℕ) (slot : Slot) (order : Order) → IsOrder order → last_generation slot ≤ max_generation → (is_live slot ≡ true → IsTaskWithin what) → IsOrder (ordered what round slot order)
order_within what round (Empty last) order h few known = h
order_within what round (Live generation runs ticket) order h few known =
    cond_both ((order.generation == generation) && same_what order.what what) order (record { generation = generation; round = round; what = what }) IsOrder (λ e. h) (λ e. record { generation = few; function = known refl })

-- the first live worker of a walk, and those after it
walk_parts : (p : (ℕ × ℕ) → Bool) (b : Bool) (worker : ℕ × ℕ) (rest : List (ℕ × ℕ)) → list_all p (if b then worker ∷ rest else rest) ≡ true → (b ≡ true → p worker ≡ true) × (list_all p rest ≡ true)
walk_parts p true worker rest h = let t = and_parts (p worker) (list_all p rest) h in (λ e. t.0, t.1)
walk_parts p false worker rest h = (λ e. absurd (false≢true e), h)

orders_within : (i : Instance) → All (λ row. All (λ g. g < 1024) row) i.may → (plan : List (ℕ × Option ℕ)) (round number : ℕ) (slots : List Slot) (machines : List ℕ) (orders : List Order) → length slots ≡ length machines
    → list_all (λ worker. may_have i worker.1 (assigned plan worker.0)) (live_from number machines slots) ≡ true
    → ((s : ℕ) → last_generation (get_or slots s (Empty 0)) ≤ max_generation) → ((s : ℕ) → IsOrder (get_or orders s no_order))
    → (s : ℕ) → IsOrder (get_or (orders_from number plan round slots orders) s no_order)
orders_within i rows plan round number [] machines orders e h few known s = known s
orders_within i rows plan round number (slot ∷ slots) [] orders e h few known s = absurd (omega arith)
orders_within i rows plan round number (slot ∷ slots) (machine ∷ machines) [] e h few known s = record { generation = omega arith; function = tt }
orders_within i rows plan round number (slot ∷ slots) (machine ∷ machines) (order ∷ orders) e h few known zero =
    let t = walk_parts (λ worker. may_have i worker.1 (assigned plan worker.0)) (is_live slot) (number, machine) (live_from (number + 1) machines slots) h in
    order_within (what_of (assigned plan number)) round slot order (known 0) (few 0) (λ live. what_within i rows machine (assigned plan number) (t.0 live))
orders_within i rows plan round number (slot ∷ slots) (machine ∷ machines) (order ∷ orders) e h few known (suc s) =
    let t = walk_parts (λ worker. may_have i worker.1 (assigned plan worker.0)) (is_live slot) (number, machine) (live_from (number + 1) machines slots) h in
    orders_within i rows plan round (number + 1) slots machines orders (omega arith) t.1 (λ k. few (suc k)) (λ k. known (suc k)) s

-- the orders after a round with a plan
pub ranges_after : (settings : Settings) → AreSettings settings → (i : Instance) → i.may ≡ settings.may → (slots : List Slot) → length slots ≡ slot_count settings → i.live ≡ live_workers settings (map is_live slots)
    → (plan : List (ℕ × Option ℕ)) (round : ℕ) (orders : List Order) → is_permitted i (assigned plan) ≡ true
    → ((s : ℕ) → last_generation (get_or slots s (Empty 0)) ≤ max_generation) → ((s : ℕ) → IsOrder (get_or orders s no_order))
    → (s : ℕ) → IsOrder (get_or (orders_from 0 plan round slots orders) s no_order)
ranges_after settings r i may slots long live plan round orders permitted few known =
    let rows : All (λ row. All (λ g. g < 1024) row) settings.may = λ k d within j e inside. omega (arith, r.may_within k d within j e inside, r.functions_few) in
    orders_within i (subst (λ (m : List (List ℕ)). All (λ row. All (λ g. g < 1024) row) m) (sym may) rows) plan round 0 slots (owners settings) orders (long ∙ sym (length-owners_from 0 settings.workers))
    (subst (λ (xs : List (ℕ × ℕ)). list_all (λ worker. may_have i worker.1 (assigned plan worker.0)) xs ≡ true) (live ∙ walked settings slots long) permitted) few known
