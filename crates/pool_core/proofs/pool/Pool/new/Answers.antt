use Rattle.std.proofs.Common.{sym, ◌≡◌, ℕ, ap, ◌∙◌}
use Rattle.std.specs.Prelude.{replicate}
use Rattle.worker_state.specs.declared.slot.Slot.TheVariants.{Empty}
use Rattle.worker_state.specs.Orders.{no_order}
use Rattle.pool_settings.specs.Slots.{slots as slot_count}
use Rattle.pool_core.proofs.Calls.{kept_first}
use Rattle.pool_core.proofs.pool.Pool.new.Goals as goal

pub invariant_of-result : goal.invariant_of-result
invariant_of-result c =
    let n = slot_count c.args.settings in
    let slots : c.in_ok-slots.slots.items ≡ replicate n (Empty 0) = c.in_ok-slots.ensures ∙ ap (λ (k : ℕ). replicate k (Empty 0)) c.slots-count.ensures.all in
    let times : c.in_ok-grab_times.grab_times.items ≡ replicate n 0 = c.in_ok-grab_times.ensures ∙ ap (λ (k : ℕ). replicate k 0) c.slots-count.ensures.all in
    let orders : c.in_ok-orders.orders.items ≡ replicate n no_order = c.in_ok-orders.ensures ∙ ap (λ (k : ℕ). replicate k no_order) c.slots-count.ensures.all in (
      rw c.new-2.ensures.forgotten (kept_first c.args.settings c.slots-count.ensures.valid _
          c.in_ok-slots.slots.items slots
          c.in_ok-grab_times.grab_times.items times
          c.in_ok-orders.orders.items orders
          c.new.result.items c.new.ensures.items
          c.new-2.result.items c.new-2.ensures.items
          c.new-3.result.items c.new-3.ensures.items),
      c.new.ensures.forgotten ∙ sym c.new-2.ensures.forgotten,
    )
