use Rattle.std.proofs.Common.{ap, ◌∙◌, sym, subst, arith, ◌<◌, List, ◌∷◌, [], ◌++◌, None, length, ◌+◌, ◌≡◌, ℕ}
use Rattle.std.specs.Prelude.{slice_set}
use Rattle.worker_state.specs.declared.slot.Slot.TheVariants.{Live}
use Rattle.worker_state.specs.Slots.{last_generation}
use Rattle.pool_core.specs.declared.event.Event.{Event}
use Rattle.pool_core.specs.declared.event.Event.TheVariants as event
use Rattle.pool_core.specs.Machine.{slot_in}
use Rattle.pool_core.specs.Book.{Book, join_refusal}
use Rattle.pool_core.specs.View.{state_of}
use Rattle.pool_core.proofs.Calls.{kept_join}
use Rattle.pool_core.proofs.pool.Pool.join.Goals as goal

pub invariant_of-self-2 : goal.invariant_of-self-2
invariant_of-self-2 c =
    let p = c.self.inside in
    let last : c.last_generation-generation.result ≡ last_generation (slot_in p.slots.items c.args.slot) = cc in (
      kept_join p.settings p.chapters p.standings.forgotten p.events.items (state_of p) p.owed p.reported p.lost _ c.self.invariant.0
          c.args.slot (subst (λ (b : Book). c.args.slot < length b.state.slots) (sym c.self.view_is) c.requires)
          (ap (λ (b : Book). join_refusal b c.args.slot) c.self.view_is ∙ (sym c.join_refusal.ensures ∙ c.in_default.is))
          c.push_reserved.new.self.items (c.push_reserved.ensures.items ∙ ap (λ (es : List Event). es ++ event.Join c.args.slot ∷ []) c.in_ok-reserve.ensures.items)
          c.put_slot.new.slots.items (c.put_slot.ensures ∙ ap (λ (n : ℕ). slice_set p.slots.items c.args.slot (Live (n + 1) 0 None)) last)
          c.put_order.new.orders.items (cc)
          _ (omega (arith, c.in_ok-reserve.ensures.ok, c.in_ok-reserve.ensures.len, p.events.ok.0, c.push_reserved.ensures.capacity)),
      c.self.invariant.1,
    )
