use Rattle.std.proofs.Common.{◌≡◌, ◌+◌, ◌≤◌, List, ◌∷◌, [], ◌++◌, length, refl, ap, ◌∙◌, sym, subst, arith}
use Rattle.std.specs.Prelude.{slice_index_or}
use Rattle.std.proofs.lemmas.Bool.{leb-true}
use Rattle.worker_state.specs.declared.order.Order.{Order}
use Rattle.worker_state.specs.Orders.{no_order, IsOrder}
use Rattle.plan_model.specs.declared.answer.Answer.TheVariants as answers
use Rattle.pool_core.specs.declared.event.Event.{Event}
use Rattle.pool_core.specs.declared.event.Event.TheVariants as event
use Rattle.pool_core.specs.Machine.{owed, IsPossible, orders_from}
use Rattle.pool_core.specs.Book.{Book, has_room}
use Rattle.pool_core.specs.View.{state_of}
use Rattle.pool_core.proofs.Sound.{length-orders_from, sound_round}
use Rattle.pool_core.proofs.Calls.{kept_plan, orders_same}
use Rattle.pool_core.proofs.pool.Pool.record_plan.Goals as goal

pub orders_after-requires-clause-ranges : goal.orders_after-requires-clause-ranges
orders_after-requires-clause-ranges c =
    let p = c.self.inside in
    let answer = answers.Planned c.args.plan c.args.backlog c.args.short in
    let possible = subst (λ (b : Book). IsPossible b.settings (event.Round answer) b.state) (sym c.self.view_is) c.requires.possible in
    λ s. subst (λ (orders : List Order). IsOrder (slice_index_or orders s no_order))
    (sym (orders_same c.args.plan c.args.plan (p.rounds + 1) p.slots.items _ p.orders.items _ refl c.as_slice.ensures.value c.as_slice-2.ensures.value))
    ((sound_round p.settings answer (state_of p) c.self.invariant.0.in_range c.self.invariant.0.sound possible).ranges s)

pub moved-moved-requires-clause-new : goal.moved-moved-requires-clause-new
moved-moved-requires-clause-new c =
    let p = c.self.inside in
    let h = c.self.invariant.0.sound in
    let made : c.in_ok-orders.orders.items ≡ orders_from 0 c.args.plan (p.rounds + 1) p.slots.items p.orders.items =
    c.in_ok-orders.ensures ∙ orders_same c.args.plan c.args.plan (p.rounds + 1) p.slots.items _ p.orders.items _ refl c.as_slice.ensures.value c.as_slice-2.ensures.value in
    omega (arith, ap length c.as_slice-3.ensures.value, h.slots, h.orders, length-orders_from c.args.plan (p.rounds + 1) 0 p.slots.items p.orders.items (h.slots ∙ sym h.orders), ap length made, ap length c.as_slice-5.ensures.value)

pub invariant_of-self-2 : goal.invariant_of-self-2
invariant_of-self-2 c =
    let p = c.self.inside in
    let room : length p.events.items + owed (state_of p) + 1 ≤ p.settings.history = leb-true _ _ (ap (λ (b : Book). has_room b 1) c.self.view_is ∙ c.requires.room) in (
      kept_plan p.settings p.chapters p.standings.forgotten p.events.items (state_of p) p.owed p.reported p.lost _ c.self.invariant.0
          c.args.plan c.args.backlog c.args.short
          (subst (λ (b : Book). IsPossible b.settings (event.Round (answers.Planned c.args.plan c.args.backlog c.args.short)) b.state) (sym c.self.view_is) c.requires.possible) room
          c.push_reserved.new.self.items (c.push_reserved.ensures.items ∙ ap (λ (es : List Event). es ++ event.Round (answers.Planned c.args.plan c.args.backlog c.args.short) ∷ []) c.in_ok-reserve.ensures.items)
          c.in_ok-orders.orders.items (c.in_ok-orders.ensures ∙ orders_same c.args.plan c.args.plan (p.rounds + 1) p.slots.items _ p.orders.items _ refl c.as_slice.ensures.value c.as_slice-2.ensures.value)
          c.in_ok-noted.noted c.in_ok-noted.ensures
          _ (omega (arith, c.in_ok-reserve.ensures.ok, c.in_ok-reserve.ensures.len, p.events.ok.0, c.push_reserved.ensures.capacity)),
      c.self.invariant.1,
    )
