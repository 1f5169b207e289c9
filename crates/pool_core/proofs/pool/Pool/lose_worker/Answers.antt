use Rattle.std.proofs.Common.{sym, subst, arith, ◌≡◌, ◌∙◌, refl, length}
use Rattle.std.specs.Prelude.{true}
use Rattle.worker_state.specs.Slots.{held_ticket}
use Rattle.pool_core.specs.Machine.{slot_in, is_live_in, open_ticket}
use Rattle.pool_core.specs.Book.{Book}
use Rattle.pool_core.specs.Kept.{closing_of, lost_of}
use Rattle.pool_core.specs.View.{state_of}
use Rattle.pool_core.proofs.Calls.{kept_lost, owes_loss, open_given, loss_fits}
use Rattle.pool_core.proofs.pool.Pool.lose_worker.Goals as goal

pub put_lost-owed-requires : goal.put_lost-owed-requires
put_lost-owed-requires c =
    let p = c.self.inside in
    open_given p.settings (state_of p) p.standings.forgotten c.self.invariant.0.sound c.self.invariant.0.prefix c.args.worker c.held_ticket-ticket.result (cc) (length p.standings.items) refl

pub overflow_sub-self : goal.overflow_sub-self
overflow_sub-self c =
    let p = c.self.inside in
    let owed : c.put_lost-owed.result ≡ closing_of p.standings.items (open_ticket (state_of p) c.args.worker) = cc in
    omega (arith, owed, owes_loss p.settings p.chapters p.standings.forgotten p.events.items (state_of p) p.owed p.reported p.lost _ c.self.invariant.0 c.args.worker (subst (λ (b : Book). is_live_in b.state c.args.worker ≡ true) (sym c.self.view_is) c.requires))

pub invariant_of-self : goal.invariant_of-self
invariant_of-self c =
    let p = c.self.inside in
    let w = c.args.worker in
    let ticket : c.held_ticket-ticket.result ≡ held_ticket (slot_in p.slots.items w.slot) = cc in
    let owed : c.put_lost-owed.result ≡ closing_of p.standings.items (held_ticket (slot_in p.slots.items w.slot)) = cc in
    let lost : c.lost_jobs-jobs.result ≡ lost_of (held_ticket (slot_in p.slots.items w.slot)) = cc in (
      rw (owed, lost, c.put_lost-owed.ensures.forgotten) (kept_lost p.settings p.chapters p.standings.forgotten p.events.items (state_of p) p.owed p.reported p.lost _ c.self.invariant.0
          w c.args.cause (subst (λ (b : Book). is_live_in b.state w ≡ true) (sym c.self.view_is) c.requires)
          c.push_reserved.new.self.items c.push_reserved.ensures.items
          c.put_slot.new.slots.items c.put_slot.ensures
          c.put_lost-owed.new.standings.items (cc)
          _ c.push_reserved.ensures.capacity),
      c.self.invariant.1 ∙ sym c.put_lost-owed.ensures.forgotten,
    )

pub overflow_add-self-2 : goal.overflow_add-self-2
overflow_add-self-2 c =
    let p = c.self.inside in
    let w = c.args.worker in
    let lost : c.lost_jobs-jobs.result ≡ lost_of (held_ticket (slot_in p.slots.items w.slot)) = cc in
    omega (
      arith,
      lost,
      loss_fits p.settings p.chapters p.standings.forgotten p.events.items (state_of p) p.owed p.reported p.lost _ c.self.invariant.0 w
          (subst (λ (b : Book). is_live_in b.state w ≡ true) (sym c.self.view_is) c.requires),
      c.len-grabbed.ensures,
      c.len-grabbed.type_inv,
    )
