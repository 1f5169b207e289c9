use Rattle.std.proofs.Common.{ap, ◌∙◌, sym, arith, List, ◌∷◌, [], ◌++◌, Some, length, ◌+◌, ◌≡◌, ℕ}
use Rattle.std.specs.Prelude.{slice_set}
use Rattle.worker_state.specs.declared.job.Standing.{Standing}
use Rattle.worker_state.specs.declared.job.Standing.TheVariants.{Running}
use Rattle.pool_core.specs.declared.event.Job.{Job}
use Rattle.worker_state.specs.declared.slot.Slot.TheVariants.{Live}
use Rattle.worker_state.specs.Slots.{run_count}
use Rattle.pool_core.specs.declared.event.Event.{Event}
use Rattle.pool_core.specs.declared.event.Event.TheVariants as event
use Rattle.pool_core.specs.Machine.{slot_in}
use Rattle.pool_core.specs.Book.{Book, grab_refusal}
use Rattle.pool_core.specs.View.{state_of}
use Rattle.pool_core.proofs.Calls.{kept_grab, kept_room}
use Rattle.pool_core.proofs.pool.Pool.grab.Goals as goal

pub invariant_of-self-2 : goal.invariant_of-self-2
invariant_of-self-2 c =
    let p = c.self.inside in
    let w = c.name-worker.result in
    let later : c.push_reserved-2.new.self.forgotten ≡ p.standings.forgotten = c.push_reserved-2.ensures.forgotten ∙ c.in_ok-reserve_job.ensures.standings.1 in
    let prefix : c.push_reserved.new.self.forgotten ≡ c.push_reserved-2.new.self.forgotten = c.push_reserved.ensures.forgotten ∙ c.in_ok-reserve_job.ensures.jobs.1 ∙ c.self.invariant.1 ∙ sym later in
    let runs : c.run_count-runs.result ≡ run_count (slot_in p.slots.items w.slot) = cc in
    let given : c.len.result ≡ length p.standings.items = c.len.ensures ∙ ap length c.in_ok-reserve_job.ensures.standings.0 in
    let logged : c.push_reserved-3.new.self.items ≡ c.reserve_job.new.events.items ++ event.Grab w c.args.handle c.in_ok-noted.noted c.args.now_ms ∷ [] = c.push_reserved-3.ensures.items in
    let assigned : c.push_reserved.new.self.items ≡ c.reserve_job.new.jobs.items ++ record { handle = c.copy.result; function = c.in_ok-function.function } ∷ [] = c.push_reserved.ensures.items in
    let stood : c.push_reserved-2.new.self.items ≡ c.reserve_job.new.standings.items ++ Running ∷ [] = c.push_reserved-2.ensures.items in (
      rw later (kept_grab p.settings p.chapters p.standings.forgotten p.events.items (state_of p) p.owed p.reported p.lost _ c.self.invariant.0
          w c.args.handle c.args.function.now c.args.now_ms
          (ap (λ (b : Book). grab_refusal b w) c.self.view_is ∙ (sym c.grab_refusal.ensures ∙ c.in_default.is))
          c.push_reserved-3.new.self.items (logged ∙ ap (λ (es : List Event). es ++ event.Grab w c.args.handle c.in_ok-noted.noted c.args.now_ms ∷ []) c.in_ok-reserve_job.ensures.events ∙ ap (λ (f : List ℕ). p.events.items ++ event.Grab w c.args.handle f c.args.now_ms ∷ []) (c.in_ok-noted.ensures ∙ c.in_ok-function.ensures))
          c.put_slot.new.slots.items (c.put_slot.ensures ∙ ap (λ (k : ℕ). slice_set p.slots.items w.slot (Live w.generation c.run_count-runs.result (Some k))) c.new-ticket.ensures ∙ ap (λ (n : ℕ). slice_set p.slots.items w.slot (Live w.generation n (Some (c.len.result + 1)))) runs ∙ ap (λ (n : ℕ). slice_set p.slots.items w.slot (Live w.generation (run_count (slot_in p.slots.items w.slot)) (Some (n + 1)))) given)
          c.put_time.new.times.items c.put_time.ensures
          c.push_reserved.new.self.items (assigned ∙ ap (λ (xs : List Job). xs ++ record { handle = c.copy.result; function = c.in_ok-function.function } ∷ []) c.in_ok-reserve_job.ensures.jobs.0 ∙ ap (λ (h : List ℕ). p.jobs.items ++ record { handle = h; function = c.in_ok-function.function } ∷ []) c.copy.ensures ∙ ap (λ (f : List ℕ). p.jobs.items ++ record { handle = c.args.handle; function = f } ∷ []) c.in_ok-function.ensures)
          c.push_reserved-2.new.self.items (stood ∙ ap (λ (xs : List Standing). xs ++ Running ∷ []) c.in_ok-reserve_job.ensures.standings.0)
          _ (omega (arith, c.in_ok-reserve_job.ensures.room.2, c.reserve_job.new.events.ok.0, ap length c.in_ok-reserve_job.ensures.events, c.push_reserved-3.ensures.capacity))),
      prefix,
    )

pub invariant_of-self : goal.invariant_of-self
invariant_of-self c =
    let p = c.self.inside in (
      kept_room p.settings p.chapters p.standings.forgotten p.events.items (state_of p) p.owed p.reported p.lost _ c.self.invariant.0
          c.reserve_job.new.events.items c.in_err-reserve_job.ensures.events
          c.reserve_job.new.jobs.items c.in_err-reserve_job.ensures.jobs.0
          c.reserve_job.new.standings.items c.in_err-reserve_job.ensures.standings.0
          c.reserve_job.new.standings.forgotten c.in_err-reserve_job.ensures.standings.1
          _ c.in_err-reserve_job.ensures.capacity,
      c.in_err-reserve_job.ensures.jobs.1 ∙ c.self.invariant.1 ∙ sym c.in_err-reserve_job.ensures.standings.1,
    )
