use Rattle.std.proofs.Common.{ap, ◌∙◌, sym, arith, None, ◌+◌, ◌≤◌, ◌≡◌, cond}
use Rattle.std.proofs.lemmas.Bool.{cond_both}
use Rattle.std.specs.Prelude.{slice_set, if◌then◌else◌, nat_lt}
use Rattle.worker_state.specs.declared.slot.Slot.TheVariants.{Empty, Live}
use Rattle.worker_state.specs.Slots.{run_count}
use Rattle.pool_core.specs.Machine.{slot_in}
use Rattle.pool_core.specs.Book.{Book, report_refusal}
use Rattle.pool_core.specs.View.{state_of}
use Rattle.pool_core.proofs.Calls.{kept_reported, report_later, report_fits, owes_report, owes_after_report, report_within}
use Rattle.pool_core.proofs.pool.Pool.reported.Goals as goal

pub overflow_sub-self-2 : goal.overflow_sub-self-2
overflow_sub-self-2 c =
    let p = c.self.inside in
    let w = c.name-worker.result in
    report_within p.owed c.owed_by_worker.result c.stays-stays.result c.owed_by_worker.ensures
    (owes_report p.settings p.chapters p.standings.forgotten p.events.items (state_of p) p.owed p.reported p.lost _ c.self.invariant.0 w c.args.ticket (ap (λ (b : Book). report_refusal b w c.args.ticket) c.self.view_is ∙ (sym c.report_refusal.ensures ∙ c.in_default.is)) c.stays-stays.result (c.stays-stays.ensures.stays ∙ ap (λ (b : Book). nat_lt (run_count (slot_in b.state.slots w.slot) + 1) b.settings.max_runs) (sym c.self.view_is)))

pub invariant_of-self : goal.invariant_of-self
invariant_of-self c =
    let p = c.self.inside in
    let w = c.name-worker.result in
    let runs : c.run_count-runs.result ≡ run_count (slot_in p.slots.items w.slot) = cc in
    let slots : c.put_slot.new.slots.items ≡ slice_set p.slots.items w.slot (if c.stays-stays.result then Live w.generation (run_count (slot_in p.slots.items w.slot) + 1) None else Empty w.generation) = cc in (
      rw c.put_standing.ensures.forgotten (kept_reported p.settings p.chapters p.standings.forgotten p.events.items (state_of p) p.owed p.reported p.lost _ c.self.invariant.0
          w c.args.ticket c.args.end
          (ap (λ (b : Book). report_refusal b w c.args.ticket) c.self.view_is ∙ (sym c.report_refusal.ensures ∙ c.in_default.is))
          c.stays-stays.result (c.stays-stays.ensures.stays ∙ ap (λ (b : Book). nat_lt (run_count (slot_in b.state.slots w.slot) + 1) b.settings.max_runs) (sym c.self.view_is))
          c.push_reserved.new.self.items c.push_reserved.ensures.items
          c.put_slot.new.slots.items slots
          c.put_standing.new.standings.items c.put_standing.ensures.items
          _ (owes_after_report p.owed c.owed_by_worker.result c.stays-stays.result c.owed_by_worker.ensures (owes_report p.settings p.chapters p.standings.forgotten p.events.items (state_of p) p.owed p.reported p.lost _ c.self.invariant.0 w c.args.ticket (ap (λ (b : Book). report_refusal b w c.args.ticket) c.self.view_is ∙ (sym c.report_refusal.ensures ∙ c.in_default.is)) c.stays-stays.result (c.stays-stays.ensures.stays ∙ ap (λ (b : Book). nat_lt (run_count (slot_in b.state.slots w.slot) + 1) b.settings.max_runs) (sym c.self.view_is))))
          _ c.push_reserved.ensures.capacity),
      c.self.invariant.1 ∙ sym c.put_standing.ensures.forgotten,
    )

pub push_reserved-requires : goal.push_reserved-requires
push_reserved-requires c =
    let p = c.self.inside in
    let w = c.name-worker.result in
    let few : cond c.stays-stays.result 1 0 ≤ 1 = cond_both c.stays-stays.result 1 0 (λ n. n ≤ 1) (λ e. omega arith) (λ e. omega arith) in
    let owed = owes_report p.settings p.chapters p.standings.forgotten p.events.items (state_of p) p.owed p.reported p.lost _ c.self.invariant.0 w c.args.ticket (ap (λ (b : Book). report_refusal b w c.args.ticket) c.self.view_is ∙ (sym c.report_refusal.ensures ∙ c.in_default.is)) c.stays-stays.result (c.stays-stays.ensures.stays ∙ ap (λ (b : Book). nat_lt (run_count (slot_in b.state.slots w.slot) + 1) b.settings.max_runs) (sym c.self.view_is)) in
    omega (arith, few, owed, c.self.invariant.0.reserved, p.events.ok.0)

pub put_standing-requires-clause-kept : goal.put_standing-requires-clause-kept
put_standing-requires-clause-kept c =
    let p = c.self.inside in
    report_later p.settings p.chapters p.standings.forgotten p.events.items (state_of p) p.owed p.reported p.lost _ c.self.invariant.0 c.name-worker.result c.args.ticket
    (ap (λ (b : Book). report_refusal b c.name-worker.result c.args.ticket) c.self.view_is ∙ (sym c.report_refusal.ensures ∙ c.in_default.is))

pub overflow_add-self : goal.overflow_add-self
overflow_add-self c =
    let p = c.self.inside in
    omega (
      arith,
      report_fits p.settings p.chapters p.standings.forgotten p.events.items (state_of p) p.owed p.reported p.lost _ c.self.invariant.0 c.name-worker.result c.args.ticket
          (ap (λ (b : Book). report_refusal b c.name-worker.result c.args.ticket) c.self.view_is ∙ (sym c.report_refusal.ensures ∙ c.in_default.is)),
      c.len-grabbed.ensures,
      c.len-grabbed.type_inv,
    )
