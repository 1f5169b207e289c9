use Rattle.std.proofs.Common.{◌∙◌, sym, refl}
use Rattle.pool_core.specs.declared.event.Event.TheVariants as event
use Rattle.pool_supervisor.proofs.Counts.{same_totals, same_rounds}
use Rattle.pool_supervisor.proofs.booked.Booked.begin_report.Goals as goal

pub invariant_of-self : goal.invariant_of-self
invariant_of-self g c =
    let h = c.begin_report.ensures in
    let t = same_totals (event.Begin c.args.pass.now c.args.ticket) c.self.inside.pool c.begin_report.new.self c.begin_report.result c.events_count.ensures refl refl h.0.0 h.0.1 in
    let rounds = same_rounds (event.Begin c.args.pass.now c.args.ticket) c.self.inside.pool c.begin_report.new.self c.self.inside.rounds c.begin_report.result c.histories_join.ensures refl h.0.0 h.0.1 c.self.invariant.3 in
    (c.self.invariant.0 ∙ sym t.0, c.self.invariant.1 ∙ sym t.1, t.2 ∙ c.self.invariant.2, rounds)
