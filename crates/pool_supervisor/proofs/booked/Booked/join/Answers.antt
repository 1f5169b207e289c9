use Rattle.std.proofs.Common.{◌∙◌, sym, refl}
use Rattle.pool_core.specs.declared.event.Event.TheVariants as event
use Rattle.pool_supervisor.proofs.Counts.{same_totals, same_rounds}
use Rattle.pool_supervisor.proofs.booked.Booked.join.Goals as goal

pub invariant_of-self : goal.invariant_of-self
invariant_of-self g c =
    let h = c.join.ensures in
    let t = same_totals (event.Join c.args.slot) c.self.inside.pool c.join.new.self c.join.result c.events_count.ensures refl refl h.0.0 h.0.1 in
    let rounds = same_rounds (event.Join c.args.slot) c.self.inside.pool c.join.new.self c.self.inside.rounds c.join.result c.histories_join.ensures refl h.0.0 h.0.1 c.self.invariant.3 in
    (c.self.invariant.0 ∙ sym t.0, c.self.invariant.1 ∙ sym t.1, t.2 ∙ c.self.invariant.2, rounds)
