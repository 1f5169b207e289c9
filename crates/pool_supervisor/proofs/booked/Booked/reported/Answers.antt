use Rattle.std.proofs.Common.{arith, refl, ◌∙◌}
use Rattle.pool_core.specs.declared.event.Event.TheVariants as event
use Rattle.pool_supervisor.proofs.Counts.{step_without_round}
use Rattle.pool_supervisor.proofs.booked.Booked.reported.Goals as goal

pub invariant_of-self-2 : goal.invariant_of-self-2
invariant_of-self-2 g c =
    let step = c.in_ok-answer.ensures.0.0 in
    let e = event.Reported c.args.pass.now c.args.ticket c.args.end in
    let t = c.events_count.ensures e c.reported.new.self step in (
      omega (arith, t.0, c.self.invariant.0),
      omega (arith, t.1, c.self.invariant.1, c.add.ensures.total),
      step.settings ∙ c.self.invariant.2,
      step_without_round e c.self.inside.pool c.reported.new.self c.self.inside.rounds c.histories_join.ensures refl step c.self.invariant.3,
    )
