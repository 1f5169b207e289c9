use Rattle.std.proofs.Common.{arith, refl, ◌∙◌}
use Rattle.pool_core.specs.declared.event.Event.TheVariants as event
use Rattle.pool_supervisor.proofs.Counts.{step_without_round}
use Rattle.pool_supervisor.proofs.booked.Booked.grab.Goals as goal

pub invariant_of-self-2 : goal.invariant_of-self-2
invariant_of-self-2 g c =
    let step = c.in_ok-ticket.ensures.0.0 in
    let e = event.Grab c.args.pass.now c.args.handle c.args.function.now c.args.now_ms in
    let t = c.events_count.ensures e c.grab.new.self step in (
      omega (arith, t.0, c.self.invariant.0, c.add.ensures.total),
      omega (arith, t.1, c.self.invariant.1),
      step.settings ∙ c.self.invariant.2,
      step_without_round e c.self.inside.pool c.grab.new.self c.self.inside.rounds c.histories_join.ensures refl step c.self.invariant.3,
    )
