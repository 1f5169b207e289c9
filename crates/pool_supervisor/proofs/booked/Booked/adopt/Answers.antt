use Rattle.std.proofs.Common.{arith, ◌∙◌}
use Rattle.pool_core.specs.declared.event.Event.TheVariants as event
use Rattle.pool_supervisor.proofs.Counts.{one_round}
use Rattle.pool_supervisor.proofs.booked.Booked.adopt.Goals as goal

pub invariant_of-self-2 : goal.invariant_of-self-2
invariant_of-self-2 g c =
    let made = c.in_ok-ran.ensures in
    let step = made.0.0 in
    let t = c.events_count.ensures (event.Round c.args.certified.answer) c.adopt.new.self step in (
      omega (arith, t.0, c.self.invariant.0),
      omega (arith, t.1, c.self.invariant.1),
      step.settings ∙ c.self.invariant.2,
      one_round c.args.certified.answer c.self.inside.pool c.adopt.new.self c.self.inside.rounds c.push.new.self c.in_ok-ran.ran c.histories_join.ensures step made.1
          c.push.ensures.kept c.self.invariant.3,
    )
