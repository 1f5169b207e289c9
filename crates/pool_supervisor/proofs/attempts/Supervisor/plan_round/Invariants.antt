use Rattle.std.specs.Prelude.{◌≡◌}
use Rattle.pool_supervisor.proofs.attempts.Supervisor.plan_round.Given as goal

abbrev pub invariant-loop-turn : goal.invariant-loop-turn
invariant-loop-turn g l =
    (l.self.seats.publisher ≡ l.initial.self.seats.publisher) × (l.self.rounds ≡ l.initial.self.rounds) × (l.self.dial ≡ l.initial.self.dial)
    × (l.self.crew ≡ l.initial.self.crew)
