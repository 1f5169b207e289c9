use Rattle.std.specs.Prelude.{◌≡◌}
use Rattle.pool_supervisor.specs.Joined.{Joins}
use Rattle.pool_supervisor.proofs.crew.Crew.join_all.Given as goal

abbrev pub invariant-loop-self : goal.invariant-loop-self
invariant-loop-self g l = (l.source ≡ l.initial.source) × Joins g.N.RunId.settings g.N.RunId.had_jobs l.initial.self.counts l.self.counts (g.Y.Dial.calls l.initial.dial) (g.Y.Dial.calls l.dial)

abbrev pub decreases-loop-self : goal.decreases-loop-self
decreases-loop-self g l = l.self.running
