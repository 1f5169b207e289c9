use Rattle.std.specs.Prelude.{◌≡◌, ◌≤◌}
use Rattle.pool_supervisor.specs.Joined.{Joins}
use Rattle.pool_supervisor.proofs.crew.Crew.join_ended.Given as goal

abbrev pub invariant-loop-at : goal.invariant-loop-at
invariant-loop-at g l = (l.at ≤ l.self.running) × (l.source ≡ l.initial.source) × Joins g.N.RunId.settings g.N.RunId.had_jobs l.initial.self.counts l.self.counts (g.Y.Dial.calls l.initial.dial) (g.Y.Dial.calls l.dial)

abbrev pub decreases-loop-at : goal.decreases-loop-at
decreases-loop-at g l = l.at
