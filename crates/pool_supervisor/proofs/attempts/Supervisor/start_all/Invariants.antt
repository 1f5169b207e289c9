use Rattle.std.specs.Prelude.{◌≡◌}
use Rattle.pool_supervisor.specs.FarmPosts.{PostsMore}
use Rattle.pool_supervisor.specs.Tries.{Fills}
use Rattle.pool_supervisor.proofs.attempts.Supervisor.start_all.Given as goal

abbrev pub invariant-loop-number : goal.invariant-loop-number
invariant-loop-number g l =
    PostsMore g.N.RunId.until l.initial.self.seats.publisher.posts l.self.seats.publisher.posts × (l.self.rounds ≡ l.initial.self.rounds) × (l.self.crew.counts ≡ l.initial.self.crew.counts)
    × Fills g.N.RunId.allows l.number (g.Y.Dial.calls l.initial.self.dial) (g.Y.Dial.calls l.self.dial)
