use Rattle.std.specs.Prelude.{◌≡◌, []}
use Rattle.pool_supervisor.specs.FarmPosts.{PostsMore}
use Rattle.pool_supervisor.specs.Tries.{Attempts}
use Rattle.pool_supervisor.proofs.attempts.Supervisor.rest_and_refill.Given as goal

abbrev pub invariant-loop-refill : goal.invariant-loop-refill
invariant-loop-refill g l =
    PostsMore g.N.RunId.until l.initial.self.seats.publisher.posts l.self.seats.publisher.posts × (l.self.rounds ≡ l.initial.self.rounds)
    × Attempts g.N.RunId.until g.N.RunId.settings g.N.RunId.allows g.N.RunId.had_jobs [] [] l.initial.self.crew.counts l.self.crew.counts
    (g.Y.Dial.calls l.initial.self.dial) (g.Y.Dial.calls l.self.dial)
