use Rattle.std.specs.Prelude.{◌≡◌, ◌-◌, vec_len}
use Rattle.pool_supervisor.specs.FarmPosts.{PostSinceBy}
use Rattle.pool_supervisor.specs.Rounds.{AreNoted}
use Rattle.pool_supervisor.specs.Tries.{Attempts}
use Rattle.pool_supervisor.proofs.attempts.Supervisor.attempt_all.Given as goal

abbrev pub invariant-loop-site : goal.invariant-loop-site
invariant-loop-site g l =
    PostSinceBy g.N.RunId.until g.N.RunId.settings l.initial.lines.told.items l.lines.told.items l.initial.self.seats.publisher.posts l.self.seats.publisher.posts
    × (l.lines.until ≡ l.initial.lines.until)
    × Attempts g.N.RunId.until g.N.RunId.settings g.N.RunId.allows g.N.RunId.had_jobs l.initial.lines.told.items l.lines.told.items l.initial.self.crew.counts l.self.crew.counts (g.Y.Dial.calls l.initial.self.dial) (g.Y.Dial.calls l.self.dial)
    × AreNoted l.lines.told.items l.self.rounds

abbrev pub decreases-loop-site : goal.decreases-loop-site
decreases-loop-site g l = l.attempts - vec_len l.lines.told
