use Rattle.std.specs.Prelude.{List, []}
use Rattle.pool_supervisor.specs.declared.attempt.Attempt.{Attempt}
use Rattle.pool_supervisor.specs.FarmPosts.{PostSinceBy}
use Rattle.pool_supervisor.specs.Rounds.{AreNoted}
use Rattle.pool_supervisor.specs.Tries.{Attempts}
use Rattle.pool_supervisor.proofs.attempts.Supervisor.attempt_until_ended.Given as goal

abbrev pub invariant-loop-attempt : goal.invariant-loop-attempt
invariant-loop-attempt g l =
    (lines : List Attempt) × PostSinceBy g.N.RunId.until g.N.RunId.settings [] lines l.initial.self.seats.publisher.posts l.self.seats.publisher.posts
    × Attempts g.N.RunId.until g.N.RunId.settings g.N.RunId.allows g.N.RunId.had_jobs [] lines l.initial.self.crew.counts l.self.crew.counts (g.Y.Dial.calls l.initial.self.dial) (g.Y.Dial.calls l.self.dial)
    × AreNoted lines l.self.rounds
