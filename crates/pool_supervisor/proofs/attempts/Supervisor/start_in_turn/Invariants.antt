use Rattle.std.specs.Prelude.{◌≡◌, ℕ, List, length}
use Rattle.slot_turns.specs.Turns.{HaveCome}
use Rattle.pool_supervisor.specs.FarmPosts.{PostsMore}
use Rattle.pool_supervisor.specs.Tries.{FillsThese}
use Rattle.pool_supervisor.proofs.attempts.Supervisor.start_in_turn.Given as goal

abbrev pub invariant-loop-turn : goal.invariant-loop-turn
invariant-loop-turn g l =
    PostsMore g.N.RunId.until l.initial.self.seats.publisher.posts l.self.seats.publisher.posts × (l.self.rounds ≡ l.initial.self.rounds)
    × (l.self.crew.counts ≡ l.initial.self.crew.counts)
    × ((came : List ℕ) × HaveCome came l.initial.self.turns l.self.turns × (length came ≡ l._turn)
    × FillsThese g.N.RunId.settings g.N.RunId.allows came (g.Y.Dial.calls l.initial.self.dial) (g.Y.Dial.calls l.self.dial))
