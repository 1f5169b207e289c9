use Rattle.std.proofs.Common.{[], ap, ◌∙◌}
use Rattle.pool_supervisor.specs.Sessions.{Sessions}
use Rattle.pool_supervisor.proofs.Tries.{one_attempt}
use Rattle.pool_supervisor.proofs.attempts.Supervisor.attempt.Goals as goal

pub returns-clause-calls : goal.returns-clause-calls
returns-clause-calls g c =
    let same = ap (λ (s : Sessions). s.counts) c.make_round-attempt.ensures.crew ∙ c.fill.ensures.counts in
    one_attempt g.N.RunId.until g.N.RunId.settings g.N.RunId.allows g.N.RunId.had_jobs c.make_round-attempt.result c.args.self.now.crew.counts _ c.make_round-attempt.new.self.crew.counts
    (g.Y.Dial.calls c.args.self.now.dial) _ _ (g.Y.Dial.calls c.make_round-attempt.new.self.dial)
    c.join_ended.ensures.joins same c.in_ok-fill.ensures.fills c.make_round-attempt.ensures.tells
