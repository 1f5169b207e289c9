use Rattle.std.proofs.Common.{rules, sym, ap, subst}
use Rattle.pool_supervisor.specs.Joined.{Joins}
use Rattle.pool_supervisor.specs.Sessions.{Counts, Sessions}
use Rattle.pool_supervisor.proofs.Tries.{no_joins, one_join}
use Rattle.pool_supervisor.proofs.crew.Crew.take_back.Goals as goal

-- a session that never began counted nothing
pub returns-in-Err-clause-joins : goal.returns-in-Err-clause-joins
returns-in-Err-clause-joins g c =
    let calls = g.Y.Dial.calls c.args.dial.now in
    let before = c.args.self.now.counts in
    subst (λ (now : Counts). Joins g.N.RunId.settings g.N.RunId.had_jobs before now calls calls)
    (ap (λ (s : Sessions). s.counts) (sym c.self.view_is)) (no_joins _ _ _ _)

pub returns-clause-joins : goal.returns-clause-joins
returns-clause-joins g c = one_join _ _ _ _ _ _ _ _ _ c.in-Ok.ensures.past (search rules) (search rules) (search rules) c.hung_up.ensures.calls
