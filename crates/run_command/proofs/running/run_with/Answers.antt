use Rattle.pool_supervisor.specs.Tries.{joined_by}
use Rattle.run_command.proofs.running.run_with.Goals as goal

-- the sessions that the run joined
pub returns-clause-sums : goal.returns-clause-sums
returns-clause-sums g c = let dials = c.in_ok-ended.ensures.dials in (joined_by dials.attempts.tries dials.last.sessions, dials.sums, dials.jobs)
