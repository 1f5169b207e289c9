use Rattle.run_command.proofs.Jobs.{supervises_covered}
use Rattle.run_command.proofs.running.run_jobs.Goals as goal

-- the jobs of each session have names
pub returns : goal.returns
returns g c = record { supervises = supervises_covered _ _ _ _ _ _ _ c.sessions_have_named_jobs.ensures c.run_source.ensures.supervises }
