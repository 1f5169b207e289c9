use Rattle.run_command.proofs.Jobs.{same_meaning, supervises_covered}
use Rattle.run_command.proofs.running.run_rounds.Goals as goal

-- the names mean what the stock jobs do
pub returns-in-Ok : goal.returns-in-Ok
returns-in-Ok g c = record { supervises = supervises_covered _ _ _ _ _ _ _ (same_meaning _ _ c.in-Ok.ensures) c.run_jobs.ensures.supervises }
