use Rattle.pool_supervisor.specs.Tries.{all_slots}
use Rattle.tests_pool_supervisor.proofs.NoServer.{lines_of_none, opens_none}
use Rattle.tests_pool_supervisor.proofs.unreached_runs.run_unreached.Goals as goal

-- what the dialler shows opened no link
pub returns-clause-lines : goal.returns-clause-lines
returns-clause-lines g c = lines_of_none _ all_slots _ _ _ _ _ c.new-dial.ensures (opens_none c.in_ok-ended._dial.calls.value) c.in_ok-ended.ensures.dials
