use Rattle.pool_commands.proofs.Printed.{read_back}
use Rattle.pool_commands.proofs.law.workers_read_back.Goals as goal

pub returns : goal.returns
returns c = read_back
