use Rattle.pool_replay.proofs.Called.{called}
use Rattle.pool_replay.proofs.law.commands_are_calls.Goals as goal

pub returns : goal.returns
returns c = called
