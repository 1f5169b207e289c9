use Rattle.pool_core.proofs.Lasting.{histories_cut_lem}
use Rattle.pool_core.proofs.laws.histories_cut.Goals as goal

pub returns : goal.returns
returns c = histories_cut_lem
