use Rattle.pool_core.proofs.Lasting.{chapters_count_lem}
use Rattle.pool_core.proofs.laws.chapters_count.Goals as goal

pub returns : goal.returns
returns c = chapters_count_lem
