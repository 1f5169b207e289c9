use Rattle.pool_core.proofs.Lasting.{histories_are_sound_lem}
use Rattle.pool_core.proofs.laws.histories_are_sound.Goals as goal

pub returns : goal.returns
returns c = histories_are_sound_lem
