use Rattle.pool_core.proofs.Lasting.{bases_are_sound_lem}
use Rattle.pool_core.proofs.laws.bases_are_sound.Goals as goal

pub returns : goal.returns
returns c = bases_are_sound_lem
