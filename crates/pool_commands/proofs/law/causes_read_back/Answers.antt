use Rattle.std.proofs.Common.{◌≡◌, ◌≢◌, Some, refl}
use Rattle.worker_state.specs.Causes.{cause_label, cause_named}
use Rattle.worker_state.specs.declared.cause.Cause.{Cause}
use Rattle.worker_state.specs.declared.cause.Cause.TheVariants.{Unserved}
use Rattle.pool_commands.proofs.law.causes_read_back.Goals as goal

read_back : (cause : Cause) → cause ≢ Unserved → cause_named (cause_label cause).name ≡ Some cause
read_back Unserved other = absurd (other refl)
read_back cause other = refl

pub returns : goal.returns
returns c = (read_back, refl)
