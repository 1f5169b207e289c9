-- The ends that lose no worker.
use Rattle.std.proofs.Common.{◌≡◌, ◌≢◌, None, refl}
use Rattle.std.specs.Prelude.{codes}
use Rattle.refusal.specs.Label.{label}
use Rattle.job_runner.specs.declared.end.EndCause.{EndCause}
use Rattle.job_runner.specs.declared.end.EndCause.TheVariants as cause
use Rattle.job_runner.specs.Ends.{loss_of, end_label}

-- the one of them that is not Retired
pub gone_label : (end : EndCause) → loss_of end ≡ None → end ≢ cause.Retired → label 2 (codes "Gone") ≡ end_label end
gone_label cause.Retired kept other = absurd (other refl)
gone_label cause.Gone kept other = refl
gone_label lost kept other = absurd cc
