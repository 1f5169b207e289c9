-- What is printed of a worker and of a cause is read as that worker and that cause.
use Rattle.std.specs.Prelude.{◌≡◌, ◌≢◌, ℕ, ◌<◌, ◌≤◌, Some, None}
use Rattle.pool_settings.specs.Settings.{AreSettings, Settings}
use Rattle.pool_settings.specs.Slots.{slots, worker_text}
use Rattle.worker_state.specs.Causes.{cause_label, cause_named}
use Rattle.worker_state.specs.Limits.{max_generation}
use Rattle.worker_state.specs.declared.cause.Cause.{Cause}
use Rattle.worker_state.specs.declared.cause.Cause.TheVariants.{Unserved}
use Rattle.pool_commands.specs.Words.{worker_in}

abbrev pub AreWorkersReadBack : Type 0
AreWorkersReadBack = (settings : Settings) → AreSettings settings → (slot generation : ℕ) → slot < slots settings → 1 ≤ generation
    → generation ≤ max_generation
    → worker_in settings (worker_text settings slot generation) ≡ Some (record { slot = slot; generation = generation })

abbrev pub AreCausesReadBack : Type 0
AreCausesReadBack = ((cause : Cause) → cause ≢ Unserved → cause_named (cause_label cause).name ≡ Some cause)
    × (cause_named (cause_label Unserved).name ≡ None)
