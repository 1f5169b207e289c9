-- What the name of a run means.
use Rattle.std.specs.Prelude.{[], ℕ, Bool, true}
use Rattle.atomic_table.specs.Seated.{TableId}
use Rattle.pool_settings.specs.Settings.{Settings}
use Rattle.pool_supervisor.specs.declared.attempts.Until.{Until}
use Rattle.pool_supervisor.specs.declared.attempts.Until.TheVariants.{Ended}

-- the name of no board
abbrev pub no_board : TableId
no_board = record { words = 0; slots = 0; views_name = 0; atom = 0; block = 0; offset = 0; slot_names = [] }

-- anything may be said of the slots of no pool
abbrev pub no_rule : ℕ → Bool → Bool
no_rule slot may = true

-- no run goes on
abbrev pub no_until : Until
no_until = Ended

-- the settings of no pool
abbrev pub no_settings : Settings
no_settings =
    record {
      server = [];
      job_timeout_ms = 0;
      max_runs = 0;
      round_ms = 0;
      lull_ms = 0;
      history = 0;
      functions = [];
      least = [];
      most = [];
      machines = [];
      workers = [];
      may = [];
    }
