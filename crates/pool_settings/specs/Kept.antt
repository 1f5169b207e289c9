-- The settings as the code keeps them.
use Rattle.std.specs.Prelude.{map, slice_index, string_bytes}
use Rattle.pool_settings.specs.Settings.{Settings}
use Rattle.pool_settings.specs.declared.keys.TheConstants.{HISTORY_PLACE, JOB_TIMEOUT_PLACE, LULL_PLACE, MAX_RUNS_PLACE, ROUND_PLACE}
use Rattle.pool_settings.specs.declared.settings.Settings.TheInside.{Inside}

abbrev pub settings_view : Inside → Settings
settings_view s = record {
  server = string_bytes s.server;
  job_timeout_ms = slice_index s.numbers JOB_TIMEOUT_PLACE;
  max_runs = slice_index s.numbers MAX_RUNS_PLACE;
  round_ms = slice_index s.numbers ROUND_PLACE;
  lull_ms = slice_index s.numbers LULL_PLACE;
  history = slice_index s.numbers HISTORY_PLACE;
  functions = s.functions;
  least = s.least.items;
  most = s.most.items;
  machines = s.machines;
  workers = s.slots;
  may = map (λ row. row.items) s.may.items;
}
