-- What there is to plan for.
use Rattle.std.specs.Prelude.{ℕ, List, map, Bool}
use Rattle.gear_status.specs.Status.{Line, waiting}
use Rattle.plan_model.specs.Planning.{Instance}
use Rattle.pool_settings.specs.Settings.{Settings}
use Rattle.pool_settings.specs.Slots.{live_workers}

-- The planning problem of these settings, if the slots that are marked are live and these jobs wait for each function.
abbrev pub instance_of : Settings → List Bool → List ℕ → Instance
instance_of settings live waiting =
    record { live = live_workers settings live; may = settings.may; least = settings.least; most = settings.most; waiting = waiting }

-- By function, the jobs that wait for it in a load.
abbrev pub waiting_of : Settings → List Line → List ℕ
waiting_of settings load = map (waiting load) settings.functions
