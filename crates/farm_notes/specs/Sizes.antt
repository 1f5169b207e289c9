-- The farm that is kept with an answer, so that its size can be found.
use Rattle.std.specs.Prelude.{◌≡◌, Option, Some, None, ⊤}
use Rattle.std.specs.Int.NonZero.{non_zero_u32_get}
use Rattle.farm_notes.specs.declared.found.Wanted.{Wanted}
use Rattle.live_size.specs.Answers.{Posed}
use Rattle.live_size.specs.Farms.{farm_of}
use Rattle.plan_model.specs.Planning.{Instance}
use Rattle.pool_settings.specs.Settings.{Settings}

-- The farm is that of these settings and this problem, at the wanted backlog.
pub record IsFarmAt (settings : Settings) (input : Instance) (wanted : Wanted) (posed : Posed) : Type 0 where
  pub of_these : posed.settings ≡ settings
  pub farm : posed.farm ≡ farm_of settings wanted.unbounded.now input (Some (non_zero_u32_get wanted.backlog))

-- If a farm is kept, a backlog is wanted, and the farm is that of these settings, this problem and this backlog.
abbrev pub KeepsFarmOf : Settings → Instance → Option Wanted → Option Posed → Type 0
KeepsFarmOf settings input wanted None = ⊤
KeepsFarmOf settings input None (Some posed) = ⊥
KeepsFarmOf settings input (Some wanted) (Some posed) = IsFarmAt settings input wanted posed
