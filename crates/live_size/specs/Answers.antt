-- What is told of the size of a farm.
use Rattle.std.specs.Prelude.{◌≡◌, ℕ, Bool, List, Option, Ok, length, map}
use Rattle.std.specs.List.{range_with_len}
use Rattle.plan_model.specs.Planning.{Instance}
use Rattle.plan_sizing.specs.Shown.{Right, Shown}
use Rattle.plan_sizing.specs.Sizing.{Farm}
use Rattle.plan_sizing.specs.declared.size.Size.{Size}
use Rattle.plan_sizing.specs.declared.size.Size.TheVariants as size
use Rattle.pool_report.specs.Law.{IsOf}
use Rattle.pool_settings.specs.Settings.{Settings}
use Rattle.size_report.specs.Reading.{size_meaning}
use Rattle.size_report.specs.Text.{added_on, size_text}
use Rattle.live_size.specs.Farms.{farm_of}
use Rattle.live_size.specs.declared.missing.Missing.{Missing}
use Rattle.live_size.specs.declared.missing.Missing.TheVariants.{Workers, Never, TooMany}

-- What is told: what is missing, and the text of the size.
pub record Answer : Type 0 where
  pub missing : Missing
  pub text : List ℕ

-- how many of the added workers are on each of so many machines
abbrev pub by_machine : ℕ → List ℕ → List ℕ
by_machine machines added = map (added_on added) (range_with_len 0 machines)

-- what a size says is missing
abbrev pub missing_in : Settings → Size → Missing
missing_in settings (size.Enough added entries short) = Workers (by_machine (length settings.machines) added)
missing_in settings (size.Never obstacle) = Never obstacle
missing_in settings (size.TooMany many set) = TooMany many

-- The text means a size that is shown, and is the text of that size: this is what `check-size` wants of a text that it finds shown.
abbrev pub IsFoundShown : Settings → Farm → List ℕ → Type 0
IsFoundShown settings farm text =
    (size : Size) × (size_meaning settings text ≡ Ok size) × Shown farm size × (text ≡ size_text settings farm size)

-- What is told is of one size of the farm, which is shown and so is right: each machine's number is that of this size, and the text is its
-- text, which is found shown.
pub record IsSizeOf (settings : Settings) (farm : Farm) (answer : Answer) : Type 0 where
  pub size : Size
  pub shown : Shown farm size
  pub right : Right farm size
  pub missing : answer.missing ≡ missing_in settings size
  pub text : answer.text ≡ size_text settings farm size
  pub found : IsFoundShown settings farm answer.text

-- The farm is that of a problem of these settings.
pub record IsFarmOf (settings : Settings) (farm : Farm) : Type 0 where
  pub unbounded : List Bool
  pub input : Instance
  pub level : Option ℕ
  pub of_these : IsOf settings input
  pub is_its : farm ≡ farm_of settings unbounded input level

-- A farm and its settings.
pub record Posed : Type 0 where
  pub settings : Settings
  pub farm : Farm

-- What is told is of the farm of a problem of some settings.
pub record IsOfAFarm (answer : Answer) : Type 0 where
  pub settings : Settings
  pub farm : Farm
  pub of_these : IsFarmOf settings farm
  pub size : IsSizeOf settings farm answer
