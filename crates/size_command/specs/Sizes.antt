-- What `size` writes, and how it ends.
use Rattle.std.specs.Prelude.{◌≡◌, ◌⊎◌, ℕ, List, Option, Some, Ok, Err}
use Rattle.byte_io.specs.Sides.{Met, Output}
use Rattle.toml.specs.Data.{Members}
use Rattle.plan_commands.specs.Ending.{Delivers, Stops}
use Rattle.plan_commands.specs.Fault.{answered}
use Rattle.plan_commands.specs.Posing.{Poses}
use Rattle.plan_commands.specs.declared.ending.Exit.{Exit}
use Rattle.plan_commands.specs.declared.fault.Fault.{Fault}
use Rattle.plan_commands.specs.declared.fault.Fault.TheVariants.{Memory}
use Rattle.plan_commands.specs.declared.problem.Problem.{Problem}
use Rattle.plan_sizing.specs.Shown.{Right, Shown}
use Rattle.plan_sizing.specs.Sizing.{Farm}
use Rattle.plan_sizing.specs.declared.size.Size.{Size}
use Rattle.plan_sizing.specs.declared.size.Size.TheVariants.{Enough, Never, TooMany}
use Rattle.pool_settings.specs.Reading.{tree_of}
use Rattle.pool_settings.specs.Settings.{Settings}
use Rattle.size_command.specs.Farms.{farm_of}
use Rattle.size_report.specs.Text.{size_text}

-- 0 with an addition, also one of nobody, 1 if none serves
abbrev pub status_with : Size → ℕ
status_with (Enough added entries short) = 0
status_with (Never obstacle) = 1
status_with (TooMany many short) = 1

-- The text of the size is written. Or memory is refused, and nothing is written.
abbrev pub WritesText : Settings → Farm → Size → Output → Output → Exit → Type 0
WritesText settings farm size old new exit =
    Delivers (size_text settings farm size) (answered (status_with size)) old new exit ⊎ Stops Memory old new exit

-- The text of a size is written that is shown for the farm, and so is right: the addition has its plan, which serves, and no smaller one
-- has a plan that serves. Or memory is refused, and nothing is written.
abbrev pub Reports : Settings → Farm → Output → Output → Exit → Type 0
Reports settings farm old new exit =
    ((size : Size) × Shown farm size × Right farm size × WritesText settings farm size old new exit) ⊎ Stops Memory old new exit

-- The size of the problem's farm is written. Or memory is refused, and nothing is written.
abbrev pub WritesSize : List ℕ → Option ℕ → Problem → Output → Output → Exit → Type 0
WritesSize settings_text level p old new exit =
    ((tree : Members) × (tree_of settings_text ≡ Some tree) × Reports p.settings (farm_of tree p level) old new exit)
    ⊎ Stops Memory old new exit

-- Settings, lost workers and status text pose a problem, and how many workers are missing is written. Or they pose none, by a fault, and
-- nothing is written.
abbrev pub Sizes : List ℕ → List (List ℕ) → Option ℕ → Met → Output → Output → Exit → Type 0
Sizes settings_text lost level met old new exit =
    ((posed : Problem) × Poses settings_text lost met (Ok posed) × WritesSize settings_text level posed old new exit)
    ⊎ ((fault : Fault) × Poses settings_text lost met (Err fault) × Stops fault old new exit)
