-- What `settings` writes of a settings file and a services file, and how it ends.
use Rattle.std.specs.Prelude.{◌≡◌, ◌⊎◌, ◌++◌, ℕ, List, Some, Ok, Err}
use Rattle.byte_io.specs.Sides.{Output}
use Rattle.toml.specs.Data.{Members}
use Rattle.plan_commands.specs.Ending.{Delivers, Stops}
use Rattle.plan_commands.specs.Fault.{answered}
use Rattle.plan_commands.specs.Mistake.{Reads}
use Rattle.plan_commands.specs.ServicesMistake.{ReadsServices}
use Rattle.plan_commands.specs.declared.ending.Exit.{Exit}
use Rattle.plan_commands.specs.declared.fault.Fault.{Fault}
use Rattle.pool_settings.specs.Reading.{reading, tree_of}
use Rattle.pool_settings.specs.Settings.{Settings}
use Rattle.service_settings.specs.Reading as beside
use Rattle.service_settings.specs.Services.{Services}
use Rattle.settings_command.specs.Meaning.{meaning}
use Rattle.settings_command.specs.Remarks.{AreServeRemarks}
use Rattle.settings_command.specs.ServicesMeaning.{services_meaning}

-- what was read of both files: the tree of each, and what it means
pub record Files : Type 0 where
  pub settings_tree : Members
  pub settings : Settings
  pub services_tree : Members
  pub services : Services

-- These are what the texts mean, the services beside the settings.
pub record AreFilesOf (settings_text services_text : List ℕ) (files : Files) : Type 0 where
  pub settings_read : tree_of settings_text ≡ Some files.settings_tree
  pub settings_meant : reading settings_text ≡ Ok files.settings
  pub services_read : tree_of services_text ≡ Some files.services_tree
  pub services_meant : beside.reading files.settings services_text ≡ Ok files.services

-- The text is what the settings mean, what a farm of them cannot do under `serve`, and what the services mean.
abbrev pub IsFarmMeaning : Files → List ℕ → Type 0
IsFarmMeaning files text =
    (remarks : List ℕ) × AreServeRemarks files.settings remarks
    × (text ≡ meaning files.settings_tree files.settings ++ remarks ++ services_meaning files.services_tree files.settings files.services)

abbrev pub IsFarmText : List ℕ → List ℕ → List ℕ → Type 0
IsFarmText settings_text services_text text =
    (files : Files) × AreFilesOf settings_text services_text files × IsFarmMeaning files text

-- The settings are refused by this fault; or they are taken, and the services beside them are refused by it.
abbrev pub RefusesFarm : List ℕ → List ℕ → Fault → Type 0
RefusesFarm settings_text services_text fault =
    Reads settings_text (Err fault)
    ⊎ ((settings : Settings) × Reads settings_text (Ok settings) × ReadsServices settings services_text (Err fault))

-- What both files mean is written. Or one is refused, or memory is, and nothing is written.
abbrev pub TellsFarm : List ℕ → List ℕ → Output → Output → Exit → Type 0
TellsFarm settings_text services_text old new exit =
    ((text : List ℕ) × IsFarmText settings_text services_text text × Delivers text (answered 0) old new exit)
    ⊎ ((fault : Fault) × RefusesFarm settings_text services_text fault × Stops fault old new exit)
