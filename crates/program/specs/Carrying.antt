-- What a command does, by the files that it names.
use Rattle.std.specs.Prelude.{◌≡◌, ◌⊎◌, ℕ, List, None, Option, Some}
use Rattle.command_words.specs.Words.{Named, plan, check, size, check_size, replay, show_settings, run, serve, drain}
use Rattle.devices.specs.Folder.{IsReadFile, IsUnreadFile, Known}
use Rattle.devices.specs.Whole.{IsUntouched}
use Rattle.devices.specs.declared.error.InputError.{InputError}
use Rattle.drain_command.specs.Drain.{Drains}
use Rattle.byte_io.specs.Sides.{Met, Output}
use Rattle.plan_commands.specs.Check.{ChecksText}
use Rattle.plan_commands.specs.Ending.{Stops}
use Rattle.plan_commands.specs.Fault.{file_fault, refused}
use Rattle.plan_commands.specs.Plan.{Plans}
use Rattle.plan_commands.specs.Problem.{load_of}
use Rattle.plan_commands.specs.declared.ending.Exit.{Exit}
use Rattle.plan_commands.specs.declared.fault.Fault.{Fault}
use Rattle.plan_commands.specs.declared.fault.NamedFile.{NamedFile}
use Rattle.plan_commands.specs.declared.fault.NamedFile.TheVariants.{Services, Settings, Status}
use Rattle.replay_command.specs.Replay.{Replays}
use Rattle.run_command.specs.Run.{SupervisesStock}
use Rattle.serve_command.specs.Serving.{Serves}
use Rattle.settings_command.specs.FarmTold.{TellsFarm}
use Rattle.settings_command.specs.Told.{TellsSettings}
use Rattle.size_command.specs.CheckSizes.{ChecksSizeText}
use Rattle.size_command.specs.Sizes.{Sizes}

-- The file of which this is known is not read whole, and the fault says which file it is and why.
abbrev pub IsUnreadBy : NamedFile → Known → Fault → Type 0
IsUnreadBy name known fault = (e : InputError) × IsUnreadFile known e × (fault ≡ file_fault name e)

-- The settings file is not read whole, or it is and the other file is not.
abbrev pub IsUnreadBoth : (List ℕ → Known) → List ℕ → NamedFile → List ℕ → Fault → Type 0
IsUnreadBoth file s other t fault =
    IsUnreadBy Settings (file s) fault
    ⊎ ((settings_text : List ℕ) × IsReadFile (file s) settings_text × IsUnreadBy other (file t) fault)

-- the same of a settings file alone, or with a services file
abbrev pub IsUnreadFarm : (List ℕ → Known) → List ℕ → Option (List ℕ) → Fault → Type 0
IsUnreadFarm file s None fault = IsUnreadBy Settings (file s) fault
IsUnreadFarm file s (Some v) fault = IsUnreadBoth file s Services v fault

-- This keeps a file of the command from being read whole, and is the first that does: files are read in the order of the words.
abbrev pub IsUnreadIn : (List ℕ → Known) → Named → Fault → Type 0
IsUnreadIn file (plan s lost) fault = IsUnreadBy Settings (file s) fault
IsUnreadIn file (check s t lost) fault = IsUnreadBoth file s Status t fault
IsUnreadIn file (size s level lost) fault = IsUnreadBy Settings (file s) fault
IsUnreadIn file (check_size s t level lost) fault = IsUnreadBoth file s Status t fault
IsUnreadIn file (replay s) fault = IsUnreadBy Settings (file s) fault
IsUnreadIn file (show_settings s services) fault = IsUnreadFarm file s services fault
IsUnreadIn file (run s rounds) fault = IsUnreadBy Settings (file s) fault
IsUnreadIn file (serve s v until_input) fault = IsUnreadBoth file s Services v fault
IsUnreadIn file (drain v) fault = IsUnreadBy Services (file v) fault

-- The settings file was read, or both files were, and what they mean is written.
abbrev pub TellsFiles : (List ℕ → Known) → List ℕ → Option (List ℕ) → Output → Output → Exit → Type 0
TellsFiles file s None old new exit =
    (settings_text : List ℕ) × IsReadFile (file s) settings_text × TellsSettings settings_text old new exit
TellsFiles file s (Some v) old new exit =
    (settings_text : List ℕ) × (services_text : List ℕ) × IsReadFile (file s) settings_text × IsReadFile (file v) services_text
    × TellsFarm settings_text services_text old new exit

-- The files of `settings` were read, and what they mean is written. Or one was not, and nothing is written.
abbrev pub ShowsSettings : (List ℕ → Known) → List ℕ → Option (List ℕ) → Output → Output → Exit → Type 0
ShowsSettings file s services old new exit =
    TellsFiles file s services old new exit
    ⊎ ((fault : Fault) × IsUnreadFarm file s services fault × Stops fault old new exit)

-- The files of a farm were read, and it is run as their bytes say.
abbrev pub RunsFarm : (List ℕ → Known) → List ℕ → List ℕ → Exit → Type 0
RunsFarm file s v exit =
    (settings_text : List ℕ) × (services_text : List ℕ) × IsReadFile (file s) settings_text × IsReadFile (file v) services_text
    × Serves settings_text services_text exit

-- The files of a farm were read, and it is run. Or one was not.
abbrev pub ServesFiles : (List ℕ → Known) → List ℕ → List ℕ → Exit → Type 0
ServesFiles file s v exit = RunsFarm file s v exit ⊎ ((fault : Fault) × IsUnreadBoth file s Services v fault × (exit ≡ refused fault))

-- The services file was read, and its farm is drained.
abbrev pub DrainsFarm : (List ℕ → Known) → List ℕ → Output → Output → Exit → Type 0
DrainsFarm file v old new exit = (services_text : List ℕ) × IsReadFile (file v) services_text × Drains services_text old new exit

-- The services file was read, and its farm is drained. Or it was not, and nothing is written.
abbrev pub DrainsFile : (List ℕ → Known) → List ℕ → Output → Output → Exit → Type 0
DrainsFile file v old new exit =
    DrainsFarm file v old new exit ⊎ ((fault : Fault) × IsUnreadBy Services (file v) fault × Stops fault old new exit)

-- The files of the command were read, and it does with their bytes what its call says. `settings`, a run, a farm and a drain take nothing
-- from the input.
abbrev pub ActsOnFiles : (List ℕ → Known) → Named → Met → Output → Output → Exit → Type 0
ActsOnFiles file (plan s lost) met old new exit =
    (settings_text : List ℕ) × IsReadFile (file s) settings_text × Plans settings_text lost met old new exit
ActsOnFiles file (check s t lost) met old new exit =
    (settings_text : List ℕ) × (status_text : List ℕ) × IsReadFile (file s) settings_text × IsReadFile (file t) status_text
    × ChecksText settings_text lost (load_of status_text) met old new exit
ActsOnFiles file (size s level lost) met old new exit =
    (settings_text : List ℕ) × IsReadFile (file s) settings_text × Sizes settings_text lost level met old new exit
ActsOnFiles file (check_size s t level lost) met old new exit =
    (settings_text : List ℕ) × (status_text : List ℕ) × IsReadFile (file s) settings_text × IsReadFile (file t) status_text
    × ChecksSizeText settings_text level lost (load_of status_text) met old new exit
ActsOnFiles file (replay s) met old new exit =
    (settings_text : List ℕ) × IsReadFile (file s) settings_text × Replays settings_text met old new exit
ActsOnFiles file (show_settings s services) met old new exit = IsUntouched met × TellsFiles file s services old new exit
ActsOnFiles file (run s rounds) met old new exit =
    (settings_text : List ℕ) × IsReadFile (file s) settings_text × IsUntouched met × SupervisesStock settings_text rounds old new exit
ActsOnFiles file (serve s v until_input) met old new exit = IsUntouched met × (new ≡ old) × RunsFarm file s v exit
ActsOnFiles file (drain v) met old new exit = IsUntouched met × DrainsFarm file v old new exit

-- The command ran. Or one of its files was not read, and nothing is taken from the input and nothing written.
abbrev pub CarriesOut : (List ℕ → Known) → Named → Met → Output → Output → Exit → Type 0
CarriesOut file command met old new exit =
    ActsOnFiles file command met old new exit
    ⊎ ((fault : Fault) × IsUnreadIn file command fault × IsUntouched met × Stops fault old new exit)
