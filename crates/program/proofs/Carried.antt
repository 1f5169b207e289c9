-- Commands by their files.
use Rattle.std.specs.Prelude.{Option}
use Rattle.std.proofs.Common.{◌≡◌, ℕ, Bool, List, inl, inr, refl}
use Rattle.command_words.specs.Words.{Named, drain, plan, serve, show_settings, size, check_size}
use Rattle.devices.specs.Folder.{IsReadFile, Known}
use Rattle.devices.specs.Whole.{IsUntouched}
use Rattle.byte_io.specs.Sides.{Input, Meets, Met, Output}
use Rattle.plan_commands.proofs.Posing.{meets_nothing, nothing_from}
use Rattle.plan_commands.specs.Fault.{refused}
use Rattle.plan_commands.specs.Plan.{Plans}
use Rattle.plan_commands.specs.declared.ending.Exit.{Exit}
use Rattle.plan_commands.specs.declared.fault.Fault.{Fault}
use Rattle.plan_commands.specs.Problem.{load_of}
use Rattle.size_command.specs.CheckSizes.{ChecksSizeText}
use Rattle.size_command.specs.Sizes.{Sizes}
use Rattle.program.specs.Carrying.{CarriesOut, DrainsFile, IsUnreadIn, ServesFiles, ShowsSettings}

-- nothing was taken and nothing written
pub unread : (file : List ℕ → Known) (command : Named) (side : Input) (out : Output) (fault : Fault) (exit : Exit)
    → exit ≡ refused fault → IsUnreadIn file command fault
    → (met : Met) × Meets side met side × CarriesOut file command met out out exit
unread file command side out fault exit ends not_read =
    (nothing_from side, meets_nothing side, inr (fault, not_read, (refl, refl, refl), (refl, ends)))

-- the settings were read, and the plan was made
pub planned : (file : List ℕ → Known) (s : List ℕ) (lost : List (List ℕ)) (text : List ℕ) (met : Met) (old new : Output) (exit : Exit)
    → IsReadFile (file s) text → Plans text lost met old new exit → CarriesOut file (plan s lost) met old new exit
planned file s lost text met old new exit read plans = inl (text, read, plans)

-- the settings were read, and the size was found
pub sized : (file : List ℕ → Known) (s : List ℕ) (level : Option ℕ) (lost : List (List ℕ)) (text : List ℕ) (met : Met) (old new : Output) (exit : Exit)
    → IsReadFile (file s) text → Sizes text lost level met old new exit → CarriesOut file (size s level lost) met old new exit
sized file s level lost text met old new exit read sizes = inl (text, read, sizes)

-- the settings and the status text were read, and the size was checked
pub size_checked : (file : List ℕ → Known) (s t : List ℕ) (level : Option ℕ) (lost : List (List ℕ)) (text status_text : List ℕ) (met : Met)
    (old new : Output) (exit : Exit) → IsReadFile (file s) text → IsReadFile (file t) status_text
    → ChecksSizeText text level lost (load_of status_text) met old new exit → CarriesOut file (check_size s t level lost) met old new exit
size_checked file s t level lost text status_text met old new exit read read_status checks = inl (text, status_text, read, read_status, checks)

-- the files of `settings` were read or not, and nothing was taken
pub shown : (file : List ℕ → Known) (s : List ℕ) (services : Option (List ℕ)) (met : Met) (old new : Output) (exit : Exit) → IsUntouched met
    → ShowsSettings file s services old new exit → CarriesOut file (show_settings s services) met old new exit
shown file s services met old new exit untouched (inl told) = inl (untouched, told)
shown file s services met old new exit untouched (inr (fault, not_read, stops)) = inr (fault, not_read, untouched, stops)

-- the files of a farm were read or not, and nothing was taken or written
pub served : (file : List ℕ → Known) (s v : List ℕ) (until_input : Bool) (met : Met) (out : Output) (exit : Exit) → IsUntouched met
    → ServesFiles file s v exit → CarriesOut file (serve s v until_input) met out out exit
served file s v until_input met out exit untouched (inl runs) = inl (untouched, refl, runs)
served file s v until_input met out exit untouched (inr (fault, not_read, ends)) = inr (fault, not_read, untouched, (refl, ends))

-- the services file of a drain was read or not, and nothing was taken
pub drained : (file : List ℕ → Known) (v : List ℕ) (met : Met) (old new : Output) (exit : Exit) → IsUntouched met
    → DrainsFile file v old new exit → CarriesOut file (drain v) met old new exit
drained file v met old new exit untouched (inl drains) = inl (untouched, drains)
drained file v met old new exit untouched (inr (fault, not_read, stops)) = inr (fault, not_read, untouched, stops)
