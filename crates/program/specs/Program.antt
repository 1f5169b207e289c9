-- The whole program: its exit status, and what went to its output and its error output.
use Rattle.std.specs.Prelude.{◌≡◌, ◌≢◌, ◌⊎◌, ℕ, List, [], ◌∷◌, ◌++◌, codes, map, string_bytes, Option, None, Some, Result, Ok, Err}
use Rattle.std.specs.Prelude.{String, Vec}
use Rattle.std.specs.IoError.{error_kind}
use Rattle.std.specs.declared.alloc.Global.{Global}
use Rattle.std.specs.declared.io.Error.{Error}
use Rattle.std.specs.Result.{result_map_both}
use Rattle.std.specs.declared.io.ErrorKind.{ErrorKind}
use Rattle.std.specs.declared.io.ErrorKind.TheVariants.{OutOfMemory}
use Rattle.clap.specs.Words.{Kinds}
use Rattle.command_words.specs.Words.{Named, plan, check, size, check_size, replay, show_settings, run, serve, drain, command_in, faults_in}
use Rattle.fault_detail.specs.Complaint.{Complains, SaysLine, Tells}
use Rattle.fault_detail.specs.Detail.{Names}
use Rattle.fault_detail.specs.declared.complaint.Reader.{Reader}
use Rattle.devices.specs.Folder.{Known}
use Rattle.devices.specs.Whole.{IsUntouched}
use Rattle.byte_io.specs.Sides.{Met, Output}
use Rattle.plan_commands.specs.declared.ending.Exit.{Exit}
use Rattle.plan_commands.specs.declared.fault.Fault.{Fault}
use Rattle.plan_commands.specs.declared.fault.Fault.TheVariants.{Memory}
use Rattle.program.specs.Carrying.{CarriesOut}

-- what the program writes to
pub record Streams : Type 0 where
  pub output : Output
  pub errors : Output

-- what a command is given, by its words
abbrev pub names_in : Named → Names
names_in (plan s lost) = record { settings = s; services = None; status = None; lost = lost }
names_in (check s t lost) = record { settings = s; services = None; status = Some t; lost = lost }
names_in (size s level lost) = record { settings = s; services = None; status = None; lost = lost }
names_in (check_size s t level lost) = record { settings = s; services = None; status = Some t; lost = lost }
names_in (replay s) = record { settings = s; services = None; status = None; lost = [] }
names_in (show_settings s services) = record { settings = s; services = services; status = None; lost = [] }
names_in (serve s v until_input) = record { settings = s; services = Some v; status = None; lost = [] }
names_in (drain v) = record { settings = []; services = Some v; status = None; lost = [] }
names_in (run s rounds) = record { settings = s; services = None; status = None; lost = [] }

-- Error output has what is said of the fault of a command, if there is one.
abbrev pub TellsEnd : Reader → Named → Option Fault → Output → Output → Type 0
TellsEnd who command None old new = new ≡ old
TellsEnd who command (Some fault) old new = Tells who (names_in command) fault old new

-- There is no memory, which is reported.
abbrev pub Lacks : Output → Output → ℕ → Type 0
Lacks old new status = Complains Memory old new × (status ≡ 4)

-- Some text on error output, which is not empty, says what is wrong with the words, or is the help that they ask for. Or there is no memory
-- for it.
abbrev pub Advises : Output → Output → ℕ → Type 0
Advises old new status = (((text : List ℕ) × (text ≢ []) × SaysLine text old new) × (status ≡ 2)) ⊎ Lacks old new status

-- The system gives no words, by an error of this kind: there is no memory, or one of them is no text.
abbrev pub HasNoWords : ErrorKind → Output → Output → ℕ → Type 0
HasNoWords OutOfMemory old new status = Lacks old new status
HasNoWords _ old new status = Advises old new status

-- the words that the system gives, or the kind of its error
abbrev pub words_in : Result (Vec (String Global) Global) Error → Result (List (List ℕ)) ErrorKind
words_in words = result_map_both (λ list. map (λ w. string_bytes w) list.items) error_kind words

-- The words ask for a command, which is carried out, and its fault is reported. Or they ask for none, which is reported, or memory is
-- refused, and then nothing is read and nothing is written to the output.
abbrev pub Obeys : Reader → (List ℕ → Known) → List (List ℕ) → Met → Streams → Streams → ℕ → Type 0
Obeys who file words met old new status =
    ((command : Named) × (exit : Exit) × (command_in words ≡ Some command) × CarriesOut file command met old.output new.output exit
    × TellsEnd who command exit.fault old.errors new.errors × (status ≡ exit.status))
    ⊎ (IsUntouched met × (new.output ≡ old.output)
    × (((faults_in words ≢ []) × Advises old.errors new.errors status) ⊎ Lacks old.errors new.errors status))

-- The same of the words that the system gives, if it gives any.
abbrev pub Program : Reader → (List ℕ → Known) → Result (List (List ℕ)) ErrorKind → Met → Streams → Streams → ℕ → Type 0
Program who file (Ok words) met old new status = Obeys who file words met old new status
Program who file (Err kind) met old new status =
    IsUntouched met × (new.output ≡ old.output) × HasNoWords kind old.errors new.errors status
