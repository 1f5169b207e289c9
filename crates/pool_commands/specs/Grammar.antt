-- The command of a line.
use Rattle.std.specs.Prelude.{ℕ, ◌<◌, List, [], ◌∷◌, Option, Some, None, IfSome, option_map, if◌then◌else◌, codes}
use Rattle.std.specs.Option.{option_and_then}
use Rattle.std.specs.Str.{bytes_eq}
use Rattle.gear_status.specs.Status.{Line, put}
use Rattle.pool_settings.specs.Settings.{Settings}
use Rattle.pool_settings.specs.Slots.{slot_named}
use Rattle.pool_commands.specs.declared.command.Command.{Command}
use Rattle.pool_commands.specs.declared.command.Command.TheVariants as command
use Rattle.worker_state.specs.Causes.{cause_named}
use Rattle.pool_commands.specs.Words as word

-- ---- the forms, by the words after the first

-- no more words
abbrev pub alone : Command → List (List ℕ) → Option Command
alone c [] = Some c
alone c _ = None

abbrev pub join_in : Settings → List (List ℕ) → Option Command
join_in settings (slot ∷ []) = option_map (λ s. command.Join s) (slot_named settings slot)
join_in settings _ = None

-- a name with its numbers of jobs, and 0 available workers
abbrev pub load_line : List ℕ → List ℕ → List ℕ → Option Line
load_line name total running =
    option_and_then (λ n. option_and_then (λ t. option_map (λ r. (n, record { total = t; running = r; workers = 0 }))
    (word.count_in running)) (word.count_in total)) (word.word_in name)

-- the load with these words set in order, three for each name
abbrev pub load_from : List Line → List (List ℕ) → Option (List Line)
load_from load [] = Some load
load_from load (name ∷ total ∷ running ∷ rest) =
    option_and_then (λ line. load_from (put load line) rest) (load_line name total running)
load_from load _ = None

abbrev pub load_in : List (List ℕ) → Option Command
load_in args = option_map (λ l. command.Load l) (load_from [] args)

abbrev pub grab_in : Settings → List (List ℕ) → Option Command
grab_in settings (worker ∷ handle ∷ function ∷ now ∷ []) =
    option_and_then (λ w. option_and_then (λ h. option_and_then (λ f. option_map (λ n. command.Grab w h f n)
    (word.long_in now)) (word.word_in function)) (word.handle_in handle)) (word.worker_in settings worker)
grab_in settings _ = None

abbrev pub begin_in : Settings → List (List ℕ) → Option Command
begin_in settings (worker ∷ ticket ∷ []) =
    option_and_then (λ w. option_map (λ k. command.Begin w k) (word.long_in ticket)) (word.worker_in settings worker)
begin_in settings _ = None

abbrev pub report_in : Settings → List (List ℕ) → Option Command
report_in settings (worker ∷ ticket ∷ end ∷ []) =
    option_and_then (λ w. option_and_then (λ k. option_map (λ e. command.Report w k e)
    (word.end_in end)) (word.long_in ticket)) (word.worker_in settings worker)
report_in settings _ = None

abbrev pub lose_in : Settings → List (List ℕ) → Option Command
lose_in settings (worker ∷ cause ∷ []) =
    option_and_then (λ w. option_map (λ c. command.Lose w c) (cause_named cause)) (word.worker_in settings worker)
lose_in settings _ = None

abbrev pub expire_in : Settings → List (List ℕ) → Option Command
expire_in settings (worker ∷ now ∷ []) =
    option_and_then (λ w. option_map (λ n. command.Expire w n) (word.long_in now)) (word.worker_in settings worker)
expire_in settings _ = None

abbrev pub job_in : List (List ℕ) → Option Command
job_in (ticket ∷ []) = option_map (λ k. command.Job k) (word.long_in ticket)
job_in _ = None

abbrev pub order_in : Settings → List (List ℕ) → Option Command
order_in settings (slot ∷ []) = option_map (λ s. command.Order s) (slot_named settings slot)
order_in settings _ = None

-- ---- a line

-- the first word says of which form the line is; these forms have a fixed number of words
abbrev pub fixed_form : Settings → List ℕ → List (List ℕ) → Option Command
fixed_form settings verb args =
    if bytes_eq verb (codes "join") then join_in settings args
    else (if bytes_eq verb (codes "round") then alone command.Round args
    else (if bytes_eq verb (codes "view") then alone command.View args
    else (if bytes_eq verb (codes "adopt") then alone command.Adopt args
    else (if bytes_eq verb (codes "grab") then grab_in settings args
    else (if bytes_eq verb (codes "begin") then begin_in settings args
    else (if bytes_eq verb (codes "report") then report_in settings args
    else (if bytes_eq verb (codes "lose") then lose_in settings args
    else (if bytes_eq verb (codes "expire") then expire_in settings args
    else (if bytes_eq verb (codes "job") then job_in args
    else (if bytes_eq verb (codes "order") then order_in settings args
    else (if bytes_eq verb (codes "totals") then alone command.Totals args
    else (if bytes_eq verb (codes "chapter") then alone command.Chapter args
    else None))))))))))))

abbrev pub form_in : Settings → List ℕ → List (List ℕ) → Option Command
form_in settings verb args = if bytes_eq verb (codes "load") then load_in args else fixed_form settings verb args

abbrev pub command_of_words : Settings → List (List ℕ) → Option Command
command_of_words settings [] = None
command_of_words settings (verb ∷ args) = form_in settings verb args

-- the command of a line, if it is of one of the forms
abbrev pub command_in : Settings → List ℕ → Option Command
command_in settings line = command_of_words settings (word.words_of line)

-- ---- the slot that a command names, if it names one

abbrev pub slot_of : Command → Option ℕ
slot_of (command.Join slot) = Some slot
slot_of (command.Grab worker handle function now) = Some worker.slot
slot_of (command.Begin worker ticket) = Some worker.slot
slot_of (command.Report worker ticket end) = Some worker.slot
slot_of (command.Lose worker cause) = Some worker.slot
slot_of (command.Expire worker now) = Some worker.slot
slot_of (command.Order slot) = Some slot
slot_of _ = None

-- there are so many slots that the command's slot is one of them
abbrev pub IsCommandWithin : ℕ → Command → Type 0
IsCommandWithin slots c = IfSome (slot_of c) (λ slot. slot < slots)
