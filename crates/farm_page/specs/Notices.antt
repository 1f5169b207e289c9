-- What a page says of a farm below its sentence, with what to do.
use Rattle.std.specs.Prelude.{ℕ, ◌*◌, ◌==◌, List, [], ◌∷◌, ◌++◌, Bool, false, ◌&&◌, is_some, nat_lt}
use Rattle.std.specs.Prelude.{Option, Some, None, String, codes, if◌then◌else◌, string_bytes}
use Rattle.std.specs.Global.{Global}
use Rattle.std.specs.Fmt.{decimal}
use Rattle.std.specs.List.{list_any}
use Rattle.std.specs.Option.{option_map_or}
use Rattle.farm_page.specs.Condition.{first_names, is_short}
use Rattle.farm_page.specs.Escaping.{page_text}
use Rattle.farm_page.specs.declared.view.FarmView.{FarmView}
use Rattle.farm_page.specs.declared.view.HostView.{HostView}
use Rattle.farm_page.specs.declared.view.JobsAgain.{JobsAgain}
use Rattle.farm_page.specs.declared.view.MissingView.{MissingView}
use Rattle.farm_page.specs.declared.view.MissingView.TheVariants as missing
use Rattle.farm_page.specs.declared.view.Outcome.{Outcome}
use Rattle.farm_page.specs.declared.view.Outcome.TheVariants.{Backlog, NoPlan, NoRound, Unreadable, Unserved}
use Rattle.farm_page.specs.declared.view.RelaxedPlan.{RelaxedPlan}

-- ---- a line of the status text cannot be read

abbrev pub line_words : ℕ → List ℕ
line_words line = codes "Line " ++ decimal line ++ codes " of the job server's status text cannot be read, so no plan is made"

abbrev pub unreadable_words : ℕ → List ℕ
unreadable_words line =
    line_words line
    ++ codes ", and workers keep doing what they did last. Any client can cause it, by a job of a function whose name has a line "
    ++ codes "feed or is too long. Remove it with gearadmin --drop-function NAME; with a line feed, start the job server again."

abbrev pub unreadable_notice : Outcome → Option (List ℕ)
unreadable_notice (Backlog jobs) = None
unreadable_notice (Unserved jobs) = None
unreadable_notice NoPlan = None
unreadable_notice (Unreadable why line) = Some (unreadable_words line)
unreadable_notice (NoRound why) = None

-- ---- a plan that leaves out least numbers is in force

abbrev pub let_off_words : List (String Global) → List ℕ
let_off_words names =
    codes "Short of workers, so that until more are alive the plan leaves out their least numbers:" ++ first_names 24 names
    ++ codes ". The other functions have the workers that they are to have."

abbrev pub let_off_notice : Option RelaxedPlan → Option (List ℕ)
let_off_notice None = None
let_off_notice (Some plan) = Some (let_off_words plan.let_off.items)

-- ---- workers are missing

-- workers are missing on a host that is not reached
abbrev pub misses_unreached : HostView → Bool
misses_unreached h = is_some h.unreached && is_short h

abbrev pub any_misses_unreached : List HostView → Bool
any_misses_unreached hosts = list_any misses_unreached hosts

abbrev pub unreached_notice : List HostView → Option (List ℕ)
unreached_notice hosts =
    if any_misses_unreached hosts
    then Some (codes "Workers are missing on a host that is not reached: add none there before it is reached again.")
    else None

abbrev pub never_words : List ℕ → List ℕ
never_words function =
    codes "No addition of workers reaches the wanted backlog, as function " ++ function ++ codes " shows. /size has why."

abbrev pub too_many_words : ℕ → List ℕ
too_many_words workers =
    codes "No addition of workers reaches the wanted backlog: " ++ decimal workers ++ codes " at least, and a farm has at most 4096."

abbrev pub missing_notice : MissingView → List HostView → Option (List ℕ)
missing_notice missing.NotAsked hosts = None
missing_notice missing.NoLoad hosts = Some (codes "How many workers are missing is not known: no load was read.")
missing_notice missing.NoMemory hosts = Some (codes "How many workers are missing is not known: there was no memory for it.")
missing_notice (missing.Workers workers) hosts = unreached_notice hosts
missing_notice (missing.Never function) hosts = Some (never_words (string_bytes function))
missing_notice (missing.TooMany workers) hosts = Some (too_many_words workers)

-- ---- a job comes again

abbrev pub times_words : ℕ → List ℕ
times_words times = codes "A job that no service does comes again: it was left " ++ decimal times ++ codes " times lately"

abbrev pub held_words : ℕ → List ℕ
held_words held = codes ". Connections that hold such jobs: " ++ decimal held ++ codes ". "

abbrev pub again_words : JobsAgain → List ℕ
again_words again =
    times_words again.times ++ held_words again.held
    ++ codes "The lines lost name the job. Mend its service, or set functions.F.retries in the services file: "
    ++ codes "a job that is left more often is answered as failed."

abbrev pub again_notice : JobsAgain → Option (List ℕ)
again_notice again = if again.times == 0 then None else Some (again_words again)

-- ---- machines have no workers for want of files or threads

abbrev pub room_words : List (String Global) → List ℕ
room_words names =
    codes "Without workers for want of files or threads:" ++ first_names 24 names
    ++ codes ". Raise ulimit -n, ulimit -u or TasksMax, and start the farm again."

abbrev pub room_notice : List (String Global) → Option (List ℕ)
room_notice [] = None
room_notice (first ∷ rest) = Some (room_words (first ∷ rest))

-- ---- a slot has had most of its workers

-- more than half of those that it can have
abbrev pub is_worn : ℕ → Bool
is_worn most_used = nat_lt 262143 (2 * most_used)

abbrev pub used_words : ℕ → List ℕ
used_words most_used = codes "A slot has had " ++ decimal most_used ++ codes " workers"

abbrev pub worn_words : ℕ → List ℕ
worn_words most_used =
    used_words most_used
    ++ codes ", and the farm ends with status 6 once one has had 262143. Start it again before, at a time that suits you."

abbrev pub worn_notice : ℕ → Option (List ℕ)
worn_notice most_used = if is_worn most_used then Some (worn_words most_used) else None

-- ---- all together

abbrev pub paragraph : List ℕ → List ℕ
paragraph words = codes "<p>" ++ page_text words ++ codes "</p>\n"

abbrev pub notice : Option (List ℕ) → List ℕ
notice words = option_map_or paragraph words []

abbrev pub notices : FarmView → List ℕ
notices view =
    notice (unreadable_notice view.outcome) ++ notice (let_off_notice view.relaxed)
    ++ notice (missing_notice view.missing view.hosts.items) ++ notice (again_notice view.again)
    ++ notice (room_notice view.without_room.items) ++ notice (worn_notice view.turnover.most_used)
