-- What a farm of these settings cannot do, as a remark each.
use Rattle.std.specs.Prelude.{◌≡◌, ℕ, ◌+◌, ◌*◌, ◌-◌, ◌/◌, List, [], ◌∷◌, ◌++◌, codes, ◌==◌, length, nat_lt, slice_index, sum_by}
use Rattle.std.specs.Prelude.{if◌then◌else◌, Option, None, Some}
use Rattle.std.specs.Fmt.{decimal}
use Rattle.std.specs.List.{flat_map}
use Rattle.pool_settings.specs.Names.{name_at}
use Rattle.pool_settings.specs.Settings.{Settings}
use Rattle.pool_settings.specs.Slots.{slots}
use Rattle.file_keys.specs.Hosts.{has_port}
use Rattle.settings_command.specs.Farm.{IsShown, hands}
use Rattle.settings_command.specs.Meaning.{functions, machines}
use Rattle.settings_command.specs.Place.{printable}
use Rattle.stock_jobs.specs.Stock.{is_stock}
use Rattle.text_pieces.specs.Lines.{ended}

-- ---- a job server that is named without a port

abbrev pub portless_line : List ℕ → List ℕ
portless_line server = ended (codes "remark server " ++ server ++ codes " has no port")

abbrev pub portless_remark : Settings → List ℕ
portless_remark settings = if has_port settings.server then [] else portless_line (printable settings.server)

-- ---- a machine without workers

abbrev pub workerless_line : List ℕ → List ℕ
workerless_line machine = codes "remark machine " ++ machine ++ ended (codes " has no workers")

abbrev pub workerless_remark : Settings → ℕ → List ℕ
workerless_remark settings machine =
    if slice_index settings.workers machine == 0 then workerless_line (name_at settings.machines machine) else []

-- ---- a function that needs more workers than may do it

abbrev pub few_line : List ℕ → ℕ → ℕ → List ℕ
few_line function least many =
    codes "remark function " ++ function ++ codes " needs " ++ decimal least ++ codes " workers at the least, and " ++ decimal many
    ++ ended (codes " may do it")

abbrev pub few_remark : Settings → ℕ → List ℕ
few_remark settings f =
    if nat_lt (hands settings (f ∷ [])) (slice_index settings.least f)
    then few_line (name_at settings.functions f) (slice_index settings.least f) (hands settings (f ∷ [])) else []

-- ---- a function that needs more workers than it may have

abbrev pub crossed_line : List ℕ → ℕ → ℕ → List ℕ
crossed_line function least most =
    codes "remark function " ++ function ++ codes " needs " ++ decimal least ++ codes " workers at the least, and may have "
    ++ decimal most ++ ended (codes " at the most")

abbrev pub crossed_remark : Settings → ℕ → List ℕ
crossed_remark settings f =
    if nat_lt (slice_index settings.most f) (slice_index settings.least f)
    then crossed_line (name_at settings.functions f) (slice_index settings.least f) (slice_index settings.most f) else []

-- ---- least numbers that no plan meets together

abbrev pub listed_name : Settings → ℕ → List ℕ
listed_name settings f = 32 ∷ name_at settings.functions f

abbrev pub short_end : ℕ → ℕ → List ℕ
short_end least many = ended (codes ": " ++ decimal least ++ codes " workers, and " ++ decimal many ++ codes " may do them")

abbrev pub short_start : Settings → List ℕ → List ℕ
short_start settings set = codes "remark no plan meets the least numbers of" ++ flat_map (listed_name settings) set

abbrev pub short_line : Settings → List ℕ → List ℕ
short_line settings set =
    short_start settings set ++ short_end (sum_by (slice_index settings.least) set) (hands settings set)

abbrev pub short_remark : Settings → Option (List ℕ) → List ℕ
short_remark settings None = []
short_remark settings (Some set) = short_line settings set

-- ---- a history that one job of each worker may fill in `run`

-- The events of an attempt to plan in which each worker joins and takes one job: the load, the round, and for each worker that it joins
-- and takes the job, and the three for which room is kept from then on.
abbrev pub attempt_events : Settings → ℕ
attempt_events settings = 2 + 5 * slots settings

-- The room that an attempt finds at the least: `run` ends the chapter of a history of which more than half is used.
abbrev pub attempt_room : Settings → ℕ
attempt_room settings = settings.history - settings.history / 2

abbrev pub history_line : ℕ → ℕ → ℕ → List ℕ
history_line history room events =
    codes "remark history " ++ decimal history ++ codes " may leave " ++ decimal room
    ++ codes " events between two attempts, and one job of each worker takes " ++ ended (decimal events)

abbrev pub history_remark : Settings → List ℕ
history_remark settings =
    if nat_lt (attempt_room settings) (attempt_events settings)
    then history_line settings.history (attempt_room settings) (attempt_events settings) else []

-- ---- a history without room for an attempt of `serve` while each worker has a job

-- What such an attempt takes: the load, the round, and for each worker the three events for which room is kept. It finds the history empty,
-- since `serve` ends the chapter first.
abbrev pub cut_events : Settings → ℕ
cut_events settings = 2 + 3 * slots settings

abbrev pub cut_history_line : ℕ → ℕ → List ℕ
cut_history_line history events =
    codes "remark history " ++ decimal history ++ codes " has no room for an attempt while each worker has a job: that takes "
    ++ ended (decimal events)

abbrev pub cut_history_remark : Settings → List ℕ
cut_history_remark settings =
    if nat_lt settings.history (cut_events settings) then cut_history_line settings.history (cut_events settings) else []

-- ---- functions that `run` has no job for

-- the name of such a function, with a space before it
abbrev pub jobless_name : Settings → ℕ → List ℕ
jobless_name settings f = if is_stock (name_at settings.functions f) then [] else listed_name settings f

abbrev pub jobless_names : Settings → List ℕ
jobless_names settings = flat_map (jobless_name settings) (functions settings)

abbrev pub jobless_line : List ℕ → List ℕ
jobless_line names = codes "remark run has no job for" ++ ended names

abbrev pub jobless_remark : Settings → List ℕ
jobless_remark settings = if length (jobless_names settings) == 0 then [] else jobless_line (jobless_names settings)

-- ---- all of them

-- The remarks however the farm is run, by kind and then by name. The set shows that no plan meets the least numbers, if there is one.
abbrev pub limit_remarks : Settings → Option (List ℕ) → List ℕ
limit_remarks settings short =
    portless_remark settings ++ flat_map (workerless_remark settings) (machines settings)
    ++ flat_map (few_remark settings) (functions settings) ++ flat_map (crossed_remark settings) (functions settings)
    ++ short_remark settings short

-- with those on `run`
abbrev pub run_remarks : Settings → Option (List ℕ) → List ℕ
run_remarks settings short = limit_remarks settings short ++ history_remark settings ++ jobless_remark settings

-- with that on `serve`
abbrev pub serve_remarks : Settings → Option (List ℕ) → List ℕ
serve_remarks settings short = limit_remarks settings short ++ cut_history_remark settings

-- The text is these remarks, with no set or one of which that is shown.
abbrev pub AreLimitRemarks : Settings → List ℕ → Type 0
AreLimitRemarks settings text = (short : Option (List ℕ)) × IsShown settings short × (text ≡ limit_remarks settings short)

abbrev pub AreRunRemarks : Settings → List ℕ → Type 0
AreRunRemarks settings text = (short : Option (List ℕ)) × IsShown settings short × (text ≡ run_remarks settings short)

abbrev pub AreServeRemarks : Settings → List ℕ → Type 0
AreServeRemarks settings text = (short : Option (List ℕ)) × IsShown settings short × (text ≡ serve_remarks settings short)
