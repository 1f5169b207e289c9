-- What is measured of a farm, of a function and of a host.
use Rattle.std.specs.Prelude.{ℕ, Bool, true, false, Option, Some, None, if◌then◌else◌, is_none, length, option_map}
use Rattle.std.specs.Option.{option_map_or}
use Rattle.farm_page.specs.Health.{is_ending, is_late}
use Rattle.farm_page.specs.View.{has_plan}
use Rattle.farm_page.specs.declared.health.Moment.{Moment}
use Rattle.farm_page.specs.declared.measured.FarmNumber.{FarmNumber}
use Rattle.farm_page.specs.declared.measured.FarmNumber.TheVariants as farm
use Rattle.farm_page.specs.declared.measured.FunctionNumber.{FunctionNumber}
use Rattle.farm_page.specs.declared.measured.FunctionNumber.TheVariants as function
use Rattle.farm_page.specs.declared.measured.HostNumber.{HostNumber}
use Rattle.farm_page.specs.declared.measured.HostNumber.TheVariants as host
use Rattle.farm_page.specs.declared.view.FarmView.{FarmView}
use Rattle.farm_page.specs.declared.view.FunctionView.{FunctionView}
use Rattle.farm_page.specs.declared.view.HostView.{HostView}
use Rattle.farm_page.specs.declared.view.MissingView.{MissingView}
use Rattle.farm_page.specs.declared.view.MissingView.TheVariants as missing
use Rattle.farm_page.specs.declared.view.Outcome.{Outcome}
use Rattle.farm_page.specs.declared.view.Outcome.TheVariants.{Backlog, NoPlan, NoRound, Unreadable, Unserved}

abbrev pub number : Bool → ℕ
number is = if is then 1 else 0

-- the backlog of a plan
abbrev pub backlog_of : Outcome → Option ℕ
backlog_of (Backlog jobs) = Some jobs
backlog_of (Unserved jobs) = None
backlog_of NoPlan = None
backlog_of (Unreadable why line) = None
backlog_of (NoRound why) = None

-- how many jobs wait for a function that workers alive may do and none does: for the one that has the most
abbrev pub unserved_of : Outcome → Option ℕ
unserved_of (Backlog jobs) = Some 0
unserved_of (Unserved jobs) = Some jobs
unserved_of NoPlan = None
unserved_of (Unreadable why line) = None
unserved_of (NoRound why) = None

-- how many functions a plan in force leaves out of account
abbrev pub let_off : FarmView → ℕ
let_off view = option_map_or (λ plan. length plan.let_off.items) view.relaxed 0

-- an addition of workers reaches the wanted backlog, also one of nobody
abbrev pub is_found : MissingView → Option Bool
is_found missing.NotAsked = None
is_found missing.NoLoad = None
is_found missing.NoMemory = None
is_found (missing.Workers all) = Some true
is_found (missing.Never function) = Some false
is_found (missing.TooMany least) = Some false

abbrev pub farm_value : FarmView → Moment → FarmNumber → Option ℕ
farm_value view moment farm.Attempts = Some view.attempt
farm_value view moment farm.HasPlan = Some (number (has_plan view.outcome))
farm_value view moment farm.Backlog = backlog_of view.outcome
farm_value view moment farm.Unserved = unserved_of view.outcome
farm_value view moment farm.IsLate = Some (number (is_late moment))
farm_value view moment farm.IsEnding = Some (number (is_ending moment))
farm_value view moment farm.AliveWorkers = Some view.workers.alive
farm_value view moment farm.AliveBefore = Some view.turnover.alive_before
farm_value view moment farm.Workers = Some view.workers.all
farm_value view moment farm.SlotWorkers = Some view.turnover.most_used
farm_value view moment farm.AgainTimes = Some view.again.times
farm_value view moment farm.HeldConnections = Some view.again.held
farm_value view moment farm.LetOff = Some (let_off view)
farm_value view moment farm.SizeFound = option_map number (is_found view.missing)

abbrev pub function_value : FunctionView → FunctionNumber → Option ℕ
function_value f function.Waiting = f.waiting
function_value f function.Running = f.running
function_value f function.Workers = f.workers
function_value f function.Least = Some f.least
function_value f function.Most = f.most
function_value f function.Completed = option_map (λ jobs. jobs.completed) f.jobs
function_value f function.Failed = option_map (λ jobs. jobs.failed) f.jobs
function_value f function.Lost = option_map (λ jobs. jobs.lost) f.jobs

abbrev pub host_value : HostView → HostNumber → Option ℕ
host_value h host.Reached = Some (number (is_none h.unreached))
host_value h host.Alive = h.alive
host_value h host.Workers = Some h.all
host_value h host.Missing = h.missing
