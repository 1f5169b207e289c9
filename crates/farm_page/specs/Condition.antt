-- How a farm is, in one sentence.
use Rattle.std.specs.Prelude.{ℕ, ◌*◌, ◌-◌, ◌==◌, ◌^◌, List, [], ◌++◌, Bool, true, false, ◌&&◌, nat_le, nat_lt, not, Option, Some, None}
use Rattle.std.specs.Prelude.{String, codes, count_by, find, if◌then◌else◌, is_none, is_some, length, min, string_bytes}
use Rattle.std.specs.Prelude.{sum_by, take, unwrap_or}
use Rattle.std.specs.Global.{Global}
use Rattle.std.specs.Fmt.{decimal}
use Rattle.std.specs.List.{flat_map}
use Rattle.std.specs.Option.{option_map_or}
use Rattle.farm_page.specs.View.{has_plan}
use Rattle.farm_page.specs.declared.condition.Condition.{Condition}
use Rattle.farm_page.specs.declared.condition.Condition.TheVariants.{Bad, Watch, Well}
use Rattle.farm_page.specs.declared.view.FarmView.{FarmView}
use Rattle.farm_page.specs.declared.view.FunctionView.{FunctionView}
use Rattle.farm_page.specs.declared.view.HostView.{HostView}
use Rattle.farm_page.specs.declared.view.JobsAgain.{JobsAgain}
use Rattle.farm_page.specs.declared.view.MissingView.{MissingView}
use Rattle.farm_page.specs.declared.view.MissingView.TheVariants as missing
use Rattle.farm_page.specs.declared.view.Outcome.{Outcome}
use Rattle.farm_page.specs.declared.view.Outcome.TheVariants.{Backlog, NoPlan, NoRound, Unreadable, Unserved}
use Rattle.farm_page.specs.declared.view.Shortage.{Shortage}
use Rattle.farm_page.specs.declared.view.Workers.{Workers}

-- the first host that is not reached
abbrev pub unreached : List HostView → Option HostView
unreached hosts = find (λ host. is_some host.unreached) hosts

abbrev pub is_unserved : Outcome → Bool
is_unserved (Backlog jobs) = false
is_unserved (Unserved jobs) = true
is_unserved NoPlan = false
is_unserved (Unreadable why line) = false
is_unserved (NoRound why) = false

-- the jobs that wait for a function without workers: none if it has one, or if that is not known
abbrev pub without_workers : FunctionView → ℕ
without_workers f =
    if option_map_or (λ workers. workers == 0) f.workers false then unwrap_or f.waiting 0
    else 0

-- the jobs that wait for functions without workers, as far as a number of 64 bits counts them
abbrev pub all_without_workers : List FunctionView → ℕ
all_without_workers functions = min (sum_by without_workers functions) (2 ^ 64 - 1)

-- fewer than half of the workers were alive before the attempt started new ones
abbrev pub is_thinned : FarmView → Bool
is_thinned view = nat_lt (2 * view.turnover.alive_before) view.workers.all

abbrev pub comes_again : FarmView → Bool
comes_again view = nat_lt 0 view.again.times

-- no job comes again, and enough workers stayed
abbrev pub is_calm : FarmView → Bool
is_calm view = not (comes_again view) && not (is_thinned view)

-- each function with jobs has a worker, each host is reached, each worker is alive, enough of them stayed, and no job comes again
abbrev pub is_whole : FarmView → Bool
is_whole view =
    if is_unserved view.outcome then false
    else if nat_lt 0 (all_without_workers view.functions.items) then false
    else is_none (unreached view.hosts.items) && nat_le view.workers.all view.workers.alive && is_calm view

abbrev pub condition_of : FarmView → Condition
condition_of view = if has_plan view.outcome then (if is_whole view then Well else Watch) else Bad

-- ---- the words

-- each name after a space
abbrev pub names : List (String Global) → List ℕ
names functions = flat_map (λ function. codes " " ++ string_bytes function) functions

-- the first so many, and how many more there are
abbrev pub first_names : ℕ → List (String Global) → List ℕ
first_names named functions =
    if nat_le (length functions) named then names functions
    else names (take named functions) ++ codes " and " ++ decimal (length functions - named) ++ codes " more"

-- how many workers are needed, or that no number of those alive will do
abbrev pub need_words : Option ℕ → ℕ → List ℕ
need_words (Some need) have =
    codes " " ++ decimal need ++ codes " workers are needed, and " ++ decimal have ++ codes " that may do them are alive"
need_words None have = codes " the " ++ decimal have ++ codes " workers alive that may do them are not enough"

abbrev pub shortage_words : Shortage → List ℕ
shortage_words shortage =
    codes "for" ++ first_names 3 shortage.functions.items ++ need_words shortage.need shortage.have

abbrev pub no_plan_words : Option Shortage → List ℕ
no_plan_words None = codes "No plan meets the least and greatest numbers of workers"
no_plan_words (Some shortage) = codes "No plan: " ++ shortage_words shortage

abbrev pub alive_words : Workers → List ℕ
alive_words workers = decimal workers.alive ++ codes " of " ++ decimal workers.all ++ codes " workers are alive"

abbrev pub unreached_words : FarmView → HostView → List ℕ
unreached_words view host = codes "Host " ++ string_bytes host.name ++ codes " is not reached: " ++ alive_words view.workers

abbrev pub left_words : ℕ → List ℕ
left_words jobs = decimal jobs ++ codes " jobs wait for functions without workers"

abbrev pub again_words : JobsAgain → List ℕ
again_words again =
    codes "A job that no service does comes again: left " ++ decimal again.times ++ codes " times lately, such jobs held now: "
    ++ decimal again.held

abbrev pub thinned_words : ℕ → ℕ → List ℕ
thinned_words before all = decimal before ++ codes " of " ++ decimal all ++ codes " workers were alive before new ones started"

-- of a farm whose workers are all alive
abbrev pub all_alive_words : FarmView → ℕ → List ℕ
all_alive_words view jobs =
    if comes_again view then again_words view.again
    else if is_thinned view then thinned_words view.turnover.alive_before view.workers.all
    else codes "Well: backlog " ++ decimal jobs ++ codes ", as small as it can be"

-- of a farm whose hosts are all reached
abbrev pub reached_words : FarmView → ℕ → List ℕ
reached_words view jobs =
    if nat_lt 0 (all_without_workers view.functions.items) then left_words (all_without_workers view.functions.items)
    else if nat_lt view.workers.alive view.workers.all then alive_words view.workers
    else all_alive_words view jobs

abbrev pub planned_words : FarmView → ℕ → List ℕ
planned_words view jobs = option_map_or (unreached_words view) (unreached view.hosts.items) (reached_words view jobs)

abbrev pub outcome_words : FarmView → Outcome → List ℕ
outcome_words view (Backlog jobs) = planned_words view jobs
outcome_words view (Unserved jobs) = decimal jobs ++ codes " jobs wait for a function that workers alive may do and none does"
outcome_words view NoPlan = no_plan_words view.shortage
outcome_words view (Unreadable why line) = codes "No round was made: " ++ string_bytes why
outcome_words view (NoRound why) = codes "No round was made: " ++ string_bytes why

-- ---- workers are missing for the wanted backlog

-- on this host
abbrev pub is_short : HostView → Bool
is_short h = option_map_or (λ missing. nat_lt 0 missing) h.missing false

-- on so many hosts
abbrev pub short_hosts : List HostView → ℕ
short_hosts hosts = count_by is_short hosts

abbrev pub place_words : HostView → List ℕ
place_words h = if is_short h then codes ", " ++ decimal (unwrap_or h.missing 0) ++ codes " on " ++ string_bytes h.name else []

abbrev pub each_place : List HostView → List ℕ
each_place hosts = flat_map place_words hosts

-- on each of these hosts, or on so many if they are more than three
abbrev pub places_words : List HostView → List ℕ
places_words hosts =
    if nat_le (short_hosts hosts) 3 then each_place hosts
    else codes " on " ++ decimal (short_hosts hosts) ++ codes " hosts"

abbrev pub workers_words : ℕ → List HostView → List ℕ
workers_words workers hosts =
    if workers == 0 then [] else codes "; " ++ decimal workers ++ codes " workers are missing" ++ places_words hosts

abbrev pub missing_words : MissingView → List HostView → List ℕ
missing_words missing.NotAsked hosts = []
missing_words missing.NoLoad hosts = []
missing_words missing.NoMemory hosts = []
missing_words (missing.Workers workers) hosts = workers_words workers hosts
missing_words (missing.Never function) hosts = codes "; no addition of workers reaches the wanted backlog"
missing_words (missing.TooMany workers) hosts = codes "; no addition of workers reaches the wanted backlog"

-- what the last attempt came to, and how many workers are missing
abbrev pub sentence : FarmView → List ℕ
sentence view = outcome_words view view.outcome ++ missing_words view.missing view.hosts.items
