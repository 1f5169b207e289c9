-- The rows of a page's tables.
use Rattle.std.specs.Prelude.{ℕ, ◌-◌, ◌*◌, ◌/◌, ◌==◌, Bool, List, [], ◌++◌, Option, None, min, nat_lt}
use Rattle.std.specs.Prelude.{codes, if◌then◌else◌, option_map, string_bytes}
use Rattle.std.specs.Fmt.{decimal}
use Rattle.std.specs.Int.{div_ceil}
use Rattle.std.specs.List.{flat_map}
use Rattle.std.specs.Option.{option_map_or}
use Rattle.farm_page.specs.Condition.{is_thinned}
use Rattle.farm_page.specs.Escaping.{page_text}
use Rattle.farm_page.specs.Measured.{function_value, host_value}
use Rattle.farm_page.specs.Notices.{is_worn}
use Rattle.farm_page.specs.declared.cells.Gap.{Gap}
use Rattle.farm_page.specs.declared.cells.Gap.TheVariants.{Any, Unknown}
use Rattle.farm_page.specs.declared.cells.Mark.{Mark}
use Rattle.farm_page.specs.declared.cells.Mark.TheVariants.{Bad, Plain, Warn}
use Rattle.farm_page.specs.declared.measured.FunctionNumber.TheVariants as function
use Rattle.farm_page.specs.declared.measured.HostNumber.TheVariants as host
use Rattle.farm_page.specs.declared.view.EndView.{EndView}
use Rattle.farm_page.specs.declared.view.FailureEnd.{FailureEnd}
use Rattle.farm_page.specs.declared.view.FailureEnd.TheVariants.{Failed, Lost, Said}
use Rattle.farm_page.specs.declared.view.FailureView.{FailureView}
use Rattle.farm_page.specs.declared.view.FarmView.{FarmView}
use Rattle.farm_page.specs.declared.view.FunctionView.{FunctionView}
use Rattle.farm_page.specs.declared.view.HostView.{HostView}
use Rattle.farm_page.specs.declared.view.Workers.{Workers}

-- ---- cells

abbrev pub cell_tag : Mark → List ℕ
cell_tag Plain = codes "<td>"
cell_tag Warn = codes "<td class=\"warn\">"
cell_tag Bad = codes "<td class=\"bad\">"

abbrev pub cell : Mark → ℕ → List ℕ
cell mark number = cell_tag mark ++ decimal number ++ codes "</td>"

abbrev pub gap_cell : Gap → List ℕ
gap_cell Any = codes "<td class=\"none\">any</td>"
gap_cell Unknown = codes "<td class=\"none\">-</td>"

abbrev pub cell_if : Option ℕ → Gap → List ℕ
cell_if number gap = option_map_or (cell Plain) number (gap_cell gap)

abbrev pub fault : ℕ → List ℕ
fault number = cell (if number == 0 then Plain else Warn) number

-- a number that is to be 0
abbrev pub fault_cell : Option ℕ → List ℕ
fault_cell number = option_map_or fault number (gap_cell Unknown)

-- words after some of the program's own
abbrev pub words_cell : List ℕ → List ℕ → List ℕ
words_cell lead words = codes "<td class=\"words\">" ++ lead ++ page_text words ++ codes "</td>"

abbrev pub row_name : List ℕ → List ℕ
row_name name = codes "<tr><th scope=\"row\">" ++ page_text name ++ codes "</th>"

-- how much of a bar 84 wide some of all fill
abbrev pub share : ℕ → ℕ → ℕ
share part all = if all == 0 then 0 else 84 * min part all / all

abbrev pub bar : Workers → ℕ → List ℕ
bar workers least =
    codes "<td><svg class=\"bar\" viewBox=\"0 0 84 8\" aria-hidden=\"true\"><rect class=\"track\" width=\"84\" height=\"8\" rx=\"4\"/>"
    ++ codes "<rect class=\"fill\" height=\"8\" rx=\"4\" width=\"" ++ decimal (share workers.alive workers.all)
    ++ codes "\"/><rect class=\"least\" width=\"2\" height=\"8\" x=\"" ++ decimal (share least workers.all) ++ codes "\"/></svg></td>"

-- the bar, if it is known how many workers there are
abbrev pub bar_if : Option ℕ → ℕ → ℕ → List ℕ
bar_if alive all least = option_map_or (λ known. bar (record { alive = known; all = all }) least) alive (gap_cell Unknown)

-- ---- rows

abbrev pub workers_mark : ℕ → ℕ → Mark
workers_mark workers least = if nat_lt workers least then Bad else Plain

abbrev pub workers_cell : FunctionView → List ℕ
workers_cell f = option_map_or (λ workers. cell (workers_mark workers f.least) workers) f.workers (gap_cell Unknown)

-- the jobs that wait for each of so many workers
abbrev pub waiting_per : FunctionView → ℕ → Option ℕ
waiting_per f workers = if workers == 0 then None else option_map (λ waiting. div_ceil waiting workers) f.waiting

-- the jobs that wait for each worker, rounded up; the greatest number that a function has is the backlog
abbrev pub waiting_per_worker : FunctionView → Option ℕ
waiting_per_worker f = option_map_or (waiting_per f) f.workers None

-- what waits, what runs, and the workers
abbrev pub workers_cells : FunctionView → ℕ → List ℕ
workers_cells f all =
    cell_if (function_value f function.Waiting) Unknown ++ cell_if (waiting_per_worker f) Unknown
    ++ cell_if (function_value f function.Running) Unknown ++ workers_cell f
    ++ bar_if f.workers all f.least

-- what became of the jobs
abbrev pub jobs_cells : FunctionView → List ℕ
jobs_cells f =
    cell_if (function_value f function.Completed) Unknown ++ fault_cell (function_value f function.Failed)
    ++ fault_cell (function_value f function.Lost)

-- the row of a function in a farm of so many workers
abbrev pub function_row : ℕ → FunctionView → List ℕ
function_row all f =
    row_name (string_bytes f.name) ++ workers_cells f all ++ cell Plain f.least ++ cell_if (function_value f function.Most) Any
    ++ jobs_cells f ++ codes "</tr>\n"

abbrev pub unreached_cell : List ℕ → List ℕ
unreached_cell why = codes "<td class=\"words bad\">not reached: " ++ page_text why ++ codes "</td>"

abbrev pub reached_cell : HostView → List ℕ
reached_cell h = option_map_or (λ why. unreached_cell (string_bytes why)) h.unreached (codes "<td class=\"words\">reached</td>")

-- how many of a host's workers are not alive
abbrev pub not_alive : HostView → Option ℕ
not_alive h = option_map (λ alive. h.all - alive) h.alive

abbrev pub not_alive_cell : HostView → List ℕ
not_alive_cell h = cell_if (not_alive h) Unknown

-- how many workers are missing on a host
abbrev pub missing_cell : HostView → List ℕ
missing_cell h = cell_if (host_value h host.Missing) Unknown

abbrev pub host_row : HostView → List ℕ
host_row h =
    row_name (string_bytes h.name) ++ cell_if (host_value h host.Alive) Unknown ++ cell Plain h.all ++ bar_if h.alive h.all h.all
    ++ not_alive_cell h ++ missing_cell h ++ reached_cell h ++ codes "</tr>\n"

-- a number that is to be looked at
abbrev pub mark_of : Bool → Mark
mark_of is_odd = if is_odd then Warn else Plain

-- the workers that were alive before new ones started, to be looked at if they were fewer than half
abbrev pub before_cell : FarmView → List ℕ
before_cell view = cell (mark_of (is_thinned view)) view.turnover.alive_before

-- the workers that a slot has had, to be looked at if they are more than half of those that it can have
abbrev pub used_cell : ℕ → List ℕ
used_cell most_used = cell (mark_of (is_worn most_used)) most_used

-- those alive before new ones started, those alive, those of the settings, how many ended, and the most of one slot
abbrev pub turnover_cells : FarmView → List ℕ
turnover_cells view =
    before_cell view ++ cell Plain view.workers.alive ++ cell Plain view.workers.all ++ cell Plain view.turnover.ended
    ++ used_cell view.turnover.most_used

-- the row of all workers
abbrev pub workers_row : FarmView → List ℕ
workers_row view = row_name (codes "all") ++ turnover_cells view ++ codes "</tr>\n"

-- a cause for which no worker ended has no row
abbrev pub end_row : EndView → List ℕ
end_row end = if end.count == 0 then [] else (row_name (string_bytes end.cause) ++ cell Plain end.count ++ codes "</tr>\n")

-- ---- jobs that were not completed

abbrev pub failure_end_cell : FailureEnd → List ℕ
failure_end_cell Failed = words_cell (codes "failed") []
failure_end_cell (Said words) = words_cell (codes "failed: ") (string_bytes words)
failure_end_cell (Lost why) = words_cell (codes "lost: ") (string_bytes why)

abbrev pub failure_row : FailureView → List ℕ
failure_row f =
    row_name (string_bytes f.handle) ++ words_cell [] (string_bytes f.time) ++ words_cell [] (string_bytes f.unique)
    ++ words_cell [] (string_bytes f.function) ++ words_cell [] (string_bytes f.worker) ++ failure_end_cell f.end ++ codes "</tr>\n"

abbrev pub failure_rows : List FailureView → List ℕ
failure_rows failures = flat_map failure_row failures
