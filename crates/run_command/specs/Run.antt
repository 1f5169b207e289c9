-- What `run` writes, and how it ends.
use Rattle.std.specs.Prelude.{◌≡◌, ◌⊎◌, ℕ, ◌+◌, List, [], ◌∷◌, ◌++◌, Bool, true, false, Ok, Err, codes, length, nat_lt, if◌then◌else◌}
use Rattle.std.specs.Fmt.{decimal}
use Rattle.std.specs.List.{list_any}
use Rattle.byte_io.specs.Sides.{Output}
use Rattle.plan_commands.specs.Ending.{Delivers, Stops}
use Rattle.plan_commands.specs.Fault.{answered}
use Rattle.plan_commands.specs.Mistake.{Reads}
use Rattle.plan_commands.specs.declared.ending.Exit.{Exit}
use Rattle.plan_commands.specs.declared.fault.Fault.{Fault}
use Rattle.pool_core.specs.Totals.{totals_line}
use Rattle.pool_settings.specs.Reading.{reading}
use Rattle.pool_settings.specs.Settings.{Settings}
use Rattle.pool_supervisor.specs.Lines.{attempt_line}
use Rattle.pool_supervisor.specs.Rounds.{TellRun}
use Rattle.pool_supervisor.specs.Runs.{AreOfOneHistory}
use Rattle.pool_supervisor.specs.Sessions.{PastSession, AllHad, AreSums, HadNamedJobs}
use Rattle.pool_supervisor.specs.declared.attempt.Attempt.{Attempt}
use Rattle.pool_supervisor.specs.declared.attempt.Attempt.TheVariants.{NoPlan}
use Rattle.pool_supervisor.specs.declared.run_end.RunEnd.{RunEnd}
use Rattle.stock_jobs.specs.Stock.{told_by_name}

-- the lines of attempts, of which the first has this number
abbrev pub attempt_lines : ℕ → List Attempt → List ℕ
attempt_lines number [] = []
attempt_lines number (attempt ∷ attempts) = attempt_line number attempt ++ 10 ∷ attempt_lines (number + 1) attempts

-- the line of the chapters of the history that ended, if one did
abbrev pub chapters_line : ℕ → List ℕ
chapters_line chapters = if nat_lt 0 chapters then codes "chapters " ++ decimal chapters ++ 10 ∷ [] else []

-- what a run writes: its attempts from the first one on, its chapters, and its totals, which account for each job
abbrev pub run_text : RunEnd → List ℕ
run_text ended = attempt_lines 1 ended.lines.items ++ chapters_line ended.chapters ++ totals_line ended.totals ++ 10 ∷ []

abbrev pub has_no_plan : Attempt → Bool
has_no_plan (NoPlan round) = true
has_no_plan attempt = false

-- 1 if some round had no plan, and else 0
abbrev pub status_after : List Attempt → ℕ
status_after attempts = if list_any has_no_plan attempts then 1 else 0

-- why a pool is not run, or not to its end: the settings have a mistake, or memory is refused
abbrev pub IsKeptFrom : List ℕ → Fault → Type 0
IsKeptFrom settings_text f = Reads settings_text (Err f)

-- The text means settings, and a run by them came to this: the lines that report rounds report those of one history of these settings, in
-- order and no other, and its totals count the same history, which keeps to the promise. The totals are the sums of what sessions by
-- these settings counted, each of which had such jobs.
abbrev pub IsRunBy : List ℕ → (PastSession → Type 0) → RunEnd → Type 0
IsRunBy settings_text had_jobs ended =
    (settings : Settings) × (reading settings_text ≡ Ok settings) × TellRun settings [] ended.lines.items []
    × AreOfOneHistory settings ended.totals ended.chapters ended.lines.items
    × (sessions : List PastSession) × AreSums settings sessions ended × AllHad had_jobs sessions

-- The settings mean something, a run by them with such jobs ended after so many attempts, and what it came to is written. Or it is kept
-- from that by a fault, and nothing is written.
abbrev pub Supervises : List ℕ → (PastSession → Type 0) → ℕ → Output → Output → Exit → Type 0
Supervises settings_text had_jobs rounds old new exit =
    ((ended : RunEnd) × IsRunBy settings_text had_jobs ended × (length ended.lines.items ≡ rounds)
    × Delivers (run_text ended) (answered (status_after ended.lines.items)) old new exit)
    ⊎ ((f : Fault) × IsKeptFrom settings_text f × Stops f old new exit)

-- The same with the stock jobs: each job that a session did reported what the stock job of its name makes of its input.
abbrev pub SupervisesStock : List ℕ → ℕ → Output → Output → Exit → Type 0
SupervisesStock settings_text rounds old new exit = Supervises settings_text (HadNamedJobs told_by_name) rounds old new exit
