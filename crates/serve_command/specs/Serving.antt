-- A run of a farm, and how it ends.
use Rattle.std.specs.Prelude.{◌≡◌, ◌⊎◌, ◌+◌, ◌*◌, ◌^◌, ◌-◌, ℕ, List, [], min}
use Rattle.plan_commands.specs.Fault.{answered, refused}
use Rattle.plan_commands.specs.declared.ending.Exit.{Exit}
use Rattle.plan_commands.specs.declared.fault.Fault.{Fault}
use Rattle.pool_settings.specs.Settings.{Settings}
use Rattle.pool_supervisor.specs.FarmPosts.{TellFarm}
use Rattle.pool_supervisor.specs.Runs.{AreOfOneHistory}
use Rattle.pool_supervisor.specs.Sessions.{PastSession, AllHad, AreSums}
use Rattle.pool_supervisor.specs.declared.attempt.Attempt.{Attempt}
use Rattle.pool_supervisor.specs.declared.attempt.Attempt.TheVariants as attempt
use Rattle.pool_supervisor.specs.declared.run_end.RunEnd.{RunEnd}
use Rattle.run_command.specs.Texts.{text_ms, write_ms}
use Rattle.serve_command.specs.Farm.{Farm, IsOf, IsRefused}
use Rattle.serve_command.specs.declared.reporting.Outlook.{Outlook}
use Rattle.serve_command.specs.declared.reporting.Outlook.TheVariants as outlook
use Rattle.serve_command.specs.ServiceJobs.{HadServiceJobs}
use Rattle.service_settings.specs.Keys.{connect_ms_of}
use Rattle.service_settings.specs.Services.{Services}

-- A run of this farm came to this: its totals are of one history of the farm's settings, which keeps to the promise, and are the sums of
-- what some sessions by these settings counted, each with jobs as `HadServiceJobs` says. Some lines, which are not kept, report just the
-- rounds of that history.
abbrev pub IsFarmRun : Farm → RunEnd → Type 0
IsFarmRun farm ended =
    (lines : List Attempt) × TellFarm farm.settings [] lines [] × AreOfOneHistory farm.settings ended.totals ended.chapters lines
    × (sessions : List PastSession) × AreSums farm.settings sessions ended × AllHad (HadServiceJobs farm) sessions

-- How many milliseconds workers may take to end, and 2^32 - 1 at most: to open a connection, to do a job, and to write an answer, for which
-- there is the time of an answer and three writes.
abbrev pub end_ms : Farm → ℕ
end_ms farm =
    min (connect_ms_of farm.services + farm.settings.job_timeout_ms + text_ms farm.settings + 3 * write_ms farm.settings) (2 ^ 32 - 1)

-- The texts mean a farm, and a run of it came to this.
abbrev pub IsFarmRunBy : List ℕ → List ℕ → RunEnd → Type 0
IsFarmRunBy settings_text services_text ended =
    (settings : Settings) × (services : Services) × IsOf settings_text services_text settings services
    × IsFarmRun (record { settings = settings; services = services }) ended

-- what the attempts came to after one more round, which had no plan
abbrev pub after_no_plan : Outlook → Outlook
after_no_plan outlook.Nothing = outlook.NoPlan
after_no_plan outlook.NoPlan = outlook.NoPlan
after_no_plan outlook.Plans = outlook.LacksAPlan
after_no_plan outlook.LacksAPlan = outlook.LacksAPlan
after_no_plan outlook.SlotUsed = outlook.SlotUsed

-- what they came to after one more round, which had a plan
abbrev pub after_plan : Outlook → Outlook
after_plan outlook.Nothing = outlook.Plans
after_plan outlook.NoPlan = outlook.LacksAPlan
after_plan outlook.Plans = outlook.Plans
after_plan outlook.LacksAPlan = outlook.LacksAPlan
after_plan outlook.SlotUsed = outlook.SlotUsed

-- what they came to after one more attempt, which may have led to no round
abbrev pub after_attempt : Outlook → Attempt → Outlook
after_attempt seen (attempt.NoPlan round) = after_no_plan seen
after_attempt seen (attempt.Backlog round jobs) = after_plan seen
after_attempt seen (attempt.Unserved round waiting) = after_plan seen
after_attempt seen other = seen

-- 0 if each round had a plan, 1 if only some had one, 5 if no attempt led to a plan, 6 if a slot can have no more workers
abbrev pub status_of : Outlook → ℕ
status_of outlook.Plans = 0
status_of outlook.LacksAPlan = 1
status_of outlook.Nothing = 5
status_of outlook.NoPlan = 5
status_of outlook.SlotUsed = 6

-- the texts mean a farm
abbrev pub MeanAFarm : List ℕ → List ℕ → Type 0
MeanAFarm settings_text services_text =
    (settings : Settings) × (services : Services) × IsOf settings_text services_text settings services

-- The texts mean a farm, and the exit has the status of some outlook. Or the exit refuses, for the first mistake of the texts or for
-- memory.
abbrev pub Serves : List ℕ → List ℕ → Exit → Type 0
Serves settings_text services_text exit =
    (MeanAFarm settings_text services_text × (seen : Outlook) × (exit ≡ answered (status_of seen)))
    ⊎ ((f : Fault) × IsRefused settings_text services_text f × (exit ≡ refused f))
