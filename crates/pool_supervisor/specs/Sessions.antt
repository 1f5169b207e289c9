-- What contracts see of a run's sessions.
use Rattle.std.specs.Prelude.{◌≡◌, ℕ, ◌+◌, ◌<◌, List, [], ◌∷◌, Option, Some, IfSome, IfNone, sum_by}
use Rattle.std.specs.List.{AllByRecursion}
use Rattle.byte_io.specs.Sides.{and_then}
use Rattle.gear_packets.specs.Response.{AssignedJob}
use Rattle.worker_state.specs.declared.slot.WorkerName.{WorkerName}
use Rattle.pool_settings.specs.Settings.{Settings}
use Rattle.pool_settings.specs.Slots.{slots}
use Rattle.job_runner.specs.declared.end.EndCause.TheVariants as cause
use Rattle.job_runner.specs.declared.end.SessionEnd.{SessionEnd}
use Rattle.job_runner.specs.declared.jobs.NotDone.{NotDone}
use Rattle.job_runner.specs.Book.{Ledger}
use Rattle.job_runner.specs.Course.{session_of}
use Rattle.job_runner.specs.Loop.{duty_of}
use Rattle.job_runner.specs.Run.{Link, Served, EndTold}
use Rattle.job_runner.specs.Told.{Told, Telling, IsMeant}
use Rattle.pool_supervisor.specs.Dials.{DialCall, IsNew, closed}
use Rattle.pool_supervisor.specs.EndCounts.{no_ends, with_cause}
use Rattle.pool_supervisor.specs.declared.ends.EndCounts.{EndCounts}
use Rattle.pool_supervisor.specs.declared.run_end.RunEnd.{RunEnd}

-- how many jobs were grabbed, how many were reported, and how many sessions ended for each cause
pub record Counts : Type 0 where
  pub grabbed : ℕ
  pub reported : ℕ
  pub ends : EndCounts

abbrev pub no_counts : Counts
no_counts = record { grabbed = 0; reported = 0; ends = no_ends }

-- how many there are to join, for how many there is room, and what those counted that were joined
pub record Sessions : Type 0 where
  pub running : ℕ
  pub room : ℕ
  pub counts : Counts

-- how a session ends that is given no jobs: before it begins
abbrev pub turned_away : SessionEnd
turned_away = record { cause = cause.Unserved; grabbed = 0; answered = 0; reported = 0 }

-- A session that has ended: its worker, how it ended, what its link shows of its two sides then, and what its jobs reported, if it was
-- given jobs.
pub record PastSession : Type 0 where
  pub worker : WorkerName
  pub end : SessionEnd
  pub link : Link
  pub told : Option (List Telling)

abbrev pub past_session : WorkerName → SessionEnd → Link → Option (List Telling) → PastSession
past_session worker end link told = record { worker = worker; end = end; link = link; told = told }

-- its link is closed, as it was at its end
abbrev pub closing_of : PastSession → DialCall
closing_of session = closed session.link

-- The session began on a new link, and what a session promises of what it reads and writes holds of it.
pub record WasServed (settings : Settings) (session : PastSession) (told : List Telling) : Type 0 where
  pub first : Link
  pub fresh : IsNew first
  pub read : List ℕ
  pub bytes : List ℕ
  pub book : Ledger
  pub reads : session.link.input.given ≡ and_then first.input.given read
  pub writes : session.link.output.got ≡ and_then first.output.got bytes
  pub served : Served (session_of (duty_of settings session.worker) first.output.got read) told bytes first session.link book session.end

-- The session was of a worker of a pool of these settings. It was served; or it had no jobs, and ended before it began, on a new link.
pub record HasEnded (settings : Settings) (session : PastSession) : Type 0 where
  pub known : session.worker.slot < slots settings
  pub served : IfSome session.told (WasServed settings session)
  pub away : IfNone session.told ((session.end ≡ turned_away) × IsNew session.link)

-- The session's jobs were such as its source may give its worker, got ready as such jobs may, and reported what they may. It had none only
-- if the source may deny its worker jobs.
pub record HadJobs {J : Type 0} (tells : J → J → AssignedJob → Option Told → Type 0) (fails : J → J → AssignedJob → NotDone → Type 0)
    (prepares : J → J → Type 0) (gives : WorkerName → J → Type 0) (denies : WorkerName → Type 0) (session : PastSession) : Type 0 where
  pub given : IfSome session.told (λ told. (first last : J) × gives session.worker first
      × EndTold tells fails prepares first last session.end.cause told)
  pub denied : IfNone session.told (denies session.worker)

-- The session had jobs, each of which reported what this says of its name and input.
abbrev pub HadNamedJobs : (List ℕ → List ℕ → Option Told) → PastSession → Type 0
HadNamedJobs meaning session = (told : List Telling) × (session.told ≡ Some told) × AllByRecursion (IsMeant meaning) told

-- A session of this worker has ended so, with such jobs, over a link that shows this then.
abbrev pub IsPast : Settings → (PastSession → Type 0) → WorkerName → SessionEnd → Link → Type 0
IsPast settings had_jobs worker end link =
    (told : Option (List Telling)) × HasEnded settings (past_session worker end link told)
    × ∥ had_jobs (past_session worker end link told) ∥₁

-- how many sessions ended for each cause: so many as before, and one more for the cause of each of these, one after the other
abbrev pub ends_after : EndCounts → List PastSession → EndCounts
ends_after before [] = before
ends_after before (session ∷ sessions) = ends_after (with_cause session.end.cause before) sessions

-- The sessions have ended. Together they grabbed as many jobs as the totals of the run, and reported as many, and its counts of causes are
-- those of their ends.
pub record AreSums (settings : Settings) (sessions : List PastSession) (run : RunEnd) : Type 0 where
  pub ended : AllByRecursion (HasEnded settings) sessions
  pub grabs : run.totals.grabbed ≡ sum_by (λ session. session.end.grabbed) sessions
  pub reports : run.totals.reported ≡ sum_by (λ session. session.end.reported) sessions
  pub causes : run.ends ≡ ends_after no_ends sessions

abbrev pub counts_of : RunEnd → Counts
counts_of run = record { grabbed = run.totals.grabbed; reported = run.totals.reported; ends = run.ends }

-- the counts before, and what these sessions counted
abbrev pub counted : Counts → List PastSession → Counts
counted before sessions =
    record {
      grabbed = before.grabbed + sum_by (λ session. session.end.grabbed) sessions;
      reported = before.reported + sum_by (λ session. session.end.reported) sessions;
      ends = ends_after before.ends sessions;
    }

-- each session had such jobs
abbrev pub AllHad : (PastSession → Type 0) → List PastSession → Type 0
AllHad had_jobs sessions = AllByRecursion (λ session. ∥ had_jobs session ∥₁) sessions

-- whatever is said by the one is said by the other
abbrev pub Covers : (PastSession → Type 0) → (PastSession → Type 0) → Type 0
Covers wide narrow = (session : PastSession) → narrow session → ∥ wide session ∥₁
