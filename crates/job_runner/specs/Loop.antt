-- A session between its reads.
use Rattle.std.specs.Prelude.{◌≡◌, ℕ, ◌<◌, List, [], ◌∷◌, length, Option, None}
use Rattle.gear_packets.specs.Response.{Message, server_error}
use Rattle.gear_packets.specs.Text.{Reading, reading, read_after, assignments_in}
use Rattle.worker_state.specs.declared.slot.WorkerName.{WorkerName}
use Rattle.pool_settings.specs.Settings.{Settings}
use Rattle.pool_settings.specs.Slots.{worker_text}
use Rattle.job_runner.specs.declared.end.EndCause.{EndCause}
use Rattle.job_runner.specs.declared.end.EndCause.TheVariants as cause
use Rattle.job_runner.specs.declared.order.Phase.TheVariants.{Idle}
use Rattle.job_runner.specs.declared.state.State.{State}
use Rattle.job_runner.specs.declared.answering.Tally.{Tally}
use Rattle.job_runner.specs.declared.worker.Worker.{Worker}
use Rattle.job_runner.specs.Told.{Telling}
use Rattle.job_runner.specs.Book.{Ledger}
use Rattle.job_runner.specs.Course.{Duty, Session, session_of, PortReason}
use Rattle.job_runner.specs.Acting.{account}
use Rattle.job_runner.specs.Path.{Went, Ended, place_of}

abbrev pub first_state : State
first_state = record { registered = None; phase = Idle; tally = record { grabbed = 0; answered = 0; reported = 0 } }

abbrev pub duty_of : Settings → WorkerName → Duty
duty_of settings worker =
    record { worker = worker_text settings worker.slot worker.generation; generation = worker.generation; functions = settings.functions }

-- what the session of a worker is for
abbrev pub duty_in : Worker → Duty
duty_in worker = duty_of worker.place.settings.now worker.pass.now

-- the session of a worker so far
abbrev pub session_in : Worker → Option (List ℕ) → List ℕ → Session
session_in worker before read = session_of (duty_in worker) before read

-- Why a session ends at a message, or at its port. `old` and `new` are its counts before and after.
abbrev pub StepReason : ℕ → Message → Tally → Tally → Ledger → EndCause → Type 0
StepReason generation m old new book cause.BadPacket = (new.grabbed ≡ old.grabbed) × (0 < length (assignments_in (m ∷ [])))
StepReason generation m old new book cause.ServerError = (code text : List ℕ) × (m ≡ server_error code text)
StepReason generation m old new book cause.Unserved = Unit {0}
StepReason generation m old new book other = PortReason generation book other

-- Now that `written` is on the link, all messages that were given are served, by jobs that were run in this way. The bytes read say
-- those, and those that the reader still holds.
pub record HasServed (session : Session) (Ran : List Telling → Type 0) (written : Option (List ℕ)) (reader : Reading) (s : State)
    (book : Ledger) : Type 0 where
  pub told : List Telling
  pub given : List Message
  pub ran : Ran told
  pub heard : reading session.read ≡ read_after given reader
  pub went : Went session.duty session.before given told (account s.tally written book) (place_of s)

-- the session is at its end, by jobs that were run in this way
pub record Halts (session : Session) (Ran : EndCause → List Telling → Type 0) (written : Option (List ℕ)) (tally : Tally) (book : Ledger)
    (reason : EndCause) : Type 0 where
  pub told : List Telling
  pub ran : Ran reason told
  pub ended : Ended session told (account tally written book) reason
