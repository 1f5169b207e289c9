-- What a session holds while it goes on.
use Rattle.std.specs.Prelude.{◌≡◌, ℕ, List, Option}
use Rattle.gear_packets.specs.Response.{AssignedJob}
use Rattle.gear_packets.specs.Text.{Reading}
use Rattle.byte_io.specs.Sides.{Input, Output}
use Rattle.job_runner.specs.declared.end.EndCause.{EndCause}
use Rattle.job_runner.specs.declared.jobs.NotDone.{NotDone}
use Rattle.job_runner.specs.declared.worker.Worker.{Worker}
use Rattle.job_runner.specs.declared.state.Session as running
use Rattle.job_runner.specs.Book.{Ledger}
use Rattle.job_runner.specs.Acting.{Moment, moment}
use Rattle.job_runner.specs.Told.{Told, AreTold, IsPrepared}
use Rattle.job_runner.specs.Run.{Link, EndTold, seen_link}
use Rattle.job_runner.specs.Loop.{session_in, HasServed, Halts}

-- what it knows, what is on its link, and what its port did
abbrev pub now_of : {L P J : Type 0} → (L → Output) → (P → Ledger) → running.Session L P J → Moment
now_of output book s = moment s.state (output s.link.now).got (book s.port.now)

-- what its link shows
abbrev pub link_of : {L P J : Type 0} → (L → Input) → (L → Output) → running.Session L P J → Link
link_of input output s = seen_link input output s.link.now

-- a session holds the link, the port and the jobs that it held
pub record SameParts {L P J : Type 0} (old new : running.Session L P J) : Type 0 where
  pub link : new.link.ghost_name ≡ old.link.ghost_name
  pub port : new.port.ghost_name ≡ old.port.ghost_name
  pub jobs : new.jobs.ghost_name ≡ old.jobs.ghost_name

-- and its jobs were not run
pub record Idles {L P J : Type 0} (old new : running.Session L P J) : Type 0 where
  pub parts : SameParts old new
  pub jobs : new.jobs.now ≡ old.jobs.now

-- and its jobs were not run, but what runs them may have got ready
pub record GetsReady {L P J : Type 0} (prepares : J → J → Type 0) (old new : running.Session L P J) : Type 0 where
  pub parts : SameParts old new
  pub jobs : IsPrepared prepares old.jobs.now new.jobs.now

-- how a session began, and what it has read
pub record Start (J : Type 0) : Type 0 where
  pub first : J
  pub before : Option (List ℕ)
  pub read : List ℕ

-- a session that has read this
abbrev pub having_read : {J : Type 0} → Start J → List ℕ → Start J
having_read start read = record start { read = read }

-- all messages that were given are served
abbrev pub Stands : {L P J : Type 0} → (L → Output) → (P → Ledger) → (J → J → AssignedJob → Option Told → Type 0) → (J → J → Type 0)
    → Worker → Start J → Reading → running.Session L P J → Type 0
Stands output book tells prepares worker start reader s =
    HasServed (session_in worker start.before start.read) (AreTold tells prepares start.first s.jobs.now) (output s.link.now).got reader
    s.state (book s.port.now)

-- it is at its end
abbrev pub IsOver : {L P J : Type 0} → (L → Output) → (P → Ledger) → (J → J → AssignedJob → Option Told → Type 0)
    → (J → J → AssignedJob → NotDone → Type 0) → (J → J → Type 0) → Worker → Start J → running.Session L P J → EndCause → Type 0
IsOver output book tells fails prepares worker start s reason =
    Halts (session_in worker start.before start.read) (EndTold tells fails prepares start.first s.jobs.now) (output s.link.now).got
    s.state.tally (book s.port.now) reason
