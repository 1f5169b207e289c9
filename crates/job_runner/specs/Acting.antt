-- What a session does at a message and at a timeout, by what it waits for.
use Rattle.std.specs.Prelude.{◌≡◌, ◌≢◌, ◌⊎◌, ℕ, ◌+◌, ◌<◌, ◌≤◌, List, [], ◌∷◌, ◌++◌, length, Option, Some, None, Result, Ok, Err}
use Rattle.std.specs.List.{AllByRecursion}
use Rattle.gear_packets.specs.Request.{Packet, pre_sleep, set_client_id, IsSent}
use Rattle.gear_packets.specs.Response.{AssignedJob, Message, noop, no_job, assign, server_error, other}
use Rattle.gear_packets.specs.Text.{text_of}
use Rattle.byte_io.specs.Sides.{and_then}
use Rattle.worker_state.specs.OrderParts.{OrderParts}
use Rattle.job_runner.specs.declared.end.EndCause.{EndCause}
use Rattle.job_runner.specs.declared.end.EndCause.TheVariants.{WriteFault, Memory, Stopped, BadPacket, ServerError}
use Rattle.job_runner.specs.declared.end.EndCause.TheVariants as cause
use Rattle.job_runner.specs.declared.order.Phase.{Phase}
use Rattle.job_runner.specs.declared.order.Phase.TheVariants.{Waiting, Asleep}
use Rattle.job_runner.specs.declared.state.State.{State}
use Rattle.job_runner.specs.declared.worker.Worker.{Worker}
use Rattle.job_runner.specs.declared.port.PortAnswer.{PortAnswer}
use Rattle.job_runner.specs.declared.port.PortAnswer.TheVariants as port
use Rattle.job_runner.specs.declared.answering.Tally.{Tally}
use Rattle.job_runner.specs.Told.{Told, Telling, telling, answer_to}
use Rattle.job_runner.specs.Book.{Ledger, after_order}
use Rattle.job_runner.specs.Course.{GoesOnOrEnds, IsStop, Sends}
use Rattle.job_runner.specs.Following.{Scene, Follows, meant_for, phase_with}

-- a session at one moment: what it knows, what is on its link, and what its port did
pub record Moment : Type 0 where
  pub state : State
  pub written : Option (List ℕ)
  pub book : Ledger

abbrev pub moment : State → Option (List ℕ) → Ledger → Moment
moment state written book = record { state = state; written = written; book = book }

abbrev pub scene_of : Moment → Scene
scene_of m = record { registered = m.state.registered; written = m.written; book = m.book }

-- what a message asks for
pub data Asked : Type 0 where
  -- nothing
  skip : Asked
  -- that the session asks to be woken
  sleep : Asked
  -- that it follows the current order
  follow : Asked
  -- that it answers a job
  serve : AssignedJob → Asked
  -- that it ends
  end : EndCause → Asked

-- What a message asks for in each phase. A job is served where one was asked for, and nowhere else.
abbrev pub asked_by : Message → Phase → Asked
asked_by noop Asleep = follow
asked_by noop phase = skip
asked_by no_job Waiting = sleep
asked_by no_job phase = skip
asked_by (assign job) Waiting = serve job
asked_by (assign job) phase = end BadPacket
asked_by (server_error code text) phase = end ServerError
asked_by (other kind) phase = skip

-- One order was read and followed, by the whole of what a session knows: its counts stay, and what it waits for is what the function says.
pub record FollowsOrder (worker : Worker) (old new : Moment) (result : Result (Unit {0}) EndCause) : Type 0 where
  pub follows : Follows worker (scene_of old) (scene_of new) result
  pub tally : new.state.tally ≡ old.state.tally
  pub phase : result ≡ Ok tt → new.state.phase ≡ phase_with new.state.registered

-- PRE_SLEEP alone was sent, and no order was read.
pub record Sleeps (old new : Moment) (result : Result (Unit {0}) EndCause) : Type 0 where
  pub sends : Sends old.written new.written (pre_sleep ∷ []) result
  pub book : new.book ≡ old.book
  pub tally : new.state.tally ≡ old.state.tally
  pub state : result ≡ Ok tt → new.state ≡ record old.state { phase = Asleep }

-- what a session has counted, what is on its link, and what its port did
pub record Account : Type 0 where
  pub tally : Tally
  pub written : Option (List ℕ)
  pub book : Ledger

abbrev pub account : Tally → Option (List ℕ) → Ledger → Account
account tally written book = record { tally = tally; written = written; book = book }

abbrev pub account_of : Moment → Account
account_of m = account m.state.tally m.written m.book

-- What a job came to: nothing, if it was not run or not done; or what it told.
abbrev pub Came : Type 0
Came = Option (Option Told)

-- what was told of a job
abbrev pub tellings_of : AssignedJob → Came → List Telling
tellings_of job None = []
tellings_of job (Some told) = telling job told ∷ []

-- the packets that answer it
abbrev pub reply_of : AssignedJob → Came → List Packet
reply_of job None = []
reply_of job (Some told) = answer_to job.handle told

-- How far the packets came that a session has to write where it ends.
pub data Reach : Type 0 where
  -- none was written
  nothing : Reach
  -- all were
  whole : Reach
  -- a part of their text was, and the rest was not
  up_to : (part lost : List ℕ) → Reach

-- what was written whole, with what came before
abbrev pub whole_by : {A : Type 0} → Reach → List A → List A → List A
whole_by nothing xs ys = xs
whole_by whole xs ys = xs ++ ys
whole_by (up_to part lost) xs ys = xs

-- what was begun and not written whole
abbrev pub begun_by : {A : Type 0} → Reach → List A → List A
begun_by nothing ys = []
begun_by whole ys = []
begun_by (up_to part lost) ys = ys

-- the bytes that were written of packets
abbrev pub bytes_by : Reach → List Packet → List ℕ
bytes_by nothing packets = []
bytes_by whole packets = text_of packets
bytes_by (up_to part lost) packets = part

-- Packets come so far where a session ends for this cause. Only a failed write leaves a part.
abbrev pub IsReach : Reach → List Packet → EndCause → Type 0
IsReach nothing packets reason = reason ≢ WriteFault
IsReach whole packets reason = ((reason ≡ cause.Retired) ⊎ (reason ≡ cause.Gone)) × AllByRecursion IsSent packets
IsReach (up_to part lost) packets reason =
    (reason ≡ WriteFault) × AllByRecursion IsSent packets × (text_of packets ≡ part ++ lost) × (0 < length lost)

-- how far the counts of a session and of its port have gone
pub record Rises (old new : Account) (grabs begins answers reports : ℕ) : Type 0 where
  pub grabbed : new.tally.grabbed ≡ old.tally.grabbed + grabs
  pub answered : new.tally.answered ≡ old.tally.answered + answers
  pub reported : new.tally.reported ≡ old.tally.reported + reports
  pub grabs_are : new.book.grabs ≡ old.book.grabs + grabs
  pub begins_are : new.book.begins ≡ old.book.begins + begins
  pub reports_are : new.book.reports ≡ old.book.reports + reports

-- the ends that a job may have, by what it came to
abbrev pub IsJobEnd : Came → EndCause → Type 0
IsJobEnd None cause.Gone = Unit {0}
IsJobEnd None cause.HistoryFull = Unit {0}
IsJobEnd None Memory = Unit {0}
IsJobEnd None cause.Unserved = Unit {0}
IsJobEnd (Some told) cause.Gone = Unit {0}
IsJobEnd (Some told) Memory = Unit {0}
IsJobEnd (Some told) cause.Retired = Unit {0}
IsJobEnd (Some told) WriteFault = Unit {0}
IsJobEnd came reason = ⊥

-- A job told something, its reply was written whole, and each count rose by one.
pub record Replied (job : AssignedJob) (old new : Account) (came : Came) : Type 0 where
  pub told : Option Told
  pub came_is : came ≡ Some told
  pub written : new.written ≡ and_then old.written (text_of (answer_to job.handle told))
  pub each_sent : AllByRecursion IsSent (answer_to job.handle told)
  pub rises : Rises old new 1 1 1 1

-- A job ended its session: its reply came so far, and the counts rose in their order, each by one at most.
pub record Breaks (job : AssignedJob) (old new : Account) (came : Came) (reason : EndCause) : Type 0 where
  pub reach : Reach
  pub reached : IsReach reach (reply_of job came) reason
  pub written : new.written ≡ and_then old.written (bytes_by reach (reply_of job came))
  pub grabs : ℕ
  pub begins : ℕ
  pub answers : ℕ
  pub reports : ℕ
  pub rises : Rises old new grabs begins answers reports
  pub answers_are : answers ≡ length (whole_by reach [] (tellings_of job came))
  pub begins_are : begins ≡ answers + length (begun_by reach (tellings_of job came))
  pub reports_few : reports ≤ answers
  pub begins_few : begins ≤ grabs
  pub grabs_few : grabs ≤ 1
  pub told_few : length (tellings_of job came) ≤ grabs
  pub is_end : IsJobEnd came reason

-- a job was answered, or ended its session
abbrev pub Answers : AssignedJob → Account → Account → Came → Result (Unit {0}) EndCause → Type 0
Answers job old new came (Ok u) = Replied job old new came
Answers job old new came (Err reason) = Breaks job old new came reason

-- What a port answered last is reported as what it was: a refusal, or that the worker retires, ends the session for that cause.
abbrev pub TellsAnswer : Option PortAnswer → Result (Unit {0}) EndCause → Type 0
TellsAnswer (Some port.Gone) result = result ≡ Err cause.Gone
TellsAnswer (Some port.HistoryFull) result = result ≡ Err cause.HistoryFull
TellsAnswer (Some port.Memory) result = result ≡ Err Memory
TellsAnswer (Some port.Retire) result = result ≡ Err cause.Retired
TellsAnswer last result = Unit {0}

-- A job was answered, and after its reply an order was read and followed, unless the answer ended the session.
pub record Serves (worker : Worker) (job : AssignedJob) (came : Came) (old new : Moment) (result : Result (Unit {0}) EndCause) :
    Type 0 where
  pub answered : Moment
  pub answer : Result (Unit {0}) EndCause
  pub answers : Answers job (account_of old) (account_of answered) came answer
  pub registered : answered.state.registered ≡ old.state.registered
  pub orders : answered.book.orders ≡ old.book.orders
  pub goes_on : GoesOnOrEnds (FollowsOrder worker answered new result) (λ cause. (new ≡ answered) × (result ≡ Err cause)) answer

-- a session did what was asked, and a job came to this
abbrev pub Does : Worker → Asked → Came → Moment → Moment → Result (Unit {0}) EndCause → Type 0
Does worker skip came old new result = (result ≡ Ok tt) × (new ≡ old)
Does worker sleep came old new result = Sleeps old new result
Does worker follow came old new result = FollowsOrder worker old new result
Does worker (serve job) came old new result = Serves worker job came old new result
Does worker (end cause) came old new result = (result ≡ Err cause) × (new ≡ old)

-- what was told where this was asked
abbrev pub told_at : Asked → Came → List Telling
told_at skip came = []
told_at sleep came = []
told_at follow came = []
told_at (serve job) came = tellings_of job came
told_at (end cause) came = []

-- A session that has not asked for a job has to change: the order means another function than the one registered, or none.
abbrev pub IsDue : Worker → State → OrderParts → Type 0
IsDue worker state order = (state.phase ≢ Waiting) × (meant_for worker order ≢ state.registered)

-- nothing was done but to read this order
abbrev pub looked_at : Moment → OrderParts → Moment
looked_at m order = record m { book = after_order m.book order }

-- An order is looked at. A stop for this worker ends the session; if the order is not due nothing is done; and if it is, the one that
-- is current then is followed.
pub data Looks (worker : Worker) (order : OrderParts) (old new : Moment) (result : Result (Unit {0}) EndCause) : Type 0 where
  sees_stop : IsStop worker.pass.now.generation order → result ≡ Err Stopped → new ≡ looked_at old order → Looks worker order old new result
  stays : (IsStop worker.pass.now.generation order → ⊥) → (IsDue worker old.state order → ⊥)
      → result ≡ Ok tt → new ≡ looked_at old order → Looks worker order old new result
  is_due : (IsStop worker.pass.now.generation order → ⊥) → IsDue worker old.state order
      → FollowsOrder worker (looked_at old order) new result → Looks worker order old new result

-- nothing came in the time of one read, and one order was looked at
pub record Glances (worker : Worker) (old new : Moment) (result : Result (Unit {0}) EndCause) : Type 0 where
  pub order : OrderParts
  pub looks : Looks worker order old new result

-- A session gave its worker's name, and after it one order was read and followed, unless sending the name ended it.
pub record Begins (worker : Worker) (name : List ℕ) (old new : Moment) (result : Result (Unit {0}) EndCause) : Type 0 where
  pub named : Option (List ℕ)
  pub answer : Result (Unit {0}) EndCause
  pub sends : Sends old.written named (set_client_id name ∷ []) answer
  pub goes_on : GoesOnOrEnds (FollowsOrder worker (moment old.state named old.book) new result)
      (λ cause. (new ≡ moment old.state named old.book) × (result ≡ Err cause)) answer
