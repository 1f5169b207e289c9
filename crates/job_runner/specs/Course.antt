-- A session by what it wrote, what it read, and what its port answered.
use Rattle.std.specs.Prelude.{◌≡◌, ◌≢◌, ℕ, ◌+◌, ◌<◌, ◌≤◌, ◌^◌, Bool, true, false, List, [], ◌∷◌, ◌++◌, length, take, Option, Some, None}
use Rattle.std.specs.Prelude.{Result, Ok, Err, IsTrue, slice_get}
use Rattle.std.specs.Option.{option_to_list, option_and_then}
use Rattle.std.specs.List.{filter, filter_map, AllByRecursion}
use Rattle.gear_packets.specs.Request.{Packet, can_do, cant_do, pre_sleep, grab_job, set_client_id, work_status, work_complete, work_fail}
use Rattle.gear_packets.specs.Request.{work_data, work_warning, IsSent}
use Rattle.gear_packets.specs.PacketRefusals.{request_refusal}
use Rattle.gear_packets.specs.Response.{AssignedJob}
use Rattle.gear_packets.specs.Text.{text_of, is_work, register}
use Rattle.job_runner.specs.declared.end.EndCause.{EndCause}
use Rattle.job_runner.specs.declared.end.EndCause.TheVariants.{WriteFault, Retired, Stopped, Memory}
use Rattle.job_runner.specs.declared.end.EndCause.TheVariants as cause
use Rattle.worker_state.specs.OrderParts.{OrderParts}
use Rattle.worker_state.specs.declared.order.What.TheVariants.{Stop}
use Rattle.job_runner.specs.declared.port.PortAnswer.TheVariants as answer
use Rattle.job_runner.specs.declared.order.Phase.{Phase}
use Rattle.job_runner.specs.declared.order.Phase.TheVariants.{Idle}
use Rattle.job_runner.specs.declared.answering.Tally.{Tally}
use Rattle.byte_io.specs.Sides.{and_then}
use Rattle.worker_state.specs.Registration.{change_of}
use Rattle.pool_settings.specs.Names.{is_name}
use Rattle.job_runner.specs.Told.{Telling, jobs_of, replies}
use Rattle.job_runner.specs.Book.{Ledger}

-- what a session is for: its worker's name and generation, and the functions by number
pub record Duty : Type 0 where
  pub worker : List ℕ
  pub generation : ℕ
  pub functions : List (List ℕ)

-- A session so far: what it is for, what stood on its link when it began, and what it has read.
pub record Session : Type 0 where
  pub duty : Duty
  pub before : Option (List ℕ)
  pub read : List ℕ

abbrev pub session_of : Duty → Option (List ℕ) → List ℕ → Session
session_of duty before read = record { duty = duty; before = before; read = read }

abbrev pub asks : Packet → Bool
asks (can_do name) = false
asks (cant_do name) = false
asks pre_sleep = true
asks grab_job = true
asks (set_client_id text) = false
asks (work_status handle part whole) = false
asks (work_complete handle bytes) = false
asks (work_fail handle) = false
asks (work_data handle bytes) = false
asks (work_warning handle bytes) = false

-- After each packet at most one function is registered, and exactly one where the packet asks for a job.
abbrev pub OneAtATime : List (List ℕ) → List Packet → Type 0
OneAtATime names [] = Unit {0}
OneAtATime names (p ∷ ps) =
    (length (register names p) ≤ 1) × (asks p ≡ true → length (register names p) ≡ 1) × OneAtATime (register names p) ps

-- a text begins with the worker's name
abbrev pub Introduces : List ℕ → List Packet → Type 0
Introduces worker [] = ⊥
Introduces worker (p ∷ ps) = p ≡ set_client_id worker

-- a text that is empty or begins so
abbrev pub MayIntroduce : List ℕ → List Packet → Type 0
MayIntroduce worker [] = Unit {0}
MayIntroduce worker (p ∷ ps) = p ≡ set_client_id worker

-- The bytes are whole packets, which answer these jobs, and a prefix of a text that was begun and answers `begun`: no job, or the next.
pub record Cut (duty : Duty) (bytes : List ℕ) (answered begun : List Telling) : Type 0 where
  pub sent : List Packet
  pub next : List Packet
  pub part : List ℕ
  pub lost : List ℕ
  pub bytes_are : bytes ≡ text_of sent ++ part
  pub next_is : text_of next ≡ part ++ lost
  pub each_sent : AllByRecursion IsSent (sent ++ next)
  pub introduces : MayIntroduce duty.worker (sent ++ next)
  pub works : filter is_work sent ≡ replies answered
  pub next_works : filter is_work next ≡ replies begun
  pub one : OneAtATime [] (sent ++ next)

-- Between two assignments all counts agree.
pub record Even (tally : Tally) (book : Ledger) (count : ℕ) : Type 0 where
  pub grabbed : tally.grabbed ≡ count
  pub answered : tally.answered ≡ count
  pub reported : tally.reported ≡ count
  pub grabs : book.grabs ≡ count
  pub begins : book.begins ≡ count
  pub reports : book.reports ≡ count

-- There is room to count one more job.
abbrev pub CanCount : Tally → Type 0
CanCount tally = (tally.grabbed + 1 < 2 ^ 64) × (tally.answered + 1 < 2 ^ 64) × (tally.reported + 1 < 2 ^ 64)

-- A port has room to book one more job.
abbrev pub CanBook : Ledger → Type 0
CanBook book = (book.grabs + 1 < 2 ^ 64) × (book.begins + 1 < 2 ^ 64) × (book.reports + 1 < 2 ^ 64)

-- At the end of a session the counts are in this order.
pub record Chain (tally : Tally) (book : Ledger) (answered begun : ℕ) : Type 0 where
  pub answered_is : tally.answered ≡ answered
  pub reported : tally.reported ≤ tally.answered
  pub begins : book.begins ≡ tally.answered + begun
  pub grabbed : book.begins ≤ tally.grabbed
  pub one_open : tally.grabbed ≤ tally.reported + 1
  pub grabs : book.grabs ≡ tally.grabbed
  pub reports : book.reports ≡ tally.reported

-- A session that ends: `bytes` were written in all, and of the jobs assigned the first were run, in order, and told this: no more
-- than the port had booked. If the session ends since a job was not served, each job that told something is answered.
pub record Ends (duty : Duty) (bytes : List ℕ) (told : List Telling) (taken : List AssignedJob) (tally : Tally) (book : Ledger)
    (reason : EndCause) : Type 0 where
  pub answered : List Telling
  pub begun : List Telling
  pub unwritten : List Telling
  pub later : List AssignedJob
  pub told_are : told ≡ answered ++ (begun ++ unwritten)
  pub undone : reason ≡ cause.Unserved → begun ++ unwritten ≡ []
  pub in_order : taken ≡ jobs_of told ++ later
  pub booked : length told ≤ tally.grabbed
  pub cut : Cut duty bytes answered begun
  pub whole : reason ≢ WriteFault → cut.part ≡ []
  pub proper : reason ≡ WriteFault → 0 < length cut.lost
  pub introduced : reason ≢ Memory → Introduces duty.worker (cut.sent ++ cut.next)
  pub chain : Chain tally book (length answered) (length begun)

-- A step that goes on leaves the first, and one that ends the session leaves the second of its cause.
abbrev pub GoesOnOrEnds : {T : Type 0} → Type 0 → (EndCause → Type 0) → Result T EndCause → Type 0
GoesOnOrEnds on ends (Ok r) = on
GoesOnOrEnds on ends (Err cause) = ends cause

-- ---- orders

-- the packets that are there
abbrev pub packets_in : List (Option Packet) → List Packet
packets_in ps = filter_map (λ p. p) ps

-- with a function a job is asked for
abbrev pub asking : Option (List ℕ) → List Packet
asking None = []
asking (Some to) = grab_job ∷ []

-- a function's name in the settings
abbrev pub IsFunctionName : List ℕ → Type 0
IsFunctionName name = IsTrue (is_name name)

-- the packets that lead from one function, or none, to another
abbrev pub obeying : Option (List ℕ) → Option (List ℕ) → List Packet
obeying from to = packets_in (change_of from to) ++ asking to

-- the name of a function by its number, if it is there
abbrev pub name_of : List (List ℕ) → Option ℕ → Option (List ℕ)
name_of functions f = option_and_then (slice_get functions) f

-- the functions that a session has registered: one, or none
abbrev pub known : List (List ℕ) → Option ℕ → List (List ℕ)
known functions f = option_to_list (name_of functions f)

-- an order to stop, for this generation
abbrev pub IsStop : ℕ → OrderParts → Type 0
IsStop generation order = (order.what ≡ Stop) × (order.generation ≡ generation)

-- What a port's last answer has to be if it ended the session. No answer of a port ends one for what was read.
abbrev pub PortReason : ℕ → Ledger → EndCause → Type 0
PortReason generation book Retired = book.last_answer ≡ Some answer.Retire
PortReason generation book cause.Gone = book.last_answer ≡ Some answer.Gone
PortReason generation book cause.HistoryFull = book.last_answer ≡ Some answer.HistoryFull
PortReason generation book Stopped = (order : OrderParts) × (book.last_answer ≡ Some (answer.Ordered order)) × IsStop generation order
PortReason generation book cause.Closed = ⊥
PortReason generation book cause.ReadFault = ⊥
PortReason generation book cause.BadPacket = ⊥
PortReason generation book cause.ServerError = ⊥
PortReason generation book cause.TurnsUsed = ⊥
PortReason generation book cause.Unserved = ⊥
PortReason generation book other = Unit {0}

-- the same if a job was run as well
abbrev pub AnswerReason : ℕ → Ledger → EndCause → Type 0
AnswerReason generation book cause.Unserved = Unit {0}
AnswerReason generation book other = PortReason generation book other

-- a session that waits or sleeps has a function registered
abbrev pub IsServing : ℕ → Phase → Option ℕ → Type 0
IsServing count Idle registered = Unit {0}
IsServing count phase None = ⊥
IsServing count phase (Some f) = f < count

-- ---- sending

-- a packet that breaks no rule of packets
abbrev pub IsAccepted : Packet → Type 0
IsAccepted p = request_refusal p ≡ None

-- What sending packets leaves, by what the link showed before and after: all of them, a prefix of their text, or nothing.
abbrev pub Sends : Option (List ℕ) → Option (List ℕ) → List Packet → Result (Unit {0}) EndCause → Type 0
Sends old new packets (Ok r) = (new ≡ and_then old (text_of packets)) × AllByRecursion IsSent packets
Sends old new packets (Err WriteFault) =
    (count : ℕ) × (count < length (text_of packets)) × (new ≡ and_then old (take count (text_of packets))) × AllByRecursion IsSent packets
Sends old new packets (Err Memory) = new ≡ old
Sends old new packets (Err other) = ⊥
