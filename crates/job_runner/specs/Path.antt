-- A session as the path that it takes: what it meets, one thing after the other, and what it writes at each.
use Rattle.std.specs.Prelude.{◌≡◌, ◌≢◌, ◌≤◌, ℕ, List, [], ◌∷◌, ◌++◌, length, Option, Some, None}
use Rattle.std.specs.Option.{option_to_list}
use Rattle.std.specs.List.{filter_map, AllByRecursion}
use Rattle.gear_packets.specs.Request.{Packet, set_client_id, pre_sleep, IsSent}
use Rattle.gear_packets.specs.Response.{AssignedJob, Message, assign}
use Rattle.gear_packets.specs.Text.{text_of, reading}
use Rattle.byte_io.specs.Sides.{and_then}
use Rattle.worker_state.specs.OrderParts.{OrderParts}
use Rattle.job_runner.specs.declared.end.EndCause.{EndCause}
use Rattle.job_runner.specs.declared.end.EndCause.TheVariants.{WriteFault, Stopped}
use Rattle.job_runner.specs.declared.end.EndCause.TheVariants as cause
use Rattle.job_runner.specs.declared.order.Phase.{Phase}
use Rattle.job_runner.specs.declared.order.Phase.TheVariants.{Waiting, Asleep}
use Rattle.job_runner.specs.declared.state.State.{State}
use Rattle.job_runner.specs.Told.{Telling, telling, reply}
use Rattle.job_runner.specs.Course.{Duty, Session, Even, Chain, IsStop, obeying, name_of}
use Rattle.job_runner.specs.Following.{meant_by, phase_with}
use Rattle.job_runner.specs.Acting.{asked_by, skip, sleep, follow, end, Account, Came, reply_of, IsJobEnd}
use Rattle.job_runner.specs.Acting.{Reach, whole_by, begun_by, bytes_by, IsReach}

-- what a session meets
pub data Event : Type 0 where
  -- its start
  starts : Event
  -- an order that it follows
  ordered : OrderParts → Event
  -- an order that it looks at, since nothing came in the time of one read
  looked : OrderParts → Event
  -- a message, with which nothing was told of a job
  heard : Message → Event
  -- a job that it was given, with what was told of it
  ran : Telling → Event

-- where it is
pub data Stage : Type 0 where
  -- it has not given its name
  unnamed : Stage
  -- it is to follow the current order
  following : Stage
  -- it hears messages, in a phase
  hearing : Phase → Stage

pub record Place : Type 0 where
  pub registered : Option ℕ
  pub stage : Stage

abbrev pub place : Option ℕ → Stage → Place
place registered stage = record { registered = registered; stage = stage }

-- where a session is that hears messages
abbrev pub place_of : State → Place
place_of s = place s.registered (hearing s.phase)

-- the function that an order means for a session
abbrev pub meant_in : Duty → OrderParts → Option ℕ
meant_in duty order = meant_by duty.generation (length duty.functions) order

-- One step: from where, at what, with which packets, to where. The function that is registered is the one that the order means that was
-- followed last, and it changes where an order is followed and nowhere else.
pub data Step (duty : Duty) : Place → Event → List Packet → Place → Type 0 where
  named : (f : Option ℕ) → Step duty (place f unnamed) starts (set_client_id duty.worker ∷ []) (place f following)
  obeyed : (f : Option ℕ) (order : OrderParts) → (IsStop duty.generation order → ⊥)
      → Step duty (place f following) (ordered order) (obeying (name_of duty.functions f) (name_of duty.functions (meant_in duty order)))
      (place (meant_in duty order) (hearing (phase_with (meant_in duty order))))
  unchanged : (f : Option ℕ) (phase : Phase) (order : OrderParts) → (IsStop duty.generation order → ⊥)
      → ((phase ≢ Waiting) × (meant_in duty order ≢ f) → ⊥)
      → Step duty (place f (hearing phase)) (looked order) [] (place f (hearing phase))
  changed : (f : Option ℕ) (phase : Phase) (order : OrderParts) → (IsStop duty.generation order → ⊥)
      → phase ≢ Waiting → meant_in duty order ≢ f
      → Step duty (place f (hearing phase)) (looked order) [] (place f following)
  skipped : (f : Option ℕ) (phase : Phase) (m : Message) → asked_by m phase ≡ skip
      → Step duty (place f (hearing phase)) (heard m) [] (place f (hearing phase))
  slept : (f : Option ℕ) (phase : Phase) (m : Message) → asked_by m phase ≡ sleep
      → Step duty (place f (hearing phase)) (heard m) (pre_sleep ∷ []) (place f (hearing Asleep))
  woken : (f : Option ℕ) (phase : Phase) (m : Message) → asked_by m phase ≡ follow
      → Step duty (place f (hearing phase)) (heard m) [] (place f following)
  served : (f : Option ℕ) (t : Telling) → Step duty (place f (hearing Waiting)) (ran t) (reply t) (place f following)

-- A path from the start of a session: what it met, what it wrote, and where it is.
pub data Path (duty : Duty) : List Event → List Packet → Place → Type 0 where
  start : Path duty [] [] (place None unnamed)
  then : (events : List Event) (sent : List Packet) (from : Place) (event : Event) (packets : List Packet) (to : Place)
      → Path duty events sent from → Step duty from event packets to → Path duty (events ++ event ∷ []) (sent ++ packets) to

-- the ends that sending packets may have
abbrev pub IsSendEnd : EndCause → Type 0
IsSendEnd cause.Memory = Unit {0}
IsSendEnd WriteFault = Unit {0}
IsSendEnd other = ⊥

-- the ends that a session may have where it waits for more to read
abbrev pub IsWaitEnd : EndCause → Type 0
IsWaitEnd cause.Closed = Unit {0}
IsWaitEnd cause.ReadFault = Unit {0}
IsWaitEnd cause.Memory = Unit {0}
IsWaitEnd cause.TurnsUsed = Unit {0}
IsWaitEnd cause.BadPacket = Unit {0}
IsWaitEnd other = ⊥

-- what a session meets that is given a job, by what that comes to
abbrev pub event_of : AssignedJob → Came → Event
event_of job None = heard (assign job)
event_of job (Some told) = ran (telling job told)

-- How a session ends: where, at what, if it met something, with which packets to be written, and for which cause.
pub data Last (duty : Duty) : Place → Option Event → List Packet → EndCause → Type 0 where
  stopped : (f : Option ℕ) (order : OrderParts) → IsStop duty.generation order
      → Last duty (place f following) (Some (ordered order)) [] Stopped
  stopped_waiting : (f : Option ℕ) (phase : Phase) (order : OrderParts) → IsStop duty.generation order
      → Last duty (place f (hearing phase)) (Some (looked order)) [] Stopped
  refused : (f : Option ℕ) (phase : Phase) (m : Message) (reason : EndCause) → asked_by m phase ≡ end reason
      → Last duty (place f (hearing phase)) (Some (heard m)) [] reason
  unsent : (from to : Place) (event : Event) (packets : List Packet) (reason : EndCause) → Step duty from event packets to
      → IsSendEnd reason → Last duty from (Some event) packets reason
  unanswered : (f : Option ℕ) (job : AssignedJob) (came : Came) (reason : EndCause) → IsJobEnd came reason
      → Last duty (place f (hearing Waiting)) (Some (event_of job came)) (reply_of job came) reason
  waiting : (f : Option ℕ) (phase : Phase) (reason : EndCause) → IsWaitEnd reason
      → Last duty (place f (hearing phase)) None [] reason

abbrev pub message_at : Event → Option Message
message_at starts = None
message_at (ordered order) = None
message_at (looked order) = None
message_at (heard m) = Some m
message_at (ran t) = Some (assign t.job)

abbrev pub order_at : Event → Option OrderParts
order_at starts = None
order_at (ordered order) = Some order
order_at (looked order) = Some order
order_at (heard m) = None
order_at (ran t) = None

abbrev pub telling_at : Event → Option Telling
telling_at starts = None
telling_at (ordered order) = None
telling_at (looked order) = None
telling_at (heard m) = None
telling_at (ran t) = Some t

abbrev pub messages_in : List Event → List Message
messages_in events = filter_map message_at events

abbrev pub orders_in : List Event → List OrderParts
orders_in events = filter_map order_at events

abbrev pub tellings_in : List Event → List Telling
tellings_in events = filter_map telling_at events

-- A session so far: it took a path, on which it wrote all that it wrote, met the messages given in their order, and the orders that its
-- port answered in theirs, and on which this was told of the jobs. It counted each of these, and so did its port.
pub record Went (duty : Duty) (before : Option (List ℕ)) (given : List Message) (told : List Telling) (now : Account) (at : Place) :
    Type 0 where
  pub events : List Event
  pub sent : List Packet
  pub path : Path duty events sent at
  pub written_is : now.written ≡ and_then before (text_of sent)
  pub each_sent : AllByRecursion IsSent sent
  pub messages_are : messages_in events ≡ given
  pub told_are : tellings_in events ≡ told
  pub orders_are : orders_in events ≡ now.book.orders
  pub even : Even now.tally now.book (length told)

-- a session waits for more to read: it has met nothing, or only that nothing came in the time of one read
abbrev pub WaitsForMore : Option Event → Type 0
WaitsForMore None = Unit {0}
WaitsForMore (Some (looked order)) = Unit {0}
WaitsForMore (Some other) = ⊥

-- A session at its end: it took a path, and ended in one way after it. The packets that it had to write then are written whole or not at
-- all, and where the write failed as far as it came. Where it waited for more, it has met all messages that it read, unless there was no
-- memory to read on. This was told of the jobs on the way and at the end. The counts are in their order, by how far the last reply came.
pub record Ended (session : Session) (told : List Telling) (now : Account) (reason : EndCause) : Type 0 where
  pub events : List Event
  pub sent : List Packet
  pub at : Place
  pub path : Path session.duty events sent at
  pub met : Option Event
  pub packets : List Packet
  pub last : Last session.duty at met packets reason
  pub reach : Reach
  pub reached : IsReach reach packets reason
  pub written_is : now.written ≡ and_then session.before (text_of sent ++ bytes_by reach packets)
  pub each_sent : AllByRecursion IsSent sent
  pub later : List Message
  pub messages_are : (reading session.read).messages ≡ messages_in (events ++ option_to_list met) ++ later
  pub all_met : WaitsForMore met → reason ≢ cause.Memory → later ≡ []
  pub orders_are : orders_in (events ++ option_to_list met) ≡ now.book.orders
  pub told_are : told ≡ tellings_in events ++ tellings_in (option_to_list met)
  pub chain : Chain now.tally now.book (length (whole_by reach (tellings_in events) (tellings_in (option_to_list met))))
      (length (begun_by reach (tellings_in (option_to_list met))))
  pub booked : length told ≤ now.tally.grabbed
