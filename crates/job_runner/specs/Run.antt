-- A whole session.
use Rattle.std.specs.Prelude.{◌≡◌, ◌≢◌, ℕ, ◌+◌, ◌<◌, ◌≤◌, ◌⊎◌, true, List, [], ◌∷◌, ◌++◌, length, take, Option, Some, None, Result, Err}
use Rattle.std.specs.Prelude.{map}
use Rattle.std.specs.List.{AllByRecursion}
use Rattle.gear_packets.specs.Request.{Packet}
use Rattle.gear_packets.specs.Response.{AssignedJob, Message, server_error}
use Rattle.gear_packets.specs.Text.{reading, assignments, sent, text_of, registered, work_requests}
use Rattle.gear_packets.specs.Reading.{fault_of}
use Rattle.byte_io.specs.Sides.{Input, Output}
use Rattle.job_runner.specs.declared.end.EndCause.{EndCause}
use Rattle.job_runner.specs.declared.end.EndCause.TheVariants as cause
use Rattle.job_runner.specs.declared.end.SessionEnd.{SessionEnd}
use Rattle.worker_state.specs.declared.cause.Cause.{Cause}
use Rattle.job_runner.specs.declared.answering.Tally.{Tally}
use Rattle.job_runner.specs.Ends.{loss_of}
use Rattle.job_runner.specs.Told.{Told, Telling, replies, AreTold, IsMeant, meant}
use Rattle.job_runner.specs.declared.jobs.NotDone.{NotDone}
use Rattle.job_runner.specs.declared.jobs.NotDone.TheVariants as not_done
use Rattle.job_runner.specs.Book.{Ledger}
use Rattle.job_runner.specs.Acting.{account}
use Rattle.job_runner.specs.Path.{Ended}
use Rattle.job_runner.specs.Course.{Session, asks, Ends, GoesOnOrEnds, PortReason}

-- how a session ends if a job fails so
abbrev pub end_of : NotDone → EndCause
end_of not_done.Unserved = cause.Unserved
end_of not_done.Memory = cause.Memory

-- What runs jobs is as the last one left it, and the end is none of theirs; or one more job failed, and the session ends for that.
abbrev pub IsLeftBy : {J : Type 0} → (J → J → AssignedJob → NotDone → Type 0) → J → J → EndCause → Type 0
IsLeftBy fails last new reason =
    ((new ≡ last) × (reason ≢ cause.Unserved))
    ⊎ ((job : AssignedJob) × (error : NotDone) × fails last new job error × (reason ≡ end_of error))

-- what jobs told up to an end, from the first value of what runs them to the one that is left
abbrev pub EndTold : {J : Type 0} → (J → J → AssignedJob → Option Told → Type 0) → (J → J → AssignedJob → NotDone → Type 0)
    → (J → J → Type 0) → J → J → EndCause → List Telling → Type 0
EndTold {J} tells fails prepares first new reason told =
    (last : J) × AreTold tells prepares first last told × IsLeftBy fails last new reason

-- what jobs told in a step, from the value before to the one after
abbrev pub ToldSince : {J : Type 0} → (J → J → AssignedJob → Option Told → Type 0) → (J → J → AssignedJob → NotDone → Type 0)
    → (J → J → Type 0) → J → J → List Telling → Result (Unit {0}) EndCause → Type 0
ToldSince tells fails prepares old new since result =
    GoesOnOrEnds (AreTold tells prepares old new since) (λ reason. EndTold tells fails prepares old new reason since) result

-- a stream names an error
abbrev pub HasError : List Message → Type 0
HasError ms = (code text : List ℕ) × (before after : List Message) × (ms ≡ before ++ server_error code text ∷ after)

-- what a link shows of its two sides
pub record Link : Type 0 where
  pub input : Input
  pub output : Output

-- what a device shows of its two sides
abbrev pub seen_link : {D : Type 0} → (D → Input) → (D → Output) → D → Link
seen_link input output device = record { input = input device; output = output device }

-- A step that writes and does not read leaves the input as it was. A write fails only where the step ends as WriteFault, and once then.
pub record LinkKept {T : Type 0} (old new : Link) (result : Result T EndCause) : Type 0 where
  pub input : new.input ≡ old.input
  pub write_fault : result ≡ Err cause.WriteFault → new.output.failures ≡ old.output.failures + 1
  pub no_failure : result ≢ Err cause.WriteFault → new.output.failures ≡ old.output.failures

-- no read failed, and no write
abbrev pub NoFault : Link → Link → Type 0
NoFault old new = (new.input.failures ≡ old.input.failures) × (new.output.failures ≡ old.output.failures)

-- A failed read ends a session as ReadFault, and a failed write as WriteFault: no other session meets one.
abbrev pub FailsAs : Link → Link → EndCause → Type 0
FailsAs old new reason = (reason ≢ cause.ReadFault → new.input.failures ≡ old.input.failures)
    × (reason ≢ cause.WriteFault → new.output.failures ≡ old.output.failures)

-- Why a session ends at what was read, or at its port, by its counts and its port's book then.
abbrev pub ReadReason : Session → Tally → Ledger → EndCause → Type 0
ReadReason session tally book cause.BadPacket =
    (fault_of (reading session.read).ending ≢ None) ⊎ (tally.grabbed < length (assignments session.read))
ReadReason session tally book cause.ServerError = HasError (reading session.read).messages
ReadReason session tally book cause.Unserved = Unit {0}
ReadReason session tally book other = PortReason session.duty.generation book other

-- Each cause is there only if its reason is. `old` and `new` are what the link shows before and after.
abbrev pub Reason : Session → Link → Link → Tally → Ledger → EndCause → Type 0
Reason session old new tally book cause.Closed = new.input.has_ended ≡ true
Reason session old new tally book cause.ReadFault = new.input.failures ≡ old.input.failures + 1
Reason session old new tally book cause.WriteFault = new.output.failures ≡ old.output.failures + 1
Reason session old new tally book cause.TurnsUsed = NoFault old new
Reason session old new tally book cause.Memory = NoFault old new
Reason session old new tally book other = ReadReason session tally book other

-- no call of `lose`, or one with this cause
abbrev pub Lost : Option Cause → Ledger → Type 0
Lost None book = book.losses ≡ 0
Lost (Some c) book = (book.losses ≡ 1) × (book.last_loss ≡ Some c)

abbrev pub tally_of : SessionEnd → Tally
tally_of e = record { grabbed = e.grabbed; answered = e.answered; reported = e.reported }

-- What a session promises at its end, of all that its jobs told and that it read and wrote. But for a failed write, what it wrote is whole
-- packets, and those that answer jobs are the replies to the first `answered` jobs that were assigned to it. After each whole packet at
-- most one function is registered, and exactly one after a packet that asks for a job or to be woken. It took one path to its end.
pub record Served (session : Session) (told : List Telling) (bytes : List ℕ) (old new : Link) (book : Ledger) (e : SessionEnd) :
    Type 0 where
  pub ends : Ends session.duty bytes told (assignments session.read) (tally_of e) book e.cause
  pub whole : e.cause ≢ cause.WriteFault → (sent bytes).packets ≡ ends.cut.sent
  pub work : e.cause ≢ cause.WriteFault → work_requests bytes ≡ replies (take e.answered told)
  pub registers : (k : ℕ) → length (registered (text_of (take k (ends.cut.sent ++ ends.cut.next)))) ≤ 1
  pub asking : (before after : List Packet) (p : Packet)
      → ends.cut.sent ++ ends.cut.next ≡ before ++ p ∷ after → asks p ≡ true → length (registered (text_of (before ++ p ∷ []))) ≡ 1
  pub path : Ended session told (account (tally_of e) new.output.got book) e.cause
  pub reason : Reason session old new (tally_of e) book e.cause
  pub faults : FailsAs old new e.cause
  pub lost : Lost (loss_of e.cause) book

-- The same of jobs that tell what a function of their name and input says.
pub record ServedBy (meaning : List ℕ → List ℕ → Option Told) (session : Session) (bytes : List ℕ) (old new : Link) (book : Ledger)
    (e : SessionEnd) : Type 0 where
  pub told : List Telling
  pub meant_so : AllByRecursion (IsMeant meaning) told
  pub served : Served session told bytes old new book e
  pub never_unserved : e.cause ≢ cause.Unserved
  pub work : e.cause ≢ cause.WriteFault
      → work_requests bytes ≡ replies (map (meant meaning) (take e.answered (assignments session.read)))
