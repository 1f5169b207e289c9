-- What jobs tell, and the packets that answer an assignment.
use Rattle.std.specs.Prelude.{◌≡◌, ℕ, Bool, true, nat_le, if◌then◌else◌, List, [], ◌∷◌, ◌++◌, length, map, Option, Some, None}
use Rattle.std.specs.List.{list_all, flat_map}
use Rattle.gear_packets.specs.Frame.{body_limit}
use Rattle.gear_packets.specs.Request.{Packet, work_status, work_complete, work_fail, work_data, work_warning, body_of}
use Rattle.gear_packets.specs.Response.{AssignedJob}
use Rattle.job_runner.specs.declared.job.Note.{Note}
use Rattle.job_runner.specs.declared.job.Note.TheVariants.{Piece, Warning, Progress}
use Rattle.job_runner.specs.declared.job.End.{End}
use Rattle.job_runner.specs.declared.job.End.TheVariants.{Complete, Fail}
use Rattle.job_runner.specs.declared.job.Outcome.{Outcome}
use Rattle.worker_state.specs.declared.job.EndKind.{EndKind}
use Rattle.worker_state.specs.declared.job.EndKind.TheVariants as kind

pub data Remark : Type 0 where
  piece : List ℕ → Remark
  warning : List ℕ → Remark
  progress : ℕ → ℕ → Remark

pub data Finish : Type 0 where
  complete : List ℕ → Finish
  fail : Finish

-- an outcome without where it lies in memory
pub record Told : Type 0 where
  pub remarks : List Remark
  pub finish : Finish

abbrev pub remark_of : Note → Remark
remark_of (Piece bytes) = piece bytes.items
remark_of (Warning bytes) = warning bytes.items
remark_of (Progress part whole) = progress part whole

abbrev pub finish_of : End → Finish
finish_of (Complete bytes) = complete bytes.items
finish_of Fail = fail

-- how the pool books an end
abbrev pub end_kind_of : Finish → EndKind
end_kind_of (complete bytes) = kind.Complete
end_kind_of fail = kind.Fail

abbrev pub told_of : Outcome → Told
told_of o = record { remarks = map remark_of o.notes.items; finish = finish_of o.end }

abbrev pub remark_packet : List ℕ → Remark → Packet
remark_packet handle (piece bytes) = work_data handle bytes
remark_packet handle (warning bytes) = work_warning handle bytes
remark_packet handle (progress part whole) = work_status handle part whole

abbrev pub finish_packet : List ℕ → Finish → Packet
finish_packet handle (complete bytes) = work_complete handle bytes
finish_packet handle fail = work_fail handle

abbrev pub told_packets : List ℕ → Told → List Packet
told_packets handle told = map (remark_packet handle) told.remarks ++ finish_packet handle told.finish ∷ []

abbrev pub can_send : Packet → Bool
can_send p = nat_le (length (body_of p)) body_limit

-- the packets that answer, for a name that is known or not
unfoldable pub answer_to : List ℕ → Option Told → List Packet
answer_to handle None = work_fail handle ∷ []
answer_to handle (Some told) = if list_all can_send (told_packets handle told) then told_packets handle told else work_fail handle ∷ []

-- a job was run, and all that it told is small enough to be sent
abbrev pub CanBeSent : List ℕ → Option Told → Type 0
CanBeSent handle None = ⊥
CanBeSent handle (Some told) = list_all can_send (told_packets handle told) ≡ true

-- how such an answer ends, as the pool books it
unfoldable pub kind_of_answer : List ℕ → Option Told → EndKind
kind_of_answer handle None = kind.Fail
kind_of_answer handle (Some told) = if list_all can_send (told_packets handle told) then end_kind_of told.finish else kind.Fail

-- a job that was run, with what it told: nothing if there is no job of that name
pub record Telling : Type 0 where
  pub job : AssignedJob
  pub told : Option Told

abbrev pub telling : AssignedJob → Option Told → Telling
telling job told = record { job = job; told = told }

abbrev pub jobs_of : List Telling → List AssignedJob
jobs_of tellings = map (λ t. t.job) tellings

-- the answer to a job
abbrev pub reply : Telling → List Packet
reply t = answer_to t.job.handle t.told

abbrev pub replies : List Telling → List Packet
replies tellings = flat_map reply tellings

-- What runs jobs got ready so often, one time after the other: from one value to another.
abbrev pub ArePrepared : {J : Type 0} → (J → J → Type 0) → J → J → List J → Type 0
ArePrepared prepares first last [] = last ≡ first
ArePrepared prepares first last (next ∷ more) = prepares first next × ArePrepared prepares next last more

-- It got ready, as often as it did, or not at all.
abbrev pub IsPrepared : {J : Type 0} → (J → J → Type 0) → J → J → Type 0
IsPrepared {J} prepares first last = (between : List J) × ArePrepared prepares first last between

-- Jobs were run one after the other, and told this: from one value of what runs them to another. It may have got ready before each, and
-- after the last.
abbrev pub AreTold : {J : Type 0} → (J → J → AssignedJob → Option Told → Type 0) → (J → J → Type 0) → J → J → List Telling → Type 0
AreTold tells prepares first last [] = IsPrepared prepares first last
AreTold {J} tells prepares first last (t ∷ ts) =
    (ready next : J) × IsPrepared prepares first ready × tells ready next t.job t.told × AreTold tells prepares next last ts

-- jobs that tell what a function of their name and input says
abbrev pub IsMeant : (List ℕ → List ℕ → Option Told) → Telling → Type 0
IsMeant meaning t = t.told ≡ meaning t.job.function t.job.payload

abbrev pub meant : (List ℕ → List ℕ → Option Told) → AssignedJob → Telling
meant meaning job = telling job (meaning job.function job.payload)
