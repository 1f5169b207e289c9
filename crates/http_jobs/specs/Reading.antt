-- A response as far as it was read.
use Rattle.std.specs.Prelude.{◌≡◌, ℕ, ◌+◌, ◌≤◌, Bool, true, false, List, [], ◌++◌, length, drop, Option, Some, Result, Ok, Err, IsTrue}
use Rattle.httparse.specs.Grammar.{ResponseHead, status_code}
use Rattle.http1.specs.declared.conn.Limits.{Limits}
use Rattle.http1.specs.declared.conn.Reading.{Reading}
use Rattle.http1.specs.declared.conn.Reading.TheVariants as Reads
use Rattle.http1.specs.declared.decode.Decoder.{Decoder}
use Rattle.http1.specs.declared.decode.Decoder.TheVariants as Decoding
use Rattle.http1.specs.declared.client.Client.{Client}
use Rattle.http1.specs.declared.framing.MethodKind.TheVariants.{Other}
use Rattle.http1.specs.Message.{Response}
use Rattle.http1.specs.Body.{Body}
use Rattle.http1.specs.Decoder.{Completes, with_front}
use Rattle.http1.specs.Conn.{awaits_head}
use Rattle.http1.specs.Client.{IsIdle}
use Rattle.http_jobs.specs.declared.reader.ResponseReader.{ResponseReader}
use Rattle.http_jobs.specs.declared.reader.Step.{Step}
use Rattle.http_jobs.specs.declared.reader.Step.TheVariants as step
use Rattle.http_jobs.specs.declared.reader.Stage.{Stage}
use Rattle.http_jobs.specs.declared.reader.Stage.TheVariants as stage
use Rattle.http_jobs.specs.declared.reader.Fill.{Fill}
use Rattle.http_jobs.specs.declared.reader.Fill.TheVariants as fill
use Rattle.http_jobs.specs.declared.fault.NotDone.{NotDone}
use Rattle.http_jobs.specs.declared.fault.NotDone.TheVariants.{Unserved as Not, Memory}
use Rattle.http_jobs.specs.declared.fault.Unserved.TheVariants as why
use Rattle.byte_io.specs.Sides.{Input}
use Rattle.http_jobs.specs.Reasons.{HasStatus, came_of}
use Rattle.http_jobs.specs.Response.{Answers, ReadsInterims, HoldsNoAnswer, NeverAnswers, OnlyLarger, most_fields, is_unserved}
use Rattle.http_jobs.specs.Response.{ends_with_connection, keeps_connection}

-- a client that has asked by a method that is neither HEAD nor CONNECT, and for no other protocol
pub record HasAsked (limits : Limits) (c : Client) : Type 0 where
  pub limited : c.limits ≡ limits
  pub method : c.method ≡ Other
  pub plain : c.wants_upgrade ≡ false
  pub asked : awaits_head c.writing ≡ false

-- A head is due, and before it only responses of status 1xx came. What answers in what was read answers in what is left.
pub record AwaitsHead (limits : Limits) (read : List ℕ) (c : Client) (left : List ℕ) (status : Option ℕ) (body : List ℕ) : Type 0 where
  pub asked : HasAsked limits c
  pub interims : List Response
  pub before : (more : List ℕ) → ReadsInterims limits (read ++ more) interims (left ++ more)
  pub only : (more : List ℕ) (m : Response) (rest : List ℕ) → Answers limits (read ++ more) m rest → Answers limits (left ++ more) m rest
  pub bare : body ≡ []

-- only the end of the connection is to bound the body
abbrev pub is_unbounded : Decoder → Bool
is_unbounded (Decoding.Length left) = false
is_unbounded (Decoding.Chunked chunks max) = false
is_unbounded Decoding.UntilClose = true

-- A head came. What completes the body completes the response, and nothing else does.
pub record InBody
    (limits : Limits) (read : List ℕ) (d : Decoder) (c : Client) (left : List ℕ) (status : Option ℕ) (body : List ℕ) : Type 0 where
  pub head : ResponseHead
  pub is : status ≡ Some (status_code head)
  pub served : is_unserved (status_code head) ≡ false
  pub ends : is_unbounded d ≡ ends_with_connection head
  pub keeps : c.keep_alive ≡ true → IsTrue (keeps_connection head)
  pub completes : (more : List ℕ) (later : Body) (rest : List ℕ) → length later.trailers ≤ most_fields
      → Completes d (left ++ more) later rest → Answers limits (read ++ more) (record { head = head; body = with_front body later }) rest
  pub only : (more : List ℕ) (m : Response) (rest : List ℕ) → Answers limits (read ++ more) m rest
      → (later : Body) × (m.body ≡ with_front body later) × Completes d (left ++ more) later rest

abbrev pub PartwayAt : Reading → Limits → List ℕ → Client → List ℕ → Option ℕ → List ℕ → Type 0
PartwayAt Reads.Head limits read c left status body = AwaitsHead limits read c left status body
PartwayAt (Reads.Body d) limits read c left status body = InBody limits read d c left status body
PartwayAt Reads.Done limits read c left status body = ⊥
PartwayAt Reads.Upgraded limits read c left status body = ⊥
PartwayAt Reads.Closed limits read c left status body = ⊥
PartwayAt (Reads.Failed e) limits read c left status body = ⊥

-- what was read, of which so much is left, has come to this
abbrev pub Partway : Limits → List ℕ → Client → List ℕ → Option ℕ → List ℕ → Type 0
Partway limits read c = PartwayAt c.reading limits read c

-- The response is whole.
pub record IsWhole
    (limits : Limits) (read : List ℕ) (c : Client) (left : List ℕ) (status : Option ℕ) (body : List ℕ) (unbounded : Bool) : Type 0 where
  pub response : Response
  pub is : status ≡ Some (status_code response.head)
  pub served : is_unserved (status_code response.head) ≡ false
  pub ends : ends_with_connection response.head ≡ unbounded
  pub keeps : unbounded ≡ false → IsIdle c → IsTrue (keeps_connection response.head)
  pub bytes : response.body.bytes ≡ body
  pub answers : Answers limits read response left

-- Nothing whole was read. Of a body that only the end of the connection is to bound, each byte was taken.
abbrev pub WantsIn : Decoder → Limits → List ℕ → List ℕ → Type 0
WantsIn (Decoding.Length n) limits read left = HoldsNoAnswer limits read
WantsIn (Decoding.Chunked chunks max) limits read left = HoldsNoAnswer limits read
WantsIn Decoding.UntilClose limits read left = left ≡ []

abbrev pub WantsAt : Reading → Limits → List ℕ → List ℕ → Type 0
WantsAt Reads.Head limits read left = HoldsNoAnswer limits read
WantsAt (Reads.Body d) limits read left = WantsIn d limits read left
WantsAt Reads.Done limits read left = ⊥
WantsAt Reads.Upgraded limits read left = ⊥
WantsAt Reads.Closed limits read left = ⊥
WantsAt (Reads.Failed e) limits read left = ⊥

-- the bytes that the client has not consumed
abbrev pub left_of : ResponseReader → List ℕ
left_of r = drop r.at r.unread.items

abbrev pub IsPartway : Limits → List ℕ → ResponseReader → Type 0
IsPartway limits read r = Partway limits read r.client (left_of r) r.status r.body.items

abbrev pub Wants : Limits → List ℕ → ResponseReader → Type 0
Wants limits read r = WantsAt r.client.reading limits read (left_of r)

abbrev pub IsComplete : Limits → List ℕ → ResponseReader → Bool → Type 0
IsComplete limits read r unbounded = IsWhole limits read r.client (left_of r) r.status r.body.items unbounded

-- why a step failed, by what was read
abbrev pub StepFails : Limits → List ℕ → NotDone → Type 0
StepFails limits read (Not (why.NoResponse e)) = NeverAnswers limits read
StepFails limits read (Not (why.Status status)) = HasStatus limits read status
StepFails limits read (Not other) = ⊥
StepFails limits read Memory = Unit {0}

-- what a step leaves
abbrev pub Stepped : Limits → ℕ → List ℕ → ResponseReader → Result Step NotDone → Type 0
Stepped limits max read r (Ok step.NeedsMore) = IsPartway limits read r × Wants limits read r
Stepped limits max read r (Ok step.Continues) = IsPartway limits read r
Stepped limits max read r (Ok step.Whole) = IsComplete limits read r false
Stepped limits max read r (Ok step.TooLarge) = OnlyLarger limits max read
Stepped limits max read r (Err e) = StepFails limits read e

-- what the steps leave that can be made without a read
abbrev pub Advanced : Limits → ℕ → List ℕ → ResponseReader → Result Stage NotDone → Type 0
Advanced limits max read r (Ok stage.NeedsMore) = IsPartway limits read r × Wants limits read r
Advanced limits max read r (Ok stage.Whole) = IsComplete limits read r false
Advanced limits max read r (Ok stage.TooLarge) = OnlyLarger limits max read
Advanced limits max read r (Err e) = StepFails limits read e

-- why a read failed, by what was read so far and by the source after it
abbrev pub FillFails : Limits → List ℕ → Input → Input → NotDone → Type 0
FillFails limits read old new (Not why.Read) = new.failures ≡ old.failures + 1
FillFails limits read old new (Not why.Ended) = (new.has_ended ≡ true) × HoldsNoAnswer limits read
FillFails limits read old new (Not other) = ⊥
FillFails limits read old new Memory = Unit {0}

-- what a read leaves
abbrev pub Filled : Limits → List ℕ → ResponseReader → Input → Input → Result Fill NotDone → Type 0
Filled limits read r old new (Ok fill.More) = IsPartway limits read r
Filled limits read r old new (Ok fill.Ended) = IsComplete limits read r true
Filled limits read r old new (Err e) = FillFails limits read old new e

-- so it is of each response of which so much was read before this
abbrev pub FillsOn : ResponseReader → ResponseReader → List ℕ → Input → Input → Result Fill NotDone → Type 0
FillsOn old new more before after result =
    (limits : Limits) (read : List ℕ) → IsPartway limits read old → Wants limits read old
    → Filled limits (read ++ more) new before after result

-- it notes whether anything came, with these bytes
abbrev pub NotesMore : ResponseReader → ResponseReader → List ℕ → Type 0
NotesMore old new more = (read : List ℕ) → old.came ≡ came_of read → new.came ≡ came_of (read ++ more)

-- the end of the connection ended the response, or nothing whole was read
abbrev pub Closed : Limits → List ℕ → ResponseReader → Bool → Type 0
Closed limits read r true = IsComplete limits read r true
Closed limits read r false = HoldsNoAnswer limits read
