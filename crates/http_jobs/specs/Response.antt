-- The response to a request, and what it reports of a job (RFC 9110, section 15; RFC 9112, sections 4 to 9).
use Rattle.std.specs.Prelude.{◌≡◌, ℕ, ◌<◌, ◌≤◌, Bool, false, ◌&&◌, ◌||◌, ◌==◌, nat_le, nat_lt, if◌then◌else◌, List, [], ◌∷◌, ◌++◌, length}
use Rattle.std.specs.Prelude.{codes, Option, Some, None, option_map, Result, Ok, Err, IsTrue}
use Rattle.std.specs.Fmt.{decimal}
use Rattle.httparse.specs.Grammar.{ResponseHead, status_code}
use Rattle.http1.specs.declared.conn.Limits.{Limits}
use Rattle.http1.specs.declared.framing.Framing.{Framing}
use Rattle.http1.specs.declared.framing.FramingError.{FramingError}
use Rattle.http1.specs.declared.framing.MethodKind.TheVariants.{Other}
use Rattle.http1.specs.Framing.{response_framing}
use Rattle.http1.specs.Conn.{is_until_close, keeps_alive}
use Rattle.http1.specs.Message.{Response, ReadsResponseMessage, AcceptsResponse, known_of}
use Rattle.http1.specs.Client.{is_interim}
use Rattle.job_runner.specs.Told.{Told, Remark, told_of, warning, complete, fail}
use Rattle.http_jobs.specs.declared.fault.Unserved.{Unserved}
use Rattle.http_jobs.specs.declared.outcome.Failure.{Failure}
use Rattle.http_jobs.specs.declared.outcome.Failure.TheVariants.{LeftTooOften, Status, Unbounded}
use Rattle.http_jobs.specs.declared.outcome.Reply.{Reply}

-- ---- the grammar

-- no more fields, and no more trailers, than are taken
abbrev pub most_fields : ℕ
most_fields = 64

abbrev pub HasFewFields : Response → Type 0
HasFewFields m = (length m.head.fields ≤ most_fields) × (length m.body.trailers ≤ most_fields)

-- the stream begins with this response to a POST, and the rest follows it
abbrev pub ReadsOne : Limits → List ℕ → Response → List ℕ → Type 0
ReadsOne limits stream m rest = ReadsResponseMessage limits Other stream m rest × HasFewFields m

-- the stream begins with these responses of status 1xx
abbrev pub ReadsInterims : Limits → List ℕ → List Response → List ℕ → Type 0
ReadsInterims limits stream [] rest = stream ≡ rest
ReadsInterims limits stream (m ∷ ms) rest =
    (after : List ℕ) × IsTrue (is_interim (status_code m.head)) × ReadsOne limits stream m after × ReadsInterims limits after ms rest

-- The stream begins with responses of status 1xx, then a final one, and the rest follows it.
pub record Answers (limits : Limits) (stream : List ℕ) (m : Response) (rest : List ℕ) : Type 0 where
  pub interims : List Response
  pub after : List ℕ
  pub before : ReadsInterims limits stream interims after
  pub reads : ReadsOne limits after m rest
  pub final : 200 ≤ status_code m.head

-- The stream begins with responses of status 1xx, and then the head of a final one.
pub record Begins (limits : Limits) (stream : List ℕ) (head : ResponseHead) : Type 0 where
  pub interims : List Response
  pub after : List ℕ
  pub framing : Framing
  pub rest : List ℕ
  pub before : ReadsInterims limits stream interims after
  pub accepts : AcceptsResponse limits Other after head framing rest
  pub final : 200 ≤ status_code head

-- no response answers in what was read
abbrev pub HoldsNoAnswer : Limits → List ℕ → Type 0
HoldsNoAnswer limits read = (m : Response) (rest : List ℕ) → ¬ (Answers limits read m rest)

-- whatever follows, no response answers
abbrev pub NeverAnswers : Limits → List ℕ → Type 0
NeverAnswers limits read = (more : List ℕ) → HoldsNoAnswer limits (read ++ more)

-- whatever follows, a response that answers has a larger body
abbrev pub OnlyLarger : Limits → ℕ → List ℕ → Type 0
OnlyLarger limits max read =
    (more : List ℕ) (m : Response) (rest : List ℕ) → Answers limits (read ++ more) m rest → max < length m.body.bytes

-- ---- what a head says

abbrev pub runs_to_close : Result Framing FramingError → Bool
runs_to_close (Ok framing) = is_until_close framing
runs_to_close (Err e) = false

-- only the end of the connection bounds the body of a response with this head
abbrev pub ends_with_connection : ResponseHead → Bool
ends_with_connection h = runs_to_close (response_framing Other (status_code h) h.minor (known_of h.fields))

-- the connection may carry another exchange after a response with this head
abbrev pub keeps_connection : ResponseHead → Bool
keeps_connection h = keeps_alive h.minor (known_of h.fields)

-- ---- the table

-- The service, or a proxy before it, is down or busy: such a response answers no job.
abbrev pub is_unserved : ℕ → Bool
is_unserved status = (status == 408) || ((status == 429) || ((status == 502) || ((status == 503) || (status == 504))))

-- a status of 200 to 299
abbrev pub is_success : ℕ → Bool
is_success status = nat_le 200 status && nat_lt status 300

-- a job that failed, with these remarks
abbrev pub failed_with : List Remark → Told
failed_with remarks = record { remarks = remarks; finish = fail }

abbrev pub body_as_warning : List ℕ → List Remark
body_as_warning [] = []
body_as_warning (b ∷ body) = warning (b ∷ body) ∷ []

abbrev pub unbounded_warning : List Remark
unbounded_warning = warning (codes "only the end of the connection bounds the body, which may be cut") ∷ []

-- What a response reports, by its status, whether only the end of the connection bounds its body, and the body. Success has the body as
-- its result, if that cannot be cut without a sign. Any other response fails the job, with the body as a warning.
abbrev pub told_by : ℕ → Bool → List ℕ → Told
told_by status is_unbounded body =
    if is_success status then (if is_unbounded then failed_with unbounded_warning else record { remarks = []; finish = complete body })
    else failed_with (body_as_warning body)

-- Why a response fails its job, if it does: its status is none of success, or only the end of the connection bounds its body.
abbrev pub failure_by : ℕ → Bool → Option Failure
failure_by status is_unbounded = if is_success status then (if is_unbounded then Some Unbounded else None) else Some (Status status)

-- What a response comes to: what its job reports, and why that failed, if it did.
pub record Replied : Type 0 where
  pub told : Told
  pub failure : Option Failure

abbrev pub reply_of : Reply → Replied
reply_of r = record { told = told_of r.outcome; failure = r.failure }

-- what the job reports, or none if the service has no job of its function
abbrev pub told_in : Option Replied → Option Told
told_in reply = option_map (λ r. r.told) reply

-- the warning of a job that services left unserved too often: so many times in all, and the last time for a reason in these words
abbrev pub left_words : ℕ → List ℕ → List ℕ
left_words times reason = codes "left unserved too often (" ++ decimal times ++ codes "): " ++ reason

-- what such a job reports
abbrev pub left_too_often : ℕ → List ℕ → Told
left_too_often times reason = failed_with (warning (left_words times reason) ∷ [])

-- The job failed since services left it unserved too often: so many times in all, and the last time for this reason. Its warning says so.
pub record IsLeftTooOften (times : ℕ) (last : Unserved) (reply : Replied) : Type 0 where
  pub reason : List ℕ
  pub told : reply.told ≡ left_too_often times reason
  pub failure : reply.failure ≡ Some (LeftTooOften times last)

-- What was read holds a whole response, and this is what it comes to.
pub record Reports (limits : Limits) (read : List ℕ) (reply : Replied) (head : ResponseHead) (rest : List ℕ) : Type 0 where
  pub response : Response
  pub is_head : response.head ≡ head
  pub answers : Answers limits read response rest
  pub served : is_unserved (status_code head) ≡ false
  pub says : reply.told ≡ told_by (status_code head) (ends_with_connection head) response.body.bytes
  pub why : reply.failure ≡ failure_by (status_code head) (ends_with_connection head)

-- 16 KiB for a head, for the chunk extensions of a body, and for its trailers
abbrev pub head_limits : Limits
head_limits = record { max_head_len = 16384; max_extensions_len = 16384; max_trailers_len = 16384 }
