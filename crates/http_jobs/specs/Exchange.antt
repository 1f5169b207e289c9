-- A whole exchange: one request, and one response.
use Rattle.std.specs.Prelude.{◌≡◌, ℕ, ◌+◌, ◌-◌, ◌^◌, ◌≤◌, ◌⊎◌, List, [], length, take, Option, Some, Bool, true, false, IsTrue}
use Rattle.httparse.specs.Grammar.{ResponseHead, status_code}
use Rattle.http1.specs.Message.{Response}
use Rattle.http1.specs.declared.conn.Limits.{Limits}
use Rattle.byte_io.specs.Sides.{Input, Output, and_then, counted}
use Rattle.gear_packets.specs.Response.{AssignedJob}
use Rattle.job_runner.specs.Run.{Link}
use Rattle.job_runner.specs.Told.{fail}
use Rattle.http_jobs.specs.declared.answers.Answer.{Answer}
use Rattle.http_jobs.specs.declared.answers.Received.{Received}
use Rattle.http_jobs.specs.declared.answers.Received.TheVariants as received
use Rattle.http_jobs.specs.declared.exchanging.Done.{Done}
use Rattle.http_jobs.specs.declared.exchanging.Sending.{Sending}
use Rattle.http_jobs.specs.declared.fault.NotDone.{NotDone}
use Rattle.http_jobs.specs.declared.fault.NotDone.TheVariants.{Unserved as Not, Memory}
use Rattle.http_jobs.specs.declared.fault.Unanswered.{Unanswered}
use Rattle.http_jobs.specs.declared.fault.Unserved.TheVariants as why
use Rattle.http_jobs.specs.declared.outcome.Failure.TheVariants.{Status, TooLarge}
use Rattle.http_jobs.specs.Clock.{IsLate, shown_then}
use Rattle.http_jobs.specs.Request.{most_body}
use Rattle.http_jobs.specs.Reasons.{Seen, HasCame, HasStatus, HoldsNoRefusal, came_of, why_of}
use Rattle.http_jobs.specs.Response.{Answers, Replied, Reports, OnlyLarger, HoldsNoAnswer, NeverAnswers, failed_with, is_success}
use Rattle.http_jobs.specs.Response.{ends_with_connection, head_limits, is_unserved, keeps_connection, reply_of}

-- the source gave what was seen, and the clock showed it
abbrev pub Sees : Input → Option (List (Option ℕ)) → Seen → Input → Option (List (Option ℕ)) → Type 0
Sees old shown seen new shown_now =
    (new.given ≡ and_then old.given seen.read) × (new.lulls ≡ counted old.lulls seen.lulls) × (shown_now ≡ shown_then shown seen.times)

-- What was read holds this response, whole. The connection is kept only if the head allows it and nothing came after the response.
pub record IsAnswerIn (limits : Limits) (read : List ℕ) (answer : Answer) : Type 0 where
  pub response : Response
  pub rest : List ℕ
  pub answers : Answers limits read response rest
  pub served : is_unserved (status_code response.head) ≡ false
  pub status : answer.status ≡ status_code response.head
  pub body : answer.body.items ≡ response.body.bytes
  pub ends : answer.is_unbounded ≡ ends_with_connection response.head
  pub kept : answer.is_kept ≡ true → IsTrue (keeps_connection response.head) × (rest ≡ [])

-- what was read holds a response, whole, or each that begins so has a larger body
abbrev pub IsReceived : Limits → ℕ → List ℕ → Received → Type 0
IsReceived limits max read (received.Whole answer) = IsAnswerIn limits read answer
IsReceived limits max read received.TooLarge = OnlyLarger limits max read

-- What was read answers the job, and comes to this. Either it is what the response comes to: then the connection is kept only if the head
-- allows it and nothing came after the response. Or the body was too large, and the job failed.
abbrev pub IsAnswered : Limits → ℕ → List ℕ → Replied → Bool → Type 0
IsAnswered limits max read reply is_kept =
    ((head : ResponseHead) × (rest : List ℕ) × Reports limits read reply head rest
    × (is_kept ≡ true → IsTrue (keeps_connection head) × (rest ≡ [])))
    ⊎ (OnlyLarger limits max read × (reply.told ≡ failed_with []) × (reply.failure ≡ Some TooLarge) × (is_kept ≡ false))

abbrev pub IsDone : Limits → ℕ → List ℕ → Done → Type 0
IsDone limits max read done = IsAnswered limits max read (reply_of done.reply) done.is_kept

-- ---- how much of the request went out

-- What was sent of a request that was answered, by the sink before and after: all of it, and no write failed. Or one failed after a prefix
-- of it. Then what came back is a refusal.
abbrev pub IsSent : List ℕ → List ℕ → Output → Output → Type 0 → Type 0
IsSent request sent old new is_refusal =
    ((sent ≡ request) × (new.failures ≡ old.failures))
    ⊎ (((count : ℕ) × (sent ≡ take count request)) × (new.failures ≡ old.failures + 1) × is_refusal)

-- a request that was answered went to this sink, all of it, or a prefix, after which a write failed and it was refused
abbrev pub Sends : List ℕ → Output → Output → Type 0 → Type 0
Sends request old new is_refusal = (sent : List ℕ) × (new.got ≡ and_then old.got sent) × IsSent request sent old new is_refusal

-- A whole response refuses a request that did not go out whole, if its status is none of success. Success says that a request was received
-- and accepted (RFC 9110, section 15.3), and one that lacks a part of its body was not received (RFC 9112, section 8). The connection is
-- not kept, since the rest of the request is missing on it.
abbrev pub Refuses : Received → Type 0
Refuses (received.Whole answer) = (is_success answer.status ≡ false) × (answer.is_kept ≡ false)
Refuses received.TooLarge = ⊥

-- The reply is a refusal: the job failed, for the status of the response, and the connection is not kept.
abbrev pub IsRefusal : Replied → Bool → Type 0
IsRefusal reply is_kept = (reply.told.finish ≡ fail) × ((status : ℕ) × (reply.failure ≡ Some (Status status))) × (is_kept ≡ false)

-- ---- why it was not done

-- Why an exchange was not done, by what was seen and by what the link shows of its sides before and after. A body may have so many bytes.
-- If a write failed, no refusal was read after it.
abbrev pub Explains : ℕ → Option ℕ → Seen → Link → Link → NotDone → Type 0
Explains max deadline seen old new (Not (why.Unreachable reason)) = ⊥
Explains max deadline seen old new (Not why.Write) =
    (new.output.failures ≡ old.output.failures + 1) × HoldsNoRefusal head_limits max deadline seen old.input new.input
Explains max deadline seen old new (Not why.Read) = new.input.failures ≡ old.input.failures + 1
Explains max deadline seen old new (Not why.Ended) = (new.input.has_ended ≡ true) × HoldsNoAnswer head_limits seen.read
Explains max deadline seen old new (Not why.Late) = IsLate deadline seen.times
Explains max deadline seen old new (Not (why.NoResponse e)) = NeverAnswers head_limits seen.read
Explains max deadline seen old new (Not (why.Status status)) = HasStatus head_limits seen.read status
Explains max deadline seen old new (Not why.Endless) = 2 ^ 64 - 1 ≤ length seen.read + seen.lulls
Explains max deadline seen old new Memory = Unit {0}

-- The same of a request without a response, and whether anything came.
abbrev pub ExplainsUnanswered : ℕ → Option ℕ → Seen → Link → Link → Unanswered → Type 0
ExplainsUnanswered max deadline seen old new e = Explains max deadline seen old new (why_of e) × HasCame (came_of seen.read) e

-- The same of the request of a job, which is sent so.
abbrev pub ExplainsJob : AssignedJob → Sending → Seen → Link → Link → Unanswered → Type 0
ExplainsJob j sending seen old new e = ExplainsUnanswered (most_body j) sending.deadline seen old new e
