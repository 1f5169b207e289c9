-- The jobs of a service, and the connections over which they are done.
use Rattle.std.specs.Prelude.{◌≡◌, ◌≢◌, ℕ, ◌+◌, ◌⊎◌, Bool, true, false, List, [], ◌∷◌, ◌++◌, take, Option, Some, None}
use Rattle.std.specs.Prelude.{if◌then◌else◌, option_map, IsTrue, Result, Ok, Err}
use Rattle.std.specs.Option.{option_and_then}
use Rattle.gear_packets.specs.Response.{AssignedJob}
use Rattle.byte_io.specs.Deadline.{deadline_from, is_past}
use Rattle.byte_io.specs.Sides.{Input, Output, and_then}
use Rattle.devices.specs.declared.dial_error.DialError.{DialError}
use Rattle.job_runner.specs.Run.{Link, seen_link}
use Rattle.job_runner.specs.Told.{Told}
use Rattle.http_jobs.specs.declared.service.Service.{Service}
use Rattle.http_jobs.specs.declared.exchanging.Sending.{Sending}
use Rattle.http_jobs.specs.declared.request.Attempt.TheVariants as attempt
use Rattle.http_jobs.specs.declared.service_jobs.JobTerms.{JobTerms}
use Rattle.http_jobs.specs.declared.service_jobs.Resend.{Resend}
use Rattle.http_jobs.specs.declared.service_jobs.Resend.TheVariants as resend
use Rattle.http_jobs.specs.declared.fault.Came.TheVariants as came
use Rattle.http_jobs.specs.declared.fault.NotDone.{NotDone}
use Rattle.http_jobs.specs.declared.fault.Unanswered.{Unanswered}
use Rattle.http_jobs.specs.declared.fault.Unanswered.TheVariants as unanswered
use Rattle.http_jobs.specs.declared.fault.Unserved.{Unserved}
use Rattle.job_runner.specs.declared.jobs.NotDone as session
use Rattle.job_runner.specs.declared.jobs.NotDone.TheVariants as heard
use Rattle.http_jobs.specs.declared.fault.NotDone.TheVariants.{Unserved as Not, Memory}
use Rattle.http_jobs.specs.declared.fault.Unserved.TheVariants as why
use Rattle.http_jobs.specs.Clock.{InTime, shown_then}
use Rattle.http_jobs.specs.Reasons.{Seen, why_of}
use Rattle.http_jobs.specs.Request.{has_no_path, most_body, request_of}
use Rattle.http_jobs.specs.Response.{Replied, head_limits, told_in}
use Rattle.http_jobs.specs.Exchange.{ExplainsUnanswered, IsAnswered, IsRefusal, IsSent}

-- ---- connections

-- One call: a dial that failed, and why, a dial that opened a connection, or word that a connection was closed, with what it showed of its
-- two sides then.
pub data DialCall : Type 0 where
  failed : DialError → DialCall
  opened : DialCall
  closed : Link → DialCall

-- the only call was a dial that failed
abbrev pub IsFailedDial : List DialCall → Type 0
IsFailedDial calls = (why : DialError) × (calls ≡ failed why ∷ [])

-- the calls so far, if they are shown, and these more
abbrev pub then_called : Option (List DialCall) → List DialCall → Option (List DialCall)
then_called before more = option_map (λ calls. calls ++ more) before

abbrev pub dialled : {A : Type 0} → Result A DialError → DialCall
dialled (Err why) = failed why
dialled (Ok link) = opened

-- the list is empty, if it is known
abbrev pub IsNothing : {A : Type 0} → Option (List A) → Type 0
IsNothing shown = shown ≡ option_map (λ _. []) shown

-- the connection has given and taken nothing yet, and has not failed
abbrev pub IsNew : Link → Type 0
IsNew link =
    (link.input.failures ≡ 0) × (link.output.failures ≡ 0) × IsNothing link.input.given × IsNothing link.output.got

-- a connection is kept, and is new
abbrev pub HasNew : Option Link → Type 0
HasNew None = ⊥
HasNew (Some link) = IsNew link

-- a connection was opened, and closed as it was, or a dial failed for this reason
abbrev pub Tries : Result (Unit {0}) DialError → Option (List DialCall) → Option (List DialCall) → Type 0
Tries (Ok _) old new = (link : Link) × IsNew link × (new ≡ then_called (then_called old (opened ∷ [])) (closed link ∷ []))
Tries (Err why) old new = new ≡ then_called old (failed why ∷ [])

-- how often the kept connection has failed
abbrev pub kept_failures : {L : Type 0} → (L → Input) → (L → Output) → Option L → ℕ
kept_failures input output None = 0
kept_failures input output (Some link) = (input link).failures + (output link).failures

-- ---- a value of jobs

-- What it shows: the connection that it has kept, and whether that is quiet; the calls of what dials; the times of its clock.
pub record Visible : Type 0 where
  pub kept : Option Link
  pub quiet : Option Bool
  pub calls : Option (List DialCall)
  pub shown : Option (List (Option ℕ))

abbrev pub visible : {L : Type 0} → (L → Input) → (L → Output) → (L → Option Bool)
    → Option L → Option (List DialCall) → Option (List (Option ℕ)) → Visible
visible input output quiet kept calls shown = record {
  kept = option_map (seen_link input output) kept;
  quiet = option_and_then quiet kept;
  calls = calls;
  shown = shown;
}

-- A connection was kept, and nothing was done. Or one was dialled for: a new one is kept, and the clock was looked at, or none is kept, for
-- the reason of that dial.
abbrev pub IsOpened : Visible → Visible → Result (Unit {0}) DialError → Type 0
IsOpened old new (Ok _) =
    ((new ≡ old) × (old.kept ≢ None)) ⊎ ((link : Link) × IsNew link × (old.kept ≡ None) × (new.kept ≡ Some link)
    × (new.calls ≡ then_called old.calls (opened ∷ [])) × ((time : Option ℕ) × (new.shown ≡ shown_then old.shown (time ∷ []))))
IsOpened old new (Err why) =
    (old.kept ≡ None) × (new.kept ≡ None) × (new.calls ≡ then_called old.calls (failed why ∷ [])) × (new.shown ≡ old.shown)

-- closing the kept connection, if there is one
abbrev pub closings : Option Link → List DialCall
closings None = []
closings (Some link) = closed link ∷ []

-- after a job its connection is kept, or closed
abbrev pub Leaves : Option Link → List DialCall → Bool → Link → Type 0
Leaves kept calls true after = (kept ≡ Some after) × (calls ≡ [])
Leaves kept calls false after = (kept ≡ None) × (calls ≡ closed after ∷ [])

-- ---- a job over one connection

-- the job is sent for the first time, or once more, and has to be answered by this time
abbrev pub first_by : Option ℕ → Sending
first_by deadline = record { attempt = attempt.First; deadline = deadline }

abbrev pub second_by : Option ℕ → Sending
second_by deadline = record { attempt = attempt.Second; deadline = deadline }

-- the clock was looked at, and showed this time
abbrev pub Looks : Visible → Option ℕ → Visible → Type 0
Looks old time new =
    (new.kept ≡ old.kept) × (new.quiet ≡ old.quiet) × (new.calls ≡ old.calls) × (new.shown ≡ shown_then old.shown (time ∷ []))

-- the kept connection is taken for a job: it has not shown that it ended or holds a byte
abbrev pub TakesKept : Visible → Link → Visible → Type 0
TakesKept old link new =
    (old.kept ≡ Some link) × (old.quiet ≢ Some false) × (new.kept ≡ None) × (new.calls ≡ old.calls) × (new.shown ≡ old.shown)

-- none is taken: the kept one, if there is one, was closed as it was, also if it was quiet: it may have carried nothing for too long
abbrev pub DropsKept : Visible → Visible → Type 0
DropsKept old new = (new.kept ≡ None) × (new.calls ≡ then_called old.calls (closings old.kept)) × (new.shown ≡ old.shown)

-- the kept connection stays; or it is closed as it was, and was not known to be quiet
abbrev pub DropsLost : Visible → Visible → Type 0
DropsLost old new = (new ≡ old) ⊎ ((old.quiet ≢ Some true) × DropsKept old new)

-- A connection is made ready for a job: one that is lost is closed, and then one is opened if none is kept, or could not be.
abbrev pub MakesReady : Visible → Visible → Result (Unit {0}) DialError → Type 0
MakesReady old new result = (begun : Visible) × DropsLost old begun × IsOpened begun new result

-- This was done, whatever came of it, or nothing was.
abbrev pub MayMakeReady : Visible → Visible → Type 0
MayMakeReady old new = (new ≡ old) ⊎ ((result : Result (Unit {0}) DialError) × MakesReady old new result)

-- a new connection was opened
abbrev pub OpensNew : Visible → Link → Visible → Type 0
OpensNew old link new =
    IsNew link × (new.kept ≡ None) × (new.calls ≡ then_called old.calls (opened ∷ [])) × (new.shown ≡ old.shown)

-- What went out and came back over a connection, how it was left, and what the clock showed meanwhile.
pub record Carries (old new : Visible) (sent : List ℕ) (is_kept : Bool) (seen : Seen) (before after : Link) : Type 0 where
  pub last : List DialCall
  pub given : after.input.given ≡ and_then before.input.given seen.read
  pub got : after.output.got ≡ and_then before.output.got sent
  pub leaves : Leaves new.kept last is_kept after
  pub calls : new.calls ≡ then_called old.calls last
  pub shown : new.shown ≡ shown_then old.shown seen.times

-- The job was answered over this connection: its request went out, once, and what came back after it comes to this. Or a prefix of it went
-- out, once, since a write failed, and what came back refuses it.
pub record AnsweredOver
    (s : Service) (sending : Sending) (old new : Visible) (j : AssignedJob) (before : Link) (reply : Replied) : Type 0 where
  pub is_kept : Bool
  pub sent : List ℕ
  pub seen : Seen
  pub after : Link
  pub carries : Carries old new sent is_kept seen before after
  pub is_sent : IsSent (request_of s j sending.attempt) sent before.output after.output (IsRefusal reply is_kept)
  pub in_time : InTime sending.deadline seen.times
  pub answered : IsAnswered head_limits (most_body j) seen.read reply is_kept

-- It was not: a prefix of its request went out over this connection, once, and this is why no answer came, and whether anything did.
pub record UnansweredOver
    (s : Service) (sending : Sending) (old new : Visible) (j : AssignedJob) (before : Link) (e : Unanswered) : Type 0 where
  pub count : ℕ
  pub seen : Seen
  pub after : Link
  pub carries : Carries old new (take count (request_of s j sending.attempt)) false seen before after
  pub explained : ExplainsUnanswered (most_body j) sending.deadline seen before after e

-- ---- a job over a new connection

abbrev pub AnsweredNew : Service → Sending → Visible → Visible → AssignedJob → Replied → Type 0
AnsweredNew s sending old new j reply =
    (link : Link) × (begun : Visible) × OpensNew old link begun × AnsweredOver s sending begun new j link reply

-- it was not done: none was opened, for the reason of the one dial that was made, or no answer came over it
abbrev pub UnansweredNew : Service → Sending → Visible → Visible → AssignedJob → NotDone → Type 0
UnansweredNew s sending old new j (Not (why.Unreachable reason)) =
    (new.kept ≡ None) × (new.calls ≡ then_called old.calls (failed reason ∷ [])) × (new.shown ≡ old.shown)
UnansweredNew s sending old new j other =
    (link : Link) × (begun : Visible) × (e : Unanswered) × OpensNew old link begun × UnansweredOver s sending begun new j link e
    × (other ≡ why_of e)

-- there was no connection
abbrev pub is_unreachable : NotDone → Bool
is_unreachable (Not (why.Unreachable reason)) = true
is_unreachable other = false

-- ---- a job over the kept connection

-- the connection ended, or a read or a write of it failed
abbrev pub is_cut : Unserved → Bool
is_cut why.Ended = true
is_cut why.Read = true
is_cut why.Write = true
is_cut other = false

-- The job is sent once more, by its terms, if the connection was cut before a byte of a response came.
abbrev pub is_sent_again : Resend → Unanswered → Bool
is_sent_again resend.Once (unanswered.Unserved reason came.Nothing) = is_cut reason
is_sent_again terms other = false

-- Over the kept connection a prefix of the request went out, and no answer came for this reason. If it may be sent once more, the clock was
-- looked at, whose time decides.
abbrev pub CutOff : Service → Resend → Option ℕ → Visible → Visible → AssignedJob → Unanswered → Option ℕ → Type 0
CutOff s resend deadline old new j e time =
    (link : Link) × (begun : Visible) × (left : Visible) × TakesKept old link begun
    × UnansweredOver s (first_by deadline) begun left j link e
    × (is_sent_again resend e ≡ true) × Looks left time new

-- A job that was cut off for this reason is not answered over a new connection either, and this is why. Or none was opened, and the reason
-- stays.
abbrev pub UnansweredAgain : Service → Option ℕ → Unanswered → Visible → Visible → AssignedJob → NotDone → Type 0
UnansweredAgain s deadline first old new j e =
    (why : NotDone) × UnansweredNew s (second_by deadline) old new j why × (e ≡ if is_unreachable why then why_of first else why)

-- ---- a job

-- The job is answered over the kept connection. Or over a new one, after the kept one was closed as it was. Or over a new one after it was
-- cut off over the kept one, in time, and then its request says so.
pub data Served (s : Service) (resend : Resend) (deadline : Option ℕ) (old new : Visible) (j : AssignedJob) (reply : Replied) : Type 0 where
  over_kept : (link : Link) (begun : Visible) → TakesKept old link begun
      → AnsweredOver s (first_by deadline) begun new j link reply
      → Served s resend deadline old new j reply
  over_new : (begun : Visible) → DropsKept old begun
      → AnsweredNew s (first_by deadline) begun new j reply → Served s resend deadline old new j reply
  sent_again : (e : Unanswered) (time : Option ℕ) (begun : Visible) → CutOff s resend deadline old begun j e time
      → is_past deadline time ≡ false
      → AnsweredNew s (second_by deadline) begun new j reply
      → Served s resend deadline old new j reply

-- The job is not answered, in each of these ways, and this is why the last time that it was sent. It is not sent once more for any other
-- reason than that it was cut off over the kept connection; nor then, if the deadline has come, or if no new connection is opened.
pub data NotAnswered
    (s : Service) (resend : Resend) (deadline : Option ℕ) (old new : Visible) (j : AssignedJob) (e : NotDone) : Type 0 where
  failed_over_kept : (link : Link) (begun : Visible) (unanswered : Unanswered) → TakesKept old link begun
      → UnansweredOver s (first_by deadline) begun new j link unanswered
      → is_sent_again resend unanswered ≡ false → e ≡ why_of unanswered → NotAnswered s resend deadline old new j e
  too_late : (unanswered : Unanswered) (time : Option ℕ) → CutOff s resend deadline old new j unanswered time
      → is_past deadline time ≡ true → e ≡ why_of unanswered → NotAnswered s resend deadline old new j e
  failed_over_new : (begun : Visible) → DropsKept old begun
      → UnansweredNew s (first_by deadline) begun new j e → NotAnswered s resend deadline old new j e
  failed_again : (unanswered : Unanswered) (time : Option ℕ) (begun : Visible) → CutOff s resend deadline old begun j unanswered time
      → is_past deadline time ≡ false
      → UnansweredAgain s deadline unanswered begun new j e → NotAnswered s resend deadline old new j e

-- A job begins with a look at the clock, from whose time on it has so long.
abbrev pub deadline_of : JobTerms → Option ℕ → Option ℕ
deadline_of terms start = deadline_from terms.timeout_ms start

-- what a job comes to, or that there is none of its function: then nothing was done
abbrev pub Tells : Service → JobTerms → Visible → Visible → AssignedJob → Option Replied → Type 0
Tells s terms old new j None = IsTrue (has_no_path j.function) × (new ≡ old)
Tells s terms old new j (Some reply) =
    (has_no_path j.function ≡ false)
    × ((start : Option ℕ) × (begun : Visible) × Looks old start begun × Served s terms.resend (deadline_of terms start) begun new j reply)

-- why a job was not done
abbrev pub NotServed : Service → JobTerms → Visible → Visible → AssignedJob → NotDone → Type 0
NotServed s terms old new j e =
    (start : Option ℕ) × (begun : Visible) × Looks old start begun × NotAnswered s terms.resend (deadline_of terms start) begun new j e

-- ---- the jobs of a session

-- how a session hears that a job was not done
abbrev pub as_of_session : NotDone → session.NotDone
as_of_session (Not why) = heard.Unserved
as_of_session Memory = heard.Memory

-- A job was done, and this is what it reports; the service and the terms stay.
abbrev pub IsDoneBy : Service → JobTerms → Visible → Visible → Service → JobTerms → AssignedJob → Option Told → Type 0
IsDoneBy s terms old new service after j told =
    (reply : Option Replied) × Tells s terms old new j reply × (told ≡ told_in reply) × (service ≡ s) × (after ≡ terms)

-- It was not done, for a reason of which a session hears so; the service and the terms stay.
abbrev pub IsNotDoneBy : Service → JobTerms → Visible → Visible → Service → JobTerms → AssignedJob → session.NotDone → Type 0
IsNotDoneBy s terms old new service after j error =
    (e : NotDone) × NotServed s terms old new j e × (error ≡ as_of_session e) × (service ≡ s) × (after ≡ terms)
