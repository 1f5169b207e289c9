-- One job over one connection.
use Rattle.std.proofs.Common.{◌≡◌, [], ◌∷◌, None, Result, Ok, Err, ap₂, subst, sym}
use Rattle.std.specs.Prelude.{IfErr, IfOk}
use Rattle.gear_packets.specs.Response.{AssignedJob}
use Rattle.byte_io.specs.Sides.{Input, Output}
use Rattle.devices.specs.declared.dial_error.DialError.{DialError}
use Rattle.job_runner.specs.Run.{Link}
use Rattle.http_jobs.specs.declared.exchanging.Sending.{Sending}
use Rattle.http_jobs.specs.declared.fault.NotDone.{NotDone}
use Rattle.http_jobs.specs.declared.fault.NotDone.TheVariants.{Unserved as Not, Memory}
use Rattle.http_jobs.specs.declared.fault.Unanswered.{Unanswered}
use Rattle.http_jobs.specs.declared.fault.Unserved.TheVariants as why
use Rattle.http_jobs.specs.declared.service.Service.{Service}
use Rattle.http_jobs.specs.Exchange.{Explains}
use Rattle.http_jobs.specs.Reasons.{why_of}
use Rattle.http_jobs.specs.Request.{most_body}
use Rattle.http_jobs.specs.Serving.{OpensNew, UnansweredNew, UnansweredOver, Visible, failed, then_called}

-- a link with these sides
abbrev pub link_of : Input → Output → Link
link_of input output = record { input = input; output = output }

pub same_link : (i j : Input) (o p : Output) → i ≡ j → o ≡ p → link_of i o ≡ link_of j p
same_link i j o p ins outs = ap₂ link_of ins outs

-- A job that was not answered over a new connection did not fail for lack of one.
abbrev pub OverNew : Service → Sending → Visible → Visible → AssignedJob → NotDone → Type 0
OverNew s sending old new j e =
    (link : Link) × (begun : Visible) × (u : Unanswered) × OpensNew old link begun × UnansweredOver s sending begun new j link u × (e ≡ why_of u)

pub over_new : (s : Service) (sending : Sending) (old new : Visible) (j : AssignedJob) (e : NotDone) → OverNew s sending old new j e → UnansweredNew s sending old new j e
over_new s sending old new j (Not (why.Unreachable reason)) h =
    absurd (subst (λ (w : NotDone). Explains (most_body j) sending.deadline h.4.seen h.0 h.4.after w) (sym h.5) h.4.explained.0)
over_new s sending old new j (Not why.Write) h = h
over_new s sending old new j (Not why.Read) h = h
over_new s sending old new j (Not why.Ended) h = h
over_new s sending old new j (Not why.Late) h = h
over_new s sending old new j (Not (why.NoResponse e)) h = h
over_new s sending old new j (Not (why.Status status)) h = h
over_new s sending old new j (Not why.Endless) h = h
over_new s sending old new j Memory h = h

-- none was opened, for this reason
pub not_opened : (s : Service) (sending : Sending) (old new : Visible) (j : AssignedJob) (reason : DialError) (e : NotDone) → e ≡ Not (why.Unreachable reason) → new.kept ≡ None
    → new.calls ≡ then_called old.calls (failed reason ∷ []) → new.shown ≡ old.shown → UnansweredNew s sending old new j e
not_opened s sending old new j reason e is kept calls shown =
    subst (λ (w : NotDone). UnansweredNew s sending old new j w) (sym is) (kept, calls, shown)

pub if_ok_both : {A E : Type 0} (P Q : A → Type 0) (r : Result A E) → ((x : A) → P x → Q x) → IfOk r P → IfOk r Q
if_ok_both P Q (Ok x) f h = f x h
if_ok_both P Q (Err e) f h = tt

pub if_err_both : {A E : Type 0} (P Q : E → Type 0) (r : Result A E) → ((e : E) → P e → Q e) → IfErr r P → IfErr r Q
if_err_both P Q (Ok x) f h = tt
if_err_both P Q (Err e) f h = f e h
