-- What a request came to, by what was seen of its response.
use Rattle.std.proofs.Common.{◌≡◌, ℕ, ◌+◌, Option, Result, Ok, Err, MatchResult, OnOk}
use Rattle.job_runner.specs.Run.{Link}
use Rattle.http_jobs.specs.declared.answers.Bounds.{Bounds}
use Rattle.http_jobs.specs.declared.answers.Receipt.{Receipt}
use Rattle.http_jobs.specs.declared.answers.Received.{Received}
use Rattle.http_jobs.specs.declared.fault.NotDone.{NotDone}
use Rattle.http_jobs.specs.declared.fault.Unanswered.{Unanswered}
use Rattle.http_jobs.specs.declared.fault.NotDone.TheVariants.{Unserved as Not, Memory}
use Rattle.http_jobs.specs.declared.fault.Unserved.TheVariants as why
use Rattle.http_jobs.specs.Clock.{InTime}
use Rattle.http_jobs.specs.Meanwhile.{HasNone, HasNoRefusal, HasReceipt, HasReceived, Moment, Shown, moment}
use Rattle.http_jobs.specs.Reasons.{Seen, NotRefused, why_of}
use Rattle.http_jobs.specs.Response.{head_limits}
use Rattle.http_jobs.specs.Exchange.{Explains, ExplainsUnanswered, IsReceived, Sees}
use Rattle.http_jobs.proofs.Exchanges.{not_received}

-- a request of which a write failed was not refused
not_refused : (max : ℕ) (deadline : Option ℕ) (seen : Seen) (old new : Link) (e : NotDone) → new.output.failures ≡ old.output.failures + 1
    → NotRefused head_limits max deadline seen old.input new.input e → Explains max deadline seen old new e
not_refused max deadline seen old new (Not (why.Unreachable reason)) one h = absurd h
not_refused max deadline seen old new (Not why.Write) one h = (one, h)
not_refused max deadline seen old new (Not why.Read) one h = absurd h
not_refused max deadline seen old new (Not why.Ended) one h = absurd h
not_refused max deadline seen old new (Not why.Late) one h = absurd h
not_refused max deadline seen old new (Not (why.NoResponse e)) one h = absurd h
not_refused max deadline seen old new (Not (why.Status status)) one h = h
not_refused max deadline seen old new (Not why.Endless) one h = absurd h
not_refused max deadline seen old new Memory one h = tt

-- what came back is in what was seen, or the reason why nothing did
abbrev pub IsSeen : Bounds → Link → Shown → Link → Shown → Result Received Unanswered → Type 0
IsSeen bounds old shown new now r =
    (seen : Seen) × Sees old.input shown seen new.input now × OnOk r (InTime bounds.deadline seen.times)
    × MatchResult r (IsReceived head_limits bounds.max_body seen.read) (ExplainsUnanswered bounds.max_body bounds.deadline seen old new)

module _ (bounds : Bounds) (old new : Link) (shown now : Shown) where
  pub by_receipt : (receipt : Receipt) → HasReceipt head_limits bounds (moment old.input shown) (moment new.input now) receipt
      → IsSeen bounds old shown new now (Ok receipt.received)
  by_receipt receipt h = (h.seen, h.has_seen.sees, h.has_seen.in_time, h.received)

  pub by_none : (e : Unanswered) → HasNone head_limits bounds (moment old.input shown) (moment new.input now) e → IsSeen bounds old shown new now (Err e)
  by_none e h = (h.seen, h.sees, tt, (not_received bounds.max_body bounds.deadline h.seen old new (why_of e) h.why.0, h.why.1))

  -- the same if a write failed
  pub by_refusal : (r : Result Received Unanswered) → new.output.failures ≡ old.output.failures + 1
      → MatchResult r (HasReceived head_limits bounds (moment old.input shown) (moment new.input now)) (HasNoRefusal head_limits bounds (moment old.input shown) (moment new.input now))
      → IsSeen bounds old shown new now r
  by_refusal (Ok received) one h = (h.seen, h.has_seen.sees, h.has_seen.in_time, h.is)
  by_refusal (Err e) one h = (h.seen, h.sees, tt, (not_refused bounds.max_body bounds.deadline h.seen old new (why_of e) one h.why, h.came))

-- no read failed if something came back
pub unfailed : (bounds : Bounds) (first now : Moment) (r : Result Received Unanswered)
    → MatchResult r (HasReceived head_limits bounds first now) (HasNoRefusal head_limits bounds first now) → OnOk r (now.input.failures ≡ first.input.failures)
unfailed bounds first now (Ok received) h = h.has_seen.unfailed
unfailed bounds first now (Err e) h = tt
