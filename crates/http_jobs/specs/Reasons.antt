-- Why a job was not done.
use Rattle.std.specs.Prelude.{◌≡◌, ℕ, ◌+◌, ◌-◌, ◌^◌, ◌≤◌, ◌⊎◌, List, [], ◌∷◌, length, Option, true, IsTrue}
use Rattle.httparse.specs.Grammar.{ResponseHead, status_code}
use Rattle.http1.specs.Message.{Response}
use Rattle.http1.specs.declared.conn.Limits.{Limits}
use Rattle.byte_io.specs.Sides.{Input, Output}
use Rattle.http_jobs.specs.declared.fault.NotDone.{NotDone}
use Rattle.http_jobs.specs.declared.fault.NotDone.TheVariants.{Unserved as Not, Memory}
use Rattle.http_jobs.specs.declared.fault.Came.{Came}
use Rattle.http_jobs.specs.declared.fault.Came.TheVariants as came
use Rattle.http_jobs.specs.declared.fault.Unanswered.{Unanswered}
use Rattle.http_jobs.specs.declared.fault.Unanswered.TheVariants as unanswered
use Rattle.http_jobs.specs.declared.fault.Unserved.{Unserved}
use Rattle.http_jobs.specs.declared.fault.Unserved.TheVariants as why
use Rattle.http_jobs.specs.declared.sending.Unsent.{Unsent}
use Rattle.http_jobs.specs.declared.sending.Unsent.TheVariants as unsent
use Rattle.http_jobs.specs.Clock.{InTime, IsLate}
use Rattle.http_jobs.specs.Response.{Answers, Begins, HoldsNoAnswer, NeverAnswers, OnlyLarger, is_success, is_unserved}

-- what an exchange has seen: the bytes that it read, in order, the timeouts of its reads, and the times that its clock showed
pub record Seen : Type 0 where
  pub read : List ℕ
  pub lulls : ℕ
  pub times : List (Option ℕ)

-- whether these bytes are any
abbrev pub came_of : List ℕ → Came
came_of [] = came.Nothing
came_of (b ∷ bytes) = came.Bytes

-- why a request has no response
abbrev pub why_of : Unanswered → NotDone
why_of (unanswered.Unserved reason came) = Not reason
why_of unanswered.Memory = Memory

-- so much came, as the reason says
abbrev pub HasCame : Came → Unanswered → Type 0
HasCame so_much (unanswered.Unserved reason came) = came ≡ so_much
HasCame so_much unanswered.Memory = Unit {0}

-- A status that answers no job came, in a head that is whole.
abbrev pub HasStatus : Limits → List ℕ → ℕ → Type 0
HasStatus limits read status =
    (head : ResponseHead) × Begins limits read head × (status_code head ≡ status) × IsTrue (is_unserved status)

-- why no response was read, by what was seen and by the source before and after
abbrev pub NotReceived : Limits → Option ℕ → Seen → Input → Input → NotDone → Type 0
NotReceived limits deadline seen old new (Not (why.Unreachable reason)) = ⊥
NotReceived limits deadline seen old new (Not why.Write) = ⊥
NotReceived limits deadline seen old new (Not why.Read) = new.failures ≡ old.failures + 1
NotReceived limits deadline seen old new (Not why.Ended) = (new.has_ended ≡ true) × HoldsNoAnswer limits seen.read
NotReceived limits deadline seen old new (Not why.Late) = IsLate deadline seen.times
NotReceived limits deadline seen old new (Not (why.NoResponse e)) = NeverAnswers limits seen.read
NotReceived limits deadline seen old new (Not (why.Status status)) = HasStatus limits seen.read status
NotReceived limits deadline seen old new (Not why.Endless) = 2 ^ 64 - 1 ≤ length seen.read + seen.lulls
NotReceived limits deadline seen old new Memory = Unit {0}

-- why no response was read, and whether anything came
abbrev pub NothingReceived : Limits → Option ℕ → Seen → Input → Input → Unanswered → Type 0
NothingReceived limits deadline seen old new e =
    NotReceived limits deadline seen old new (why_of e) × HasCame (came_of seen.read) e

-- the status of a whole response is one of success
abbrev pub HasSuccess : Limits → List ℕ → Type 0
HasSuccess limits read =
    (response : Response) × (rest : List ℕ) × Answers limits read response rest × (is_success (status_code response.head) ≡ true)

-- Nothing that was read refuses a request of which a write failed: no response was read, for this reason, or one that is too large, or one
-- of success.
abbrev pub HoldsNoRefusal : Limits → ℕ → Option ℕ → Seen → Input → Input → Type 0
HoldsNoRefusal limits max deadline seen old new =
    ((reason : Unserved) × NotReceived limits deadline seen old new (Not reason))
    ⊎ (OnlyLarger limits max seen.read ⊎ HasSuccess limits seen.read)

-- why a request was not refused of which a write failed
abbrev pub NotRefused : Limits → ℕ → Option ℕ → Seen → Input → Input → NotDone → Type 0
NotRefused limits max deadline seen old new (Not why.Write) = HoldsNoRefusal limits max deadline seen old new
NotRefused limits max deadline seen old new (Not (why.Status status)) = HasStatus limits seen.read status
NotRefused limits max deadline seen old new (Not other) = ⊥
NotRefused limits max deadline seen old new Memory = Unit {0}

-- Why a request was not sent, by the times that were shown and by the sink before and after. A write failed, the clock was looked at twice
-- or more, and at no look the deadline had come. Or it had come at the last look, and at none before.
abbrev pub NotSent : Option ℕ → List (Option ℕ) → Output → Output → Unsent → Type 0
NotSent deadline times old new unsent.Write = (new.failures ≡ old.failures + 1) × InTime deadline times × (2 ≤ length times)
NotSent deadline times old new unsent.Late = IsLate deadline times
