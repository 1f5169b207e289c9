-- What an exchange has seen, step by step, and why it was not done.
use Rattle.std.proofs.Common.{◌≡◌, ℕ, ◌+◌, List, [], ◌∷◌, ◌++◌, Option, Some, None, sym, refl, ap, ◌∙◌, subst, append_assoc, IsSome, false}
use Rattle.std.proofs.lemmas.List.{append-nil}
use Rattle.http1.specs.declared.conn.Limits.{Limits}
use Rattle.byte_io.specs.Sides.{Input, and_then, counted}
use Rattle.byte_io.proofs.Devices.{told_twice, counted_twice, counted_nothing, told_nothing}
use Rattle.job_runner.specs.Run.{Link}
use Rattle.http_jobs.specs.declared.fault.NotDone.{NotDone}
use Rattle.http_jobs.specs.declared.fault.NotDone.TheVariants.{Unserved as Not, Memory}
use Rattle.http_jobs.specs.declared.fault.Unserved.TheVariants as why
use Rattle.byte_io.specs.Deadline.{is_past}
use Rattle.http_jobs.specs.Clock.{shown_then, InTime, IsLate}
use Rattle.http_jobs.specs.declared.fault.Came.{Came}
use Rattle.http_jobs.specs.declared.fault.Unanswered.{Unanswered}
use Rattle.http_jobs.specs.Reasons.{HasCame, Seen, NotReceived, came_of, why_of}
use Rattle.http_jobs.specs.Reading.{StepFails, FillFails}
use Rattle.http_jobs.specs.Exchange.{Sees, Explains}
use Rattle.http_jobs.specs.Response.{head_limits}

pub has_status : {status : Option ℕ} {code : ℕ} → status ≡ Some code → IsSome status
has_status is = subst (λ (o : Option ℕ). IsSome o) (sym is) refl

-- ---- what was seen

abbrev pub Shown : Type 0
Shown = Option (List (Option ℕ))

pub shown_twice : (o : Shown) (a b : List (Option ℕ)) → shown_then (shown_then o a) b ≡ shown_then o (a ++ b)
shown_twice None a b = refl
shown_twice (Some times) a b = ap Some (append_assoc times a b)

pub shown_nothing : (o : Shown) → o ≡ shown_then o []
shown_nothing None = refl
shown_nothing (Some times) = ap Some (sym (append-nil times))

abbrev pub nothing : Seen
nothing = record { read = []; lulls = 0; times = [] }

pub sees_nothing : (old : Input) (shown : Shown) → Sees old shown nothing old shown
sees_nothing old shown = (told_nothing old.given, counted_nothing old.lulls, shown_nothing shown)

-- one read more
abbrev pub after_read : Seen → List ℕ → ℕ → Seen
after_read seen more lulls = record { read = seen.read ++ more; lulls = seen.lulls + lulls; times = seen.times }

pub sees_read : (old mid new : Input) (shown now : Shown) (seen : Seen) (more : List ℕ) (lulls : ℕ) → Sees old shown seen mid now → new.given ≡ and_then mid.given more → new.lulls ≡ counted mid.lulls lulls → Sees old shown (after_read seen more lulls) new now
sees_read old mid new shown now seen more lulls s bytes pauses = (
  bytes ∙ ap (λ (o : Option (List ℕ)). and_then o more) s.0 ∙ told_twice old.given seen.read more,
  pauses ∙ ap (λ (o : Option ℕ). counted o lulls) s.1 ∙ counted_twice old.lulls seen.lulls lulls,
  s.2,
)

-- ---- in time

pub in_time_more : (deadline : Option ℕ) (times : List (Option ℕ)) (time : Option ℕ) → InTime deadline times → is_past deadline time ≡ false → InTime deadline (times ++ time ∷ [])
in_time_more deadline [] time before e = (e, tt)
in_time_more deadline (t ∷ times) time before e = (before.0, in_time_more deadline times time before.1 e)

pub in_time_both : (deadline : Option ℕ) (times more : List (Option ℕ)) → InTime deadline times → InTime deadline more → InTime deadline (times ++ more)
in_time_both deadline [] more before after = after
in_time_both deadline (t ∷ times) more before after = (before.0, in_time_both deadline times more before.1 after)

-- ---- why it was not done

pub step_fails : (limits : Limits) (deadline : Option ℕ) (seen : Seen) (old new : Input) (e : NotDone) → StepFails limits seen.read e → NotReceived limits deadline seen old new e
step_fails limits deadline seen old new (Not (why.Unreachable reason)) h = absurd h
step_fails limits deadline seen old new (Not why.Write) h = absurd h
step_fails limits deadline seen old new (Not why.Read) h = absurd h
step_fails limits deadline seen old new (Not why.Ended) h = absurd h
step_fails limits deadline seen old new (Not why.Late) h = absurd h
step_fails limits deadline seen old new (Not (why.NoResponse e)) h = h
step_fails limits deadline seen old new (Not (why.Status status)) h = h
step_fails limits deadline seen old new (Not why.Endless) h = absurd h
step_fails limits deadline seen old new Memory h = tt

-- the same, with what came
pub told : (limits : Limits) (deadline : Option ℕ) (seen : Seen) (old new : Input) (why : NotDone) (came : Came) (e : Unanswered) → NotReceived limits deadline seen old new why
    → why_of e ≡ why → HasCame came e → came ≡ came_of seen.read → NotReceived limits deadline seen old new (why_of e) × HasCame (came_of seen.read) e
told limits deadline seen old new why came e h is has same =
    (subst (λ (w : NotDone). NotReceived limits deadline seen old new w) (sym is) h, subst (λ (k : Came). HasCame k e) same has)

pub fill_fails : (limits : Limits) (deadline : Option ℕ) (seen : Seen) (first old new : Input) (e : NotDone) → old.failures ≡ first.failures → FillFails limits seen.read old new e → NotReceived limits deadline seen first new e
fill_fails limits deadline seen first old new (Not (why.Unreachable reason)) same h = absurd h
fill_fails limits deadline seen first old new (Not why.Write) same h = absurd h
fill_fails limits deadline seen first old new (Not why.Read) same h = h ∙ ap (λ (n : ℕ). n + 1) same
fill_fails limits deadline seen first old new (Not why.Ended) same h = h
fill_fails limits deadline seen first old new (Not why.Late) same h = absurd h
fill_fails limits deadline seen first old new (Not (why.NoResponse e)) same h = absurd h
fill_fails limits deadline seen first old new (Not (why.Status status)) same h = absurd h
fill_fails limits deadline seen first old new (Not why.Endless) same h = absurd h
fill_fails limits deadline seen first old new Memory same h = tt

pub late_after : (deadline : Option ℕ) (times more : List (Option ℕ)) → InTime deadline times → IsLate deadline more → IsLate deadline (times ++ more)
late_after deadline times more before h = (times ++ h.0, h.1, ap (λ x. times ++ x) h.2 ∙ sym (append_assoc times h.0 (h.1 ∷ [])), in_time_both deadline times h.0 before h.3, h.4)

pub not_received : (max : ℕ) (deadline : Option ℕ) (seen : Seen) (old new : Link) (e : NotDone) → NotReceived head_limits deadline seen old.input new.input e → Explains max deadline seen old new e
not_received max deadline seen old new (Not (why.Unreachable reason)) h = absurd h
not_received max deadline seen old new (Not why.Write) h = absurd h
not_received max deadline seen old new (Not why.Read) h = h
not_received max deadline seen old new (Not why.Ended) h = h
not_received max deadline seen old new (Not why.Late) h = h
not_received max deadline seen old new (Not (why.NoResponse e)) h = h
not_received max deadline seen old new (Not (why.Status status)) h = h
not_received max deadline seen old new (Not why.Endless) h = h
not_received max deadline seen old new Memory h = tt
