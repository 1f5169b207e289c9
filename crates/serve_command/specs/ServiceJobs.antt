-- The jobs of a farm's sessions, which services do.
use Rattle.std.specs.Prelude.{◌≡◌, ◌⊎◌, ℕ, ◌<◌, Option, IfSome, Some, Result, Ok, Err}
use Rattle.gear_packets.specs.Response.{AssignedJob}
use Rattle.http_jobs.specs.Response.{IsLeftTooOften, Replied, reply_of, told_in}
use Rattle.http_jobs.specs.Serving.{HasNew, MayMakeReady, NotServed, Tells, Visible, as_of_session}
use Rattle.http_jobs.specs.declared.fault.NotDone.{NotDone}
use Rattle.http_jobs.specs.declared.fault.NotDone.TheVariants.{Unserved as Not}
use Rattle.http_jobs.specs.declared.fault.Unserved.{Unserved}
use Rattle.http_jobs.specs.declared.outcome.Reply.{Reply}
use Rattle.http_jobs.specs.declared.service.Service.{Service}
use Rattle.job_runner.specs.Run.{EndTold}
use Rattle.job_runner.specs.Told.{Told}
use Rattle.job_runner.specs.declared.jobs.NotDone as session
use Rattle.pool_supervisor.specs.Sessions.{PastSession}
use Rattle.serve_command.specs.Farm.{Farm, IsServiceOf, retries_in, terms_in}

-- The service was asked for the job over some connection, wherever that leads, at no look at the clock was the time of its function over,
-- and the job reported what came back. Or its function has no path, and nothing was asked.
abbrev pub TellsAnswer : Farm → Service → Visible → Visible → AssignedJob → Option Told → Type 0
TellsAnswer farm service before after job told =
    (reply : Option Replied) × Tells service (terms_in farm job.function) before after job reply × (told ≡ told_in reply)

-- A job failed since services left it unserved, the last time for this reason, and more times than it may come again.
pub record FailsForGood (retries : Option ℕ) (last : Unserved) (reply : Replied) : Type 0 where
  pub times : ℕ
  pub most : ℕ
  pub bound : retries ≡ Some most
  pub often : most < times
  pub failed : IsLeftTooOften times last reply

-- The service did not serve the job, and it failed for good by the bound of its function.
abbrev pub GivesUp : Farm → Service → Visible → Visible → AssignedJob → Option Told → Type 0
GivesUp farm service before after job told =
    (last : Unserved) × (reply : Replied) × NotServed service (terms_in farm job.function) before after job (Not last)
    × FailsForGood (retries_in farm job.function) last reply × (told ≡ Some reply.told)

-- The job was answered, or failed for good.
abbrev pub Does : Farm → Service → Visible → Visible → AssignedJob → Option Told → Type 0
Does farm service before after job told =
    TellsAnswer farm service before after job told ⊎ GivesUp farm service before after job told

-- A job that was not served fails for good, with this reply.
abbrev pub IsGivenUp : Option ℕ → Result (Option Reply) NotDone → Replied → Type 0
IsGivenUp retries done reply = (last : Unserved) × (done ≡ Err (Not last)) × FailsForGood retries last reply

-- What a job came to stays, or it is given up.
abbrev pub IsSettled : Option ℕ → Result (Option Reply) NotDone → Result (Option Reply) NotDone → Type 0
IsSettled retries done settled =
    (settled ≡ done) ⊎ ((reply : Reply) × IsGivenUp retries done (reply_of reply) × (settled ≡ Ok (Some reply)))

-- The service did not do it, and the session heard of the reason as `as_of_session` says.
abbrev pub DoesNot : Farm → Service → Visible → Visible → AssignedJob → session.NotDone → Type 0
DoesNot farm service before after job error =
    (why : NotDone) × NotServed service (terms_in farm job.function) before after job why × (error ≡ as_of_session why)

-- If the session was given jobs, it began with a new connection, which was kept. The service of its worker's machine was asked for its
-- jobs, one after the other, each over the kept connection or a new one; before each, and after the last, a connection may have been made
-- ready. Each told what was answered, or failed for good; and one that was not done otherwise ended the session.
abbrev pub HadServiceJobs : Farm → PastSession → Type 0
HadServiceJobs farm past =
    IfSome past.told (λ told. (service : Service) × (first last : Visible) × IsServiceOf farm past.worker service × HasNew first.kept
    × EndTold (Does farm service) (DoesNot farm service) MayMakeReady first last past.end.cause told)
