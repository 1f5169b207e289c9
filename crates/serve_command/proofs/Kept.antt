-- What holds of a job once it is known whether it was done.
use Rattle.std.proofs.Common.{◌∙◌, ℕ, Option, Some, ap, inl, inr, subst, sym}
use Rattle.std.specs.Prelude.{◌≡◌, Result, Ok, Err, IfErr, IfOk, option_map}
use Rattle.std.specs.Result.{IsErrAnd}
use Rattle.gear_packets.specs.Response.{AssignedJob}
use Rattle.http_jobs.specs.Response.{reply_of, told_in}
use Rattle.http_jobs.specs.Serving.{NotServed, Tells, Visible, as_of_session}
use Rattle.http_jobs.specs.declared.fault.NotDone.{NotDone}
use Rattle.http_jobs.specs.declared.fault.NotDone.TheVariants.{Unserved as Not}
use Rattle.http_jobs.specs.declared.outcome.Reply.{Reply}
use Rattle.http_jobs.specs.declared.service.Service.{Service}
use Rattle.job_runner.specs.Told.{Told}
use Rattle.job_runner.specs.declared.jobs.NotDone as session
use Rattle.serve_command.specs.Farm.{Farm, retries_in, terms_in}
use Rattle.serve_command.specs.ServiceJobs.{Does, IsSettled}

pub of_ok : {A E : Type 0} (P : A → Type 0) (r : Result A E) (x : A) → r ≡ Ok x → IfOk r P → P x
of_ok P r x e p = subst (λ r. IfOk r P) e p

pub of_err : {A E : Type 0} (P : E → Type 0) (r : Result A E) (x : E) → r ≡ Err x → IfErr r P → P x
of_err P r x e p = subst (λ r. IfErr r P) e p

-- A job was not done, a session hears so, and six facts hold besides.
pub heard : {A B : Type 0} (C D E F G H : Type 0) (P : NotDone → Type 0) (r : Result A NotDone) (why : NotDone) (s : Result B session.NotDone)
    → C → D → E → F → G → H → r ≡ Err why → IsErrAnd s (λ error. error ≡ as_of_session why) → IfErr r P
    → IfErr s (λ error. C × D × E × F × ((e : NotDone) × P e × (error ≡ as_of_session e) × G × H))
heard C D E F G H P r why (Ok x) c d e f g h failed told p = tt
heard C D E F G H P r why (Err error) c d e f g h failed told p =
    (c, d, e, f, (why, subst (λ x. IfErr x P) failed p, told, g, h))

-- what a job told that was settled
pub told_if_settled : (farm : Farm) (service : Service) (before after : Visible) (job : AssignedJob) (served settled : Result (Option Reply) NotDone)
    (reply : Option Reply) (told : Option Told)
    → IfOk served (λ r. Tells service (terms_in farm job.function) before after job (option_map reply_of r))
    → IfErr served (NotServed service (terms_in farm job.function) before after job)
    → IsSettled (retries_in farm job.function) served settled → settled ≡ Ok reply → told ≡ told_in (option_map reply_of reply)
    → Does farm service before after job told
told_if_settled farm service before after job served settled reply told answered failed (inl same) is tells =
    inl (option_map reply_of reply, of_ok _ served reply (sym same ∙ is) answered, tells)
told_if_settled farm service before after job served settled reply told answered failed (inr given) is tells =
    let fails = given.1 in
    let done : settled ≡ Ok (Some given.0) = given.2 in
    let same : reply ≡ Some given.0 = cc in
    inr (
      fails.0,
      reply_of given.0,
      of_err _ served (Not fails.0) fails.1 failed,
      fails.2,
      tells ∙ ap (λ (r : Option Reply). told_in (option_map reply_of r)) same,
    )

-- a job that is not done once it is settled was not done before
pub failed_if_settled : (retries : Option ℕ) (served settled : Result (Option Reply) NotDone) (why : NotDone) → IsSettled retries served settled
    → settled ≡ Err why → served ≡ Err why
failed_if_settled retries served settled why (inl same) is = sym same ∙ is
failed_if_settled retries served settled why (inr given) is =
    let done : settled ≡ Ok (Some given.0) = given.2 in
    absurd (let clash : Ok (Some given.0) ≡ Err why = sym done ∙ is in cc)
