-- The jobs of a farm's sessions, said of services.
use Rattle.std.proofs.Common.{◌≡◌, ◌∙◌, ℕ, List, [], ◌∷◌, Option, Some, None, refl, ap, subst, inl, inr}
use Rattle.std.specs.Prelude.{IfSome}
use Rattle.gear_packets.specs.Response.{AssignedJob}
use Rattle.http_jobs.specs.Serving.{HasNew, IsNotDoneBy, MayMakeReady, NotServed, Visible}
use Rattle.http_jobs.specs.declared.service.Service.{Service}
use Rattle.http_jobs.specs.declared.service_jobs.JobTerms.{JobTerms}
use Rattle.job_runner.specs.Run.{EndTold, IsLeftBy}
use Rattle.job_runner.specs.Told.{ArePrepared, AreTold, IsPrepared, Telling, Told}
use Rattle.job_runner.specs.declared.end.EndCause.{EndCause}
use Rattle.job_runner.specs.declared.jobs.NotDone as session
use Rattle.pool_supervisor.proofs.Sessions.{all_covered}
use Rattle.pool_supervisor.specs.Sessions.{AllHad, HadJobs, PastSession}
use Rattle.serve_command.specs.Farm.{Farm, IsServiceOf, terms_in}
use Rattle.serve_command.specs.ServiceJobs.{Does, DoesNot, HadServiceJobs}
use Rattle.worker_state.specs.declared.slot.WorkerName.{WorkerName}

-- what a value that does jobs has of its farm, its worker, its service and its terms, which host it dials, and what it shows
pub record Parts (J F : Type 0) : Type 0 where
  pub farm : J → F
  pub worker : J → WorkerName
  pub machine : J → ℕ
  pub now : F → Farm
  pub service : J → Service
  pub terms : J → JobTerms
  pub host : J → Option (List ℕ)
  pub see : J → Visible

abbrev pub tells_of : {J F : Type 0} → Parts J F → J → J → AssignedJob → Option Told → Type 0
tells_of p before after job told =
    (p.farm after ≡ p.farm before) × (p.worker after ≡ p.worker before) × (p.machine after ≡ p.machine before)
    × (p.host after ≡ p.host before)
    × Does (p.now (p.farm before)) (p.service before) (p.see before) (p.see after) job told
    × (p.service after ≡ p.service before) × (p.terms after ≡ terms_in (p.now (p.farm before)) job.function)

abbrev pub fails_of : {J F : Type 0} → Parts J F → J → J → AssignedJob → session.NotDone → Type 0
fails_of p before after job error =
    (p.farm after ≡ p.farm before) × (p.worker after ≡ p.worker before) × (p.machine after ≡ p.machine before)
    × (p.host after ≡ p.host before)
    × IsNotDoneBy (p.service before) (terms_in (p.now (p.farm before)) job.function) (p.see before) (p.see after) (p.service after) (p.terms after) job error

abbrev pub prepares_of : {J F : Type 0} → Parts J F → J → J → Type 0
prepares_of p before after =
    (p.farm after ≡ p.farm before) × (p.worker after ≡ p.worker before) × (p.machine after ≡ p.machine before)
    × (p.host after ≡ p.host before) × MayMakeReady (p.see before) (p.see after)
    × (p.service after ≡ p.service before) × (p.terms after ≡ p.terms before)

abbrev pub gives_of : {J F : Type 0} → Parts J F → F → WorkerName → J → Type 0
gives_of p farm worker given = (p.farm given ≡ farm) × IsServiceOf (p.now farm) worker (p.service given) × HasNew (p.see given).kept

-- what is given is such a value, and may be more besides
abbrev pub IsGiven : {J F : Type 0} → Parts J F → F → (WorkerName → J → Type 0) → Type 0
IsGiven {J = J} p farm gives = (worker : WorkerName) (given : J) → gives worker given → gives_of p farm worker given

are_ready : {J F : Type 0} (p : Parts J F) (first last : J) (between : List J) → ArePrepared (prepares_of p) first last between
    → IsPrepared MayMakeReady (p.see first) (p.see last) × (p.farm last ≡ p.farm first) × (p.service last ≡ p.service first)
are_ready p first last [] e = (([], ap p.see e), ap p.farm e, ap p.service e)
are_ready p first last (next ∷ more) h =
    let rest = are_ready p next last more h.1 in ((p.see next ∷ rest.0.0, (h.0.4, rest.0.1)), rest.1 ∙ h.0.0, rest.2 ∙ h.0.5)

are_told : {J F : Type 0} (p : Parts J F) (farm : F) (service : Service) (first last : J) (told : List Telling) → p.farm first ≡ farm → p.service first ≡ service
    → AreTold (tells_of p) (prepares_of p) first last told
    → AreTold (Does (p.now farm) service) MayMakeReady (p.see first) (p.see last) told × (p.farm last ≡ farm) × (p.service last ≡ service)
are_told p farm service first last [] own is all = let ready = are_ready p first last all.0 all.1 in (ready.0, ready.1 ∙ own, ready.2 ∙ is)
are_told p farm service first last (t ∷ ts) own is all =
    let before = all.0 in
    let next = all.1 in
    let ready = are_ready p first before all.2.0 all.2.1 in
    let facts = all.3 in
    let own_then = ready.1 ∙ own in
    let is_then = ready.2 ∙ is in
    let rest = are_told p farm service next last ts (facts.0 ∙ own_then) (facts.5 ∙ is_then) all.4 in
    let does = subst (λ f. Does (p.now f) (p.service before) (p.see before) (p.see next) t.job t.told) own_then facts.4 in (
      (p.see before, p.see next, ready.0, subst (λ s. Does (p.now farm) s (p.see before) (p.see next) t.job t.told) is_then does, rest.0),
      rest.1,
      rest.2,
    )

is_left : {J F : Type 0} (p : Parts J F) (farm : F) (service : Service) (last new : J) (reason : EndCause) → p.farm last ≡ farm → p.service last ≡ service
    → IsLeftBy (fails_of p) last new reason → IsLeftBy (DoesNot (p.now farm) service) (p.see last) (p.see new) reason
is_left p farm service last new reason own is (inl rests) = inl (ap p.see rests.0, rests.1)
is_left p farm service last new reason own is (inr failed) =
    let job = failed.0 in
    let not_done = failed.2.4 in
    let not_served = subst (λ f. NotServed (p.service last) (terms_in (p.now f) job.function) (p.see last) (p.see new) job not_done.0) own not_done.1 in
    inr (
      job,
      failed.1,
      (not_done.0, subst (λ s. NotServed s (terms_in (p.now farm) job.function) (p.see last) (p.see new) job not_done.0) is not_served, not_done.2),
      failed.3,
    )

had_jobs : {J F : Type 0} (p : Parts J F) (farm : F) (gives : WorkerName → J → Type 0) (past : PastSession) (told : Option (List Telling))
    → IsGiven p farm gives
    → IfSome told (λ told. (first last : J) × gives past.worker first × EndTold (tells_of p) (fails_of p) (prepares_of p) first last past.end.cause told)
    → IfSome told (λ told. (service : Service) × (first last : Visible) × IsServiceOf (p.now farm) past.worker service × HasNew first.kept
    × EndTold (Does (p.now farm) service) (DoesNot (p.now farm) service) MayMakeReady first last past.end.cause told)
had_jobs p farm gives past None is_given given = tt
had_jobs p farm gives past (Some told) is_given given =
    let first = given.0 in
    let last = given.1 in
    let own = is_given past.worker first given.2 in
    let between = given.3.0 in
    let service = p.service first in
    let all = are_told p farm service first between told own.0 refl given.3.1 in
    (service, p.see first, p.see last, own.1, own.2, (p.see between, all.0, is_left p farm service between last past.end.cause all.1 all.2 given.3.2))

-- the jobs of such values
pub had_service_jobs : {J F : Type 0} (p : Parts J F) (farm : F) (gives : WorkerName → J → Type 0) (denies : WorkerName → Type 0)
    (sessions : List PastSession) → AllHad (HadJobs (tells_of p) (fails_of p) (prepares_of p) gives denies) sessions → IsGiven p farm gives
    → AllHad (HadServiceJobs (p.now farm)) sessions
had_service_jobs p farm gives denies sessions had is_given =
    all_covered _ _ sessions (λ past jobs. ∣ had_jobs p farm gives past past.told is_given jobs.given ∣₁) had
