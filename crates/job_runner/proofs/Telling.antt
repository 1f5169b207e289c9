-- What jobs tell, one after the other.
use Rattle.std.proofs.Common.{◌≡◌, ◌≢◌, ℕ, List, [], ◌∷◌, ◌++◌, length, map, take, Option, Result, Ok, Err, inl, inr, refl, sym, ap, subst, ◌∙◌}
use Rattle.std.specs.Prelude.{IfErr}
use Rattle.std.specs.List.{AllByRecursion}
use Rattle.std.proofs.Math.Seq.{take-append_seam}
use Rattle.std.proofs.lemmas.List.{map-append, append_assoc, length-map}
use Rattle.gear_packets.specs.Response.{AssignedJob}
use Rattle.job_runner.specs.declared.jobs.NotDone.{NotDone}
use Rattle.job_runner.specs.declared.jobs.NotDone.TheVariants as not_done
use Rattle.job_runner.specs.declared.end.EndCause.{EndCause}
use Rattle.job_runner.specs.declared.end.EndCause.TheVariants as cause
use Rattle.job_runner.specs.Told.{Told, Telling, telling, jobs_of, ArePrepared, IsPrepared, AreTold, IsMeant, meant}
use Rattle.job_runner.specs.declared.worker.Worker.{Worker}
use Rattle.job_runner.specs.Acting.{Asked, Came, Does, Moment, told_at}
use Rattle.job_runner.specs.Book.{Ledger}
use Rattle.job_runner.specs.Course.{PortReason}
use Rattle.job_runner.specs.Run.{EndTold, IsLeftBy, ToldSince, end_of}
use Rattle.job_runner.specs.Path.{IsSendEnd}
use Rattle.job_runner.proofs.Reasons.{port_served}

-- ---- getting ready

-- it did not get ready
pub unprepared : {J : Type 0} (prepares : J → J → Type 0) (first last : J) → last ≡ first → IsPrepared prepares first last
unprepared prepares first last e = ([], e)

-- it did, once, and then stayed as it was
pub prepared : {J : Type 0} (prepares : J → J → Type 0) (first middle last : J) → prepares first middle → last ≡ middle → IsPrepared prepares first last
prepared prepares first middle last h e = (middle ∷ [], (h, e))

are_prepared_on : {J : Type 0} (prepares : J → J → Type 0) (first middle last : J) (xs ys : List J) → ArePrepared prepares first middle xs
    → ArePrepared prepares middle last ys → ArePrepared prepares first last (xs ++ ys)
are_prepared_on prepares first middle last [] ys e more = subst (λ x. ArePrepared prepares x last ys) e more
are_prepared_on prepares first middle last (x ∷ xs) ys h more = (h.0, are_prepared_on prepares x middle last xs ys h.1 more)

-- it got ready, and then again
pub prepared_on : {J : Type 0} (prepares : J → J → Type 0) (first middle last : J) → IsPrepared prepares first middle → IsPrepared prepares middle last
    → IsPrepared prepares first last
prepared_on prepares first middle last h more = (h.0 ++ more.0, are_prepared_on prepares first middle last h.0 more.0 h.1 more.1)

are_same : {J : Type 0} (first last : J) (between : List J) → ArePrepared (λ before after. after ≡ before) first last between → last ≡ first
are_same first last [] e = e
are_same first last (next ∷ more) h = are_same next last more h.1 ∙ h.0

-- what does not change to get ready stays the same
pub prepared_same : {J : Type 0} (first last : J) → IsPrepared (λ before after. after ≡ before) first last → last ≡ first
prepared_same first last h = are_same first last h.0 h.1

-- ---- telling

-- it got ready first
told_later : {J : Type 0} (tells : J → J → AssignedJob → Option Told → Type 0) (prepares : J → J → Type 0) (first middle last : J) (ts : List Telling)
    → IsPrepared prepares first middle → AreTold tells prepares middle last ts → AreTold tells prepares first last ts
told_later tells prepares first middle last [] h more = prepared_on prepares first middle last h more
told_later tells prepares first middle last (t ∷ ts) h more = (more.0, more.1, prepared_on prepares first middle more.0 h more.2, more.3, more.4)

-- more was told after it
pub told_on : {J : Type 0} (tells : J → J → AssignedJob → Option Told → Type 0) (prepares : J → J → Type 0) (first middle last : J) (xs ys : List Telling)
    → AreTold tells prepares first middle xs → AreTold tells prepares middle last ys → AreTold tells prepares first last (xs ++ ys)
told_on tells prepares first middle last [] ys h more = told_later tells prepares first middle last ys h more
told_on tells prepares first middle last (x ∷ xs) ys h more = (h.0, h.1, h.2, h.3, told_on tells prepares h.1 middle last xs ys h.4 more)

-- and then it got ready
pub told_and_prepared : {J : Type 0} (tells : J → J → AssignedJob → Option Told → Type 0) (prepares : J → J → Type 0) (first middle last : J) (ts : List Telling)
    → AreTold tells prepares first middle ts → IsPrepared prepares middle last → AreTold tells prepares first last ts
told_and_prepared tells prepares first middle last [] h more = prepared_on prepares first middle last h more
told_and_prepared tells prepares first middle last (t ∷ ts) h more = (h.0, h.1, h.2, h.3, told_and_prepared tells prepares h.1 middle last ts h.4 more)

-- and then an end came
pub end_told_on : {J : Type 0} (tells : J → J → AssignedJob → Option Told → Type 0) (fails : J → J → AssignedJob → NotDone → Type 0) (prepares : J → J → Type 0) (first middle : J)
    (new : J) (reason : EndCause) (xs ys : List Telling) → AreTold tells prepares first middle xs → EndTold tells fails prepares middle new reason ys → EndTold tells fails prepares first new reason (xs ++ ys)
end_told_on tells fails prepares first middle new reason xs ys h end = (end.0, told_on tells prepares first middle end.0 xs ys h end.1, end.2)

-- ---- steps

-- an end that is none of a job's
abbrev pub IsOfNoJob : Result (Unit {0}) EndCause → Type 0
IsOfNoJob result = IfErr result (λ e. e ≢ cause.Unserved)

pub port_serves : (generation : ℕ) (b : Ledger) (result : Result (Unit {0}) EndCause) → IfErr result (PortReason generation b) → IsOfNoJob result
port_serves generation b (Ok u) h = tt
port_serves generation b (Err e) h = port_served generation b e h

pub send_serves : (result : Result (Unit {0}) EndCause) → IfErr result IsSendEnd → IsOfNoJob result
send_serves (Ok u) h = tt
send_serves (Err e) h = λ same. subst IsSendEnd same h

-- a step in which this was told
pub told_so : {J : Type 0} (tells : J → J → AssignedJob → Option Told → Type 0) (fails : J → J → AssignedJob → NotDone → Type 0) (prepares : J → J → Type 0) (old new : J)
    (since : List Telling) (result : Result (Unit {0}) EndCause) → IsOfNoJob result → AreTold tells prepares old new since → ToldSince tells fails prepares old new since result
told_so tells fails prepares old new since (Ok u) served h = h
told_so tells fails prepares old new since (Err e) served h = (new, h, inl (refl, served))

-- a step at a message
abbrev pub Acted : {J : Type 0} → (J → J → AssignedJob → Option Told → Type 0) → (J → J → AssignedJob → NotDone → Type 0) → (J → J → Type 0) → J → J → Worker → Asked → Moment → Moment → Result (Unit {0}) EndCause → Type 0
Acted tells fails prepares first last worker a old new result = (came : Came) × ToldSince tells fails prepares first last (told_at a came) result × Does worker a came old new result

pub acted_at : {J : Type 0} (tells : J → J → AssignedJob → Option Told → Type 0) (fails : J → J → AssignedJob → NotDone → Type 0) (prepares : J → J → Type 0) (first last : J) (worker : Worker) (a b : Asked) (old new : Moment) (result : Result (Unit {0}) EndCause)
    → a ≡ b → Acted tells fails prepares first last worker b old new result → Acted tells fails prepares first last worker a old new result
acted_at tells fails prepares first last worker a b old new result e h = subst (λ (x : Asked). Acted tells fails prepares first last worker x old new result) (sym e) h

-- ---- jobs that tell what they mean

-- what runs them does not change
abbrev pub Means : {J : Type 0} → (J → List ℕ → List ℕ → Option Told) → J → J → AssignedJob → Option Told → Type 0
Means meaning before after job told = (after ≡ before) × (told ≡ meaning before job.function job.payload)

pub all_meant : {J : Type 0} (meaning : J → List ℕ → List ℕ → Option Told) (first last : J) (ts : List Telling)
    → AreTold (Means meaning) (λ before after. after ≡ before) first last ts → AllByRecursion (IsMeant (meaning first)) ts
all_meant meaning first last [] h = tt
all_meant meaning first last (t ∷ ts) h =
    let same = prepared_same first h.0 h.2 in (
      h.3.1 ∙ ap (λ j. meaning j t.job.function t.job.payload) same,
      subst (λ x. AllByRecursion (IsMeant (meaning x)) ts) (h.3.0 ∙ same) (all_meant meaning h.1 last ts h.4),
    )

pub meant_again : (meaning : List ℕ → List ℕ → Option Told) (ts : List Telling) → AllByRecursion (IsMeant meaning) ts → map (meant meaning) (jobs_of ts) ≡ ts
meant_again meaning [] h = refl
meant_again meaning (t ∷ ts) h = ap (λ (x : Telling). x ∷ map (meant meaning) (jobs_of ts)) (ap (telling t.job) (sym h.0)) ∙ ap (λ (x : List Telling). t ∷ x) (meant_again meaning ts h.1)

first_meant : (P : Telling → Type 0) (xs ys : List Telling) → AllByRecursion P (xs ++ ys) → AllByRecursion P xs
first_meant P [] ys h = tt
first_meant P (x ∷ xs) ys h = (h.0, first_meant P xs ys h.1)

-- the first that were told are what the first jobs mean
pub first_told : (meaning : List ℕ → List ℕ → Option Told) (n : ℕ) (told answered rest : List Telling) (taken later : List AssignedJob) → AllByRecursion (IsMeant meaning) told
    → n ≡ length answered → told ≡ answered ++ rest → taken ≡ jobs_of told ++ later → take n told ≡ map (meant meaning) (take n taken)
first_told meaning n told answered rest taken later all count split order =
    let jobs : taken ≡ jobs_of answered ++ (jobs_of rest ++ later) =
    order ∙ ap (λ (x : List Telling). jobs_of x ++ later) split ∙ ap (λ (x : List AssignedJob). x ++ later) (map-append (λ (x : Telling). x.job) answered rest) ∙ append_assoc (jobs_of answered) (jobs_of rest) later in
    let many : n ≡ length (jobs_of answered) = count ∙ sym (length-map answered (λ (x : Telling). x.job)) in
    let first : take n told ≡ answered = ap (λ (k : ℕ). take k told) count ∙ ap (take (length answered)) split ∙ take-append_seam answered rest in
    let taken_first : take n taken ≡ jobs_of answered = ap (λ (k : ℕ). take k taken) many ∙ ap (take (length (jobs_of answered))) jobs ∙ take-append_seam (jobs_of answered) (jobs_of rest ++ later) in
    first ∙ sym (meant_again meaning answered (first_meant (IsMeant meaning) answered rest (subst (AllByRecursion (IsMeant meaning)) split all))) ∙ ap (map (meant meaning)) (sym taken_first)

-- they end no session as Unserved
pub never_unserved : {J : Type 0} (last new : J) (reason : EndCause) → IsLeftBy (λ before after job error. (after ≡ before) × (error ≡ not_done.Memory)) last new reason → reason ≢ cause.Unserved
never_unserved last new reason (inl h) = h.1
never_unserved last new reason (inr h) = λ same. absurd (let clash : cause.Unserved ≡ cause.Memory = sym same ∙ h.3 ∙ ap end_of h.2.1 in cc)
