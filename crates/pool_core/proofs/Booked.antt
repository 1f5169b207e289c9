-- Each job is grabbed by one event, and reported by one at most.
use Rattle.std.proofs.Common.{◌≡◌, ◌≢◌, ℕ, ◌+◌, ◌-◌, ◌<◌, ◌≤◌, zero, suc, Bool, true, false, cond, List, [], ◌∷◌, ◌++◌, length, get_or, set, Option, None, Some, refl, sym, ap, ◌∙◌, subst, arith, append_assoc, append-nil, length-set}
use Rattle.std.specs.Prelude.{count_by, slice_get, ◌==◌}
use Rattle.std.proofs.lemmas.List.Elements.{filter_map-append}
use Rattle.std.proofs.lemmas.List.Sums.{sum_by-cons}
use Rattle.std.proofs.lemmas.Grind.{get_or-set_at}
use Rattle.std.proofs.lemmas.Bool.{eqb-true, eq-eqb, false≢true}
use Rattle.std.proofs.lemmas.Bool.Decides.{nat_tests}
use Rattle.pool_settings.specs.Settings.{Settings, AreSettings}
use Rattle.plan_model.specs.declared.answer.Answer.TheVariants as answers
use Rattle.worker_state.specs.declared.slot.WorkerName.{WorkerName}
use Rattle.worker_state.specs.declared.cause.Cause.{Cause}
use Rattle.worker_state.specs.declared.job.Standing.{Standing}
use Rattle.worker_state.specs.declared.job.Standing.TheVariants as standing
use Rattle.worker_state.specs.Slots.{is_reported}
use Rattle.pool_core.specs.declared.event.Job.{Job}
use Rattle.pool_core.specs.declared.event.Event.{Event}
use Rattle.pool_core.specs.declared.event.Event.TheVariants as event
use Rattle.pool_core.specs.Machine.{State, first, standing_in, replay, IsHistory, IsPossible, after, with_lost, open_ticket}
use Rattle.pool_core.specs.Kept.{IsSoundState, IsOpenTicket}
use Rattle.pool_core.specs.Laws.{job_of, grabbed_jobs, is_report_of, times_reported, JobsAreBookedOnce}
use Rattle.pool_core.proofs.Tables.{standing_given}
use Rattle.pool_core.proofs.Sound.{sound_after}
use Rattle.pool_core.proofs.Sums.{one_if, open_neither}
use Rattle.pool_core.proofs.Lasting.{standing_from, sound_first}

got_other : {X : Type 0} (xs : List X) (i : ℕ) (y : X) (k : ℕ) → k ≢ i → slice_get (set xs i y) k ≡ slice_get xs k
got_other [] i y k other = refl
got_other (x ∷ xs) zero y zero other = absurd (other refl)
got_other (x ∷ xs) zero y (suc k) other = refl
got_other (x ∷ xs) (suc i) y zero other = refl
got_other (x ∷ xs) (suc i) y (suc k) other = got_other xs i y k (λ e. other (ap suc e))

-- a write of one standing leaves the others
pub standing_other : (standings : List Standing) (j : ℕ) (y : Standing) (k : ℕ) → 0 < j → k ≢ j → standing_in (set standings (j - 1) y) k ≡ standing_in standings k
standing_other standings j y k from_one other = by (k == 0) refl
  where
    by : (b : Bool) → (k == 0) ≡ b → cond b None (slice_get (set standings (j - 1) y) (k - 1)) ≡ cond b None (slice_get standings (k - 1))
    by true e = refl
    by false e = let some : 0 < k = grind (arith, nat_tests) in got_other standings (j - 1) y (k - 1) (λ f. other (omega (arith, from_one, some, f)))

pub standing_written : (standings : List Standing) (j : ℕ) (y : Standing) → 0 < j → j ≤ length standings → standing_in (set standings (j - 1) y) j ≡ Some y
standing_written standings j y from_one given =
    standing_from (set standings (j - 1) y) j y standing.Running from_one (omega (arith, given, length-set standings (j - 1) y)) (get_or-set_at standings (j - 1) (j - 1) y standing.Running refl (omega (arith, from_one, given)))

times_none : (o : Option Standing) (x : Standing) → o ≡ Some x → is_reported x ≡ false → times_reported o ≡ 0
times_none o x e h = ap times_reported e ∙ ap (λ (b : Bool). cond b 1 0) h

got_pushed : (xs : List Standing) (i : ℕ) → times_reported (slice_get (xs ++ standing.Running ∷ []) i) ≡ times_reported (slice_get xs i)
got_pushed [] zero = refl
got_pushed [] (suc i) = refl
got_pushed (x ∷ xs) zero = refl
got_pushed (x ∷ xs) (suc i) = got_pushed xs i

-- a new job is not reported
times_pushed : (standings : List Standing) (k : ℕ) → times_reported (standing_in (standings ++ standing.Running ∷ []) k) ≡ times_reported (standing_in standings k)
times_pushed standings k = by (k == 0)
  where
    by : (b : Bool) → times_reported (cond b None (slice_get (standings ++ standing.Running ∷ []) (k - 1))) ≡ times_reported (cond b None (slice_get standings (k - 1)))
    by true = refl
    by false = got_pushed standings (k - 1)

-- a job that is not reported, before and after a write
times_same : (standings : List Standing) (j : ℕ) (x y : Standing) (k : ℕ) → standing_in standings j ≡ Some x → is_reported x ≡ false → is_reported y ≡ false
    → times_reported (standing_in (set standings (j - 1) y) k) ≡ times_reported (standing_in standings k)
times_same standings j x y k here not_x not_y = by (k == j) refl
  where
    by : (b : Bool) → (k == j) ≡ b → times_reported (standing_in (set standings (j - 1) y) k) ≡ times_reported (standing_in standings k)
    by true e =
        let t = standing_given standings j x standing.Running here in
        subst (λ (n : ℕ). times_reported (standing_in (set standings (j - 1) y) n) ≡ times_reported (standing_in standings n)) (sym (eqb-true k j e))
        (times_none (standing_in (set standings (j - 1) y) j) y (standing_written standings j y t.0 t.1) not_y ∙ sym (times_none (standing_in standings j) x here not_x))
    by false e = ap times_reported (standing_other standings j y k (standing_given standings j x standing.Running here).0 (λ f. false≢true (sym e ∙ eq-eqb k j f)))

-- a job that comes to be reported
times_once : (standings : List Standing) (j : ℕ) (x y : Standing) (k : ℕ) → standing_in standings j ≡ Some x → is_reported x ≡ false → is_reported y ≡ true
    → times_reported (standing_in (set standings (j - 1) y) k) ≡ times_reported (standing_in standings k) + cond (j == k) 1 0
times_once standings j x y k here not_x is_y = by (j == k) refl
  where
    by : (b : Bool) → (j == k) ≡ b → times_reported (standing_in (set standings (j - 1) y) k) ≡ times_reported (standing_in standings k) + cond b 1 0
    by true e =
        let t = standing_given standings j x standing.Running here in
        let one : times_reported (standing_in (set standings (j - 1) y) j) ≡ 1 = ap times_reported (standing_written standings j y t.0 t.1) ∙ ap (λ (b : Bool). cond b 1 0) is_y in
        subst (λ (n : ℕ). times_reported (standing_in (set standings (j - 1) y) n) ≡ times_reported (standing_in standings n) + 1) (eqb-true j k e)
        (omega (arith, one, times_none (standing_in standings j) x here not_x))
    by false e =
        let t = standing_given standings j x standing.Running here in
        let same = ap times_reported (standing_other standings j y k t.0 (λ f. false≢true (sym e ∙ eq-eqb j k (sym f)))) in
        omega (arith, same)

lost_same : (standings : List Standing) (o : Option ℕ) (w : WorkerName) (cause : Cause) → ((k : ℕ) → o ≡ Some k → IsOpenTicket standings k) → (k : ℕ)
    → times_reported (standing_in (with_lost standings o w cause) k) ≡ times_reported (standing_in standings k)
lost_same standings None w cause h k = refl
lost_same standings (Some j) w cause h k =
    let t = h j refl in
    let x = get_or standings (j - 1) standing.Running in
    times_same standings j x (standing.Lost w cause) k (standing_from standings j x standing.Running t.from_one t.given refl) (open_neither x t.goes_on).0 refl

reports_after : (settings : Settings) (e : Event) (state : State) → IsSoundState settings state → IsPossible settings e state → (k : ℕ)
    → times_reported (standing_in (after settings e state).standings k) ≡ times_reported (standing_in state.standings k) + one_if (is_report_of k) e
reports_after settings (event.Join slot) state h p k = omega arith
reports_after settings (event.Load load) state h p k = omega arith
reports_after settings (event.Round (answers.Planned plan backlog short)) state h p k = omega arith
reports_after settings (event.Round (answers.NoPlan short)) state h p k = omega arith
reports_after settings (event.Grab worker handle function now) state h p k = omega (arith, times_pushed state.standings k)
reports_after settings (event.Begin worker ticket) state h p k = omega (arith, times_same state.standings ticket standing.Running standing.Reporting k p.2 refl refl)
reports_after settings (event.Reported worker ticket end) state h p k = times_once state.standings ticket standing.Reporting (standing.Reported end) k p.2 refl refl
reports_after settings (event.Lost worker cause) state h p k = omega (arith, lost_same state.standings (open_ticket state worker) worker cause (λ j e. h.tickets worker.slot j e) k)

reports_replayed : (settings : Settings) → AreSettings settings → (events : List Event) (state : State) → IsSoundState settings state → IsHistory settings state events → (k : ℕ)
    → times_reported (standing_in (replay settings state events).standings k) ≡ times_reported (standing_in state.standings k) + count_by (is_report_of k) events
reports_replayed settings r [] state h p k = omega arith
reports_replayed settings r (e ∷ events) state h p k =
    let later = reports_replayed settings r events (after settings e state) (sound_after settings e state r h p.0) p.1 k in
    omega (arith, later, reports_after settings e state h p.0 k, sum_by-cons (one_if (is_report_of k)) e events)

jobs_after : (settings : Settings) (e : Event) (state : State) → (after settings e state).jobs ≡ state.jobs ++ grabbed_jobs (e ∷ [])
jobs_after settings (event.Join slot) state = sym (append-nil state.jobs)
jobs_after settings (event.Load load) state = sym (append-nil state.jobs)
jobs_after settings (event.Round (answers.Planned plan backlog short)) state = sym (append-nil state.jobs)
jobs_after settings (event.Round (answers.NoPlan short)) state = sym (append-nil state.jobs)
jobs_after settings (event.Grab worker handle function now) state = refl
jobs_after settings (event.Begin worker ticket) state = sym (append-nil state.jobs)
jobs_after settings (event.Reported worker ticket end) state = sym (append-nil state.jobs)
jobs_after settings (event.Lost worker cause) state = sym (append-nil state.jobs)

jobs_replayed : (settings : Settings) (events : List Event) (state : State) → (replay settings state events).jobs ≡ state.jobs ++ grabbed_jobs events
jobs_replayed settings [] state = sym (append-nil state.jobs)
jobs_replayed settings (e ∷ events) state =
    jobs_replayed settings events (after settings e state)
    ∙ ap (λ (xs : List Job). xs ++ grabbed_jobs events) (jobs_after settings e state)
    ∙ append_assoc state.jobs (grabbed_jobs (e ∷ [])) (grabbed_jobs events)
    ∙ ap (λ (xs : List Job). state.jobs ++ xs) (sym (filter_map-append job_of (e ∷ []) events))

none_given : (k : ℕ) → times_reported (standing_in [] k) ≡ 0
none_given k = by (k == 0)
  where
    by : (b : Bool) → times_reported (cond b None (slice_get [] (k - 1))) ≡ 0
    by true = refl
    by false = refl

pub jobs_are_booked_once_lem : JobsAreBookedOnce
jobs_are_booked_once_lem settings r events h =
    record {
      jobs = jobs_replayed settings events (first settings);
      reports = λ k. omega (arith, reports_replayed settings r events (first settings) (sound_first settings r) h k, none_given k);
    }
