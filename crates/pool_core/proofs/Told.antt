-- Each job that is reported or lost, and the event that says so.
use Rattle.std.proofs.Common.{◌≡◌, ℕ, ◌-◌, ◌<◌, ◌≤◌, true, false, List, [], ◌∷◌, ◌++◌, length, get_or, Option, None, Some, inl, inr, refl, sym, ap, subst, ◌∙◌, arith, append_assoc, append-nil}
use Rattle.std.specs.Prelude.{count_by, slice_get}
use Rattle.std.proofs.lemmas.List.Elements.{filter_map-append}
use Rattle.std.proofs.lemmas.Bool.{false≢true}
use Rattle.pool_settings.specs.Settings.{Settings}
use Rattle.plan_model.specs.declared.answer.Answer.TheVariants as answers
use Rattle.worker_state.specs.declared.slot.WorkerName.{WorkerName}
use Rattle.worker_state.specs.declared.cause.Cause.{Cause}
use Rattle.worker_state.specs.declared.job.EndKind.{EndKind}
use Rattle.worker_state.specs.declared.job.Standing.{Standing}
use Rattle.worker_state.specs.declared.job.Standing.TheVariants as standing
use Rattle.worker_state.specs.Slots.{is_open}
use Rattle.pool_core.specs.declared.event.Event.{Event}
use Rattle.pool_core.specs.declared.event.Event.TheVariants as event
use Rattle.pool_core.specs.Machine.{State, first, slot_in, standing_in, is_live_in, replay, IsHistory, IsPossible, after, with_lost, open_ticket}
use Rattle.pool_core.specs.Kept.{IsSoundState}
use Rattle.pool_core.specs.Laws.{grabber_of, grabbers, is_report_of, times_reported, Happened, IsReportedByGrabber, IsAccountedFor, JobsAreAccountedFor}
use Rattle.pool_core.proofs.Tables.{standing_given, open_is}
use Rattle.pool_core.proofs.Sound.{generation_last}
use Rattle.pool_core.proofs.Lasting.{standing_from, histories_are_sound_lem}
use Rattle.pool_core.proofs.Booked.{jobs_are_booked_once_lem}
use Rattle.pool_core.proofs.Grabbers.{AreGrabbed, got_prefix, stood, closed_pushed, grabbed_after, grabbed_all, grabbed_first, held_by_grabber}

-- each reported job and each lost one has its event
record AreTold (past : List Event) (state : State) : Type 0 where
  reported : (k : ℕ) (end : EndKind) → standing_in state.standings k ≡ Some (standing.Reported end) → IsReportedByGrabber past k end
  lost : (k : ℕ) (w : WorkerName) (cause : Cause) → standing_in state.standings k ≡ Some (standing.Lost w cause) → Happened (event.Lost w cause) past

happened_more : (e : Event) (past : List Event) (next : Event) → Happened e past → Happened e (past ++ next ∷ [])
happened_more e past next (earlier, later, is) =
    (earlier, later ++ next ∷ [], ap (λ (es : List Event). es ++ next ∷ []) is ∙ append_assoc earlier (e ∷ later) (next ∷ []))

got_more : (past : List Event) (next : Event) (i : ℕ) (w : WorkerName) → slice_get (grabbers past) i ≡ Some w → slice_get (grabbers (past ++ next ∷ [])) i ≡ Some w
got_more past next i w got =
    ap (λ (ws : List WorkerName). slice_get ws i) (filter_map-append grabber_of past (next ∷ [])) ∙ got_prefix (grabbers past) (grabbers (next ∷ [])) i w got

reported_more : (past : List Event) (next : Event) (k : ℕ) (end : EndKind) → IsReportedByGrabber past k end → IsReportedByGrabber (past ++ next ∷ []) k end
reported_more past next k end (w, got, there) = (w, got_more past next (k - 1) w got, happened_more (event.Reported w k end) past next there)

-- an event that closes no job
told_more : (past : List Event) (e : Event) (old new : State) → AreTold past old
    → ((k : ℕ) (x : Standing) → is_open x ≡ false → standing_in new.standings k ≡ Some x → standing_in old.standings k ≡ Some x)
    → AreTold (past ++ e ∷ []) new
told_more past e old new h same =
    record {
      reported = λ k end is. reported_more past e k end (h.reported k end (same k (standing.Reported end) refl is));
      lost = λ k w cause is. happened_more (event.Lost w cause) past e (h.lost k w cause (same k (standing.Lost w cause) refl is));
    }

-- the worker that has the open ticket is the one that grabbed it
own_grabber : (by : List WorkerName) (state : State) (w : WorkerName) (j : ℕ) → AreGrabbed by state → is_live_in state w ≡ true → open_ticket state w ≡ Some j → slice_get by (j - 1) ≡ Some w
own_grabber by state w j g live o =
    g.own w.slot j o ∙ ap (λ (n : ℕ). let u : Option WorkerName = Some (record { slot = w.slot; generation = n }) in u) (generation_last (slot_in state.slots w.slot) w.generation live)

told_reported : (settings : Settings) (past : List Event) (state : State) (w : WorkerName) (j : ℕ) (end : EndKind) → AreTold past state → AreGrabbed (grabbers past) state → IsPossible settings (event.Reported w j end) state
    → AreTold (past ++ event.Reported w j end ∷ []) (after settings (event.Reported w j end) state)
told_reported settings past state w j end h g p =
    let all = past ++ event.Reported w j end ∷ [] in
    let here : IsReportedByGrabber all j end =
    (w, got_more past (event.Reported w j end) (j - 1) w (own_grabber (grabbers past) state w j g p.0 (open_is (open_ticket state w) j p.1)), (past, [], refl)) in
    record {
      reported = λ k last is. elim (stood state.standings (j - 1) (standing.Reported end) k (standing.Reported last) is) [
        | inl t ↦
            let from_one = (standing_given (after settings (event.Reported w j end) state).standings k (standing.Reported last) standing.Running is).0 in
            let given = (standing_given state.standings j standing.Reporting standing.Running p.2).0 in
            let same : k ≡ j = omega (arith, t.0, from_one, given) in
            let ends : last ≡ end = let e = t.1 in cc in
            subst (λ (n : ℕ). IsReportedByGrabber all n last) (sym same) (subst (λ (x : EndKind). IsReportedByGrabber all j x) (sym ends) here)
        | inr t ↦ reported_more past (event.Reported w j end) k last (h.reported k last t)
      ];
      lost = λ k v cause is. elim (stood state.standings (j - 1) (standing.Reported end) k (standing.Lost v cause) is) [
        | inl t ↦ absurd (let e = t.1 in cc)
        | inr t ↦ happened_more (event.Lost v cause) past (event.Reported w j end) (h.lost k v cause t)
      ];
    }

told_lost : (past : List Event) (standings : List Standing) (o : Option ℕ) (w : WorkerName) (cause : Cause)
    → ((k : ℕ) (v : WorkerName) (c : Cause) → standing_in standings k ≡ Some (standing.Lost v c) → Happened (event.Lost v c) past)
    → (k : ℕ) (v : WorkerName) (c : Cause) → standing_in (with_lost standings o w cause) k ≡ Some (standing.Lost v c) → Happened (event.Lost v c) (past ++ event.Lost w cause ∷ [])
told_lost past standings None w cause lost k v c is = happened_more (event.Lost v c) past (event.Lost w cause) (lost k v c is)
told_lost past standings (Some j) w cause lost k v c is =
    let all = past ++ event.Lost w cause ∷ [] in
    elim (stood standings (j - 1) (standing.Lost w cause) k (standing.Lost v c) is) [
      | inl t ↦
          let same : v ≡ w = let e = t.1 in cc in
          let why : c ≡ cause = let e = t.1 in cc in
          subst (λ (u : WorkerName). Happened (event.Lost u c) all) (sym same) (subst (λ (z : Cause). Happened (event.Lost w z) all) (sym why) (past, [], refl))
      | inr t ↦ happened_more (event.Lost v c) past (event.Lost w cause) (lost k v c t)
    ]

reported_stays : (standings : List Standing) (o : Option ℕ) (w : WorkerName) (cause : Cause) (k : ℕ) (end : EndKind)
    → standing_in (with_lost standings o w cause) k ≡ Some (standing.Reported end) → standing_in standings k ≡ Some (standing.Reported end)
reported_stays standings None w cause k end is = is
reported_stays standings (Some j) w cause k end is =
    elim (stood standings (j - 1) (standing.Lost w cause) k (standing.Reported end) is) [ inl t ↦ absurd (let e = t.1 in cc) | inr t ↦ t ]

told_after : (settings : Settings) (e : Event) (past : List Event) (state : State) → AreTold past state → AreGrabbed (grabbers past) state → IsPossible settings e state → AreTold (past ++ e ∷ []) (after settings e state)
told_after settings (event.Join slot) past state h g p = told_more past (event.Join slot) state (after settings (event.Join slot) state) h (λ k x closed is. is)
told_after settings (event.Load load) past state h g p = told_more past (event.Load load) state (after settings (event.Load load) state) h (λ k x closed is. is)
told_after settings (event.Round (answers.Planned plan backlog short)) past state h g p =
    told_more past (event.Round (answers.Planned plan backlog short)) state (after settings (event.Round (answers.Planned plan backlog short)) state) h (λ k x closed is. is)
told_after settings (event.Round (answers.NoPlan short)) past state h g p =
    told_more past (event.Round (answers.NoPlan short)) state (after settings (event.Round (answers.NoPlan short)) state) h (λ k x closed is. is)
told_after settings (event.Grab worker handle function now) past state h g p =
    told_more past (event.Grab worker handle function now) state (after settings (event.Grab worker handle function now) state) h (λ k x closed is. closed_pushed state.standings k x closed is)
told_after settings (event.Begin worker ticket) past state h g p =
    told_more past (event.Begin worker ticket) state (after settings (event.Begin worker ticket) state) h
    (λ k x closed is. elim (stood state.standings (ticket - 1) standing.Reporting k x is) [ inl t ↦ absurd (false≢true (sym closed ∙ ap is_open t.1)) | inr t ↦ t ])
told_after settings (event.Reported worker ticket end) past state h g p = told_reported settings past state worker ticket end h g p
told_after settings (event.Lost worker cause) past state h g p =
    record {
      reported = λ k end is. reported_more past (event.Lost worker cause) k end (h.reported k end (reported_stays state.standings (open_ticket state worker) worker cause k end is));
      lost = told_lost past state.standings (open_ticket state worker) worker cause h.lost;
    }

told_all : (settings : Settings) (events past : List Event) (state : State) → AreTold past state → AreGrabbed (grabbers past) state → IsHistory settings state events → AreTold (past ++ events) (replay settings state events)
told_all settings [] past state h g p = subst (λ (es : List Event). AreTold es state) (sym (append-nil past)) h
told_all settings (e ∷ events) past state h g p =
    subst (λ (es : List Event). AreTold es (replay settings (after settings e state) events)) (append_assoc past (e ∷ []) events)
    (told_all settings events (past ++ e ∷ []) (after settings e state) (told_after settings e past state h g p.0)
    (subst (λ (ws : List WorkerName). AreGrabbed ws (after settings e state)) (sym (filter_map-append grabber_of past (e ∷ []))) (grabbed_after settings e (grabbers past) state g p.0)) p.1)

told_first : (settings : Settings) → AreTold [] (first settings)
told_first settings =
    record {
      reported = λ k end is. absurd (let t = standing_given [] k (standing.Reported end) standing.Running is in omega (arith, t.0, t.1));
      lost = λ k w cause is. absurd (let t = standing_given [] k (standing.Lost w cause) standing.Running is in omega (arith, t.0, t.1));
    }

accounted : (settings : Settings) (events : List Event) (state : State) (k : ℕ) (x : Standing) → IsSoundState settings state → AreGrabbed (grabbers events) state → AreTold events state
    → 0 < k → k ≤ length state.standings → standing_in state.standings k ≡ Some x → count_by (is_report_of k) events ≡ times_reported (Some x) → IsAccountedFor events state k x
accounted settings events state k standing.Running sound g told from_one given is count =
    (held_by_grabber settings events state k sound g (record { from_one = from_one; given = given; goes_on = ap is_open (standing_given state.standings k standing.Running standing.Running is).2 }), count)
accounted settings events state k standing.Reporting sound g told from_one given is count =
    (held_by_grabber settings events state k sound g (record { from_one = from_one; given = given; goes_on = ap is_open (standing_given state.standings k standing.Reporting standing.Running is).2 }), count)
accounted settings events state k (standing.Reported end) sound g told from_one given is count = (told.reported k end is, count)
accounted settings events state k (standing.Lost worker cause) sound g told from_one given is count = (g.lost k worker cause is, told.lost k worker cause is, count)

pub jobs_are_accounted_for_lem : JobsAreAccountedFor
jobs_are_accounted_for_lem settings r events h k from_one given =
    let state = replay settings (first settings) events in
    let sound = histories_are_sound_lem settings r events h in
    let booked = jobs_are_booked_once_lem settings r events h in
    let g = grabbed_all settings events [] (first settings) (grabbed_first settings) h in
    let told = told_all settings events [] (first settings) (told_first settings) (grabbed_first settings) h in
    let there : k ≤ length state.standings = omega (arith, given, ap length booked.jobs, sound.jobs) in
    let x = get_or state.standings (k - 1) standing.Running in
    let is = standing_from state.standings k x standing.Running from_one there refl in
    (x, is, accounted settings events state k x sound g told from_one there is (booked.reports k ∙ ap times_reported is))
