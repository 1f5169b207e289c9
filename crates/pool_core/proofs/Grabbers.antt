-- Each job that goes on or is lost does so with the worker that grabbed it.
use Rattle.std.proofs.Common.{◌≡◌, ◌≢◌, ℕ, ◌+◌, ◌-◌, ◌<◌, ◌≤◌, zero, suc, Bool, true, false, List, [], ◌∷◌, ◌++◌, length, get_or, set, Option, None, Some, ◌⊎◌, inl, inr, refl, sym, ap, ◌∙◌, subst, arith, append_assoc, append-nil, length-append, length-set}
use Rattle.std.specs.Prelude.{slice_get, ◌==◌}
use Rattle.std.proofs.lemmas.List.{get_or-set_other, get_or_append_left}
use Rattle.std.proofs.lemmas.List.Elements.{filter_map-append}
use Rattle.std.proofs.lemmas.Grind.{get_or-set_at}
use Rattle.std.proofs.lemmas.Bool.{eqb-true, eq-eqb, false≢true}
use Rattle.pool_settings.specs.Settings.{Settings}
use Rattle.plan_model.specs.declared.answer.Answer.TheVariants as answers
use Rattle.worker_state.specs.declared.slot.Slot.{Slot}
use Rattle.worker_state.specs.declared.slot.Slot.TheVariants.{Empty, Live}
use Rattle.worker_state.specs.declared.slot.WorkerName.{WorkerName}
use Rattle.worker_state.specs.declared.cause.Cause.{Cause}
use Rattle.worker_state.specs.declared.job.EndKind.{EndKind}
use Rattle.worker_state.specs.declared.job.Standing.{Standing}
use Rattle.worker_state.specs.declared.job.Standing.TheVariants as standing
use Rattle.worker_state.specs.Slots.{has_generation, last_generation, held_ticket, run_count, is_open}
use Rattle.pool_core.specs.declared.event.Event.{Event}
use Rattle.pool_core.specs.declared.event.Event.TheVariants as event
use Rattle.pool_core.specs.Machine.{State, first, slot_in, standing_in, replay, IsHistory, IsPossible, after, with_lost, open_ticket, slot_after_run}
use Rattle.pool_core.specs.Kept.{OpensAt, IsOpenTicket, IsSoundState}
use Rattle.pool_core.specs.Laws.{grabber_of, grabbers, IsHeldByGrabber, JobsAreLostWithTheirWorkers}
use Rattle.pool_core.proofs.Tables.{standing_given, opens_elsewhere, opens_here}
use Rattle.pool_core.proofs.Sound.{generation_last, worker_within, run_none}
use Rattle.pool_core.proofs.Lasting.{standing_from, length-with_lost, none_open}

-- the worker that a slot with this content had last
abbrev pub named : ℕ → Slot → WorkerName
named s x = record { slot = s; generation = last_generation x }

-- the job of each open ticket was grabbed by the worker that has it, and each lost job by the worker that is named
pub record AreGrabbed (by : List WorkerName) (state : State) : Type 0 where
  pub many : length by ≡ length state.standings
  pub own : (s k : ℕ) → OpensAt state.slots s k → slice_get by (k - 1) ≡ Some (named s (get_or state.slots s (Empty 0)))
  pub lost : (k : ℕ) (w : WorkerName) (cause : Cause) → standing_in state.standings k ≡ Some (standing.Lost w cause) → slice_get by (k - 1) ≡ Some w

pub got_prefix : {X : Type 0} (xs ys : List X) (i : ℕ) (x : X) → slice_get xs i ≡ Some x → slice_get (xs ++ ys) i ≡ Some x
got_prefix [] ys i x h = absurd (cc)
got_prefix (y ∷ xs) ys zero x h = h
got_prefix (y ∷ xs) ys (suc i) x h = got_prefix xs ys i x h

got_last : {X : Type 0} (xs : List X) (y : X) (i : ℕ) → i ≡ length xs → slice_get (xs ++ y ∷ []) i ≡ Some y
got_last [] y zero e = refl
got_last [] y (suc i) e = absurd (omega arith)
got_last (x ∷ xs) y zero e = absurd (omega arith)
got_last (x ∷ xs) y (suc i) e = got_last xs y i (omega (arith, e))

-- after a slot was written without a ticket
own_beside : (by : List WorkerName) (slots : List Slot) (i : ℕ) (x : Slot) → i < length slots → held_ticket x ≡ None
    → ((s k : ℕ) → OpensAt slots s k → slice_get by (k - 1) ≡ Some (named s (get_or slots s (Empty 0))))
    → (s k : ℕ) → OpensAt (set slots i x) s k → slice_get by (k - 1) ≡ Some (named s (get_or (set slots i x) s (Empty 0)))
own_beside by slots i x within none own s k o =
    let t = opens_elsewhere slots i x s k within none o in
    own s k t.1 ∙ ap (λ (y : Slot). Some (named s y)) (sym (get_or-set_other slots i s x (Empty 0) t.0))

-- how a ticket stands after one standing was written: by that, or as before
pub stood : (standings : List Standing) (i : ℕ) (y : Standing) (k : ℕ) (x : Standing) → standing_in (set standings i y) k ≡ Some x
    → ((k - 1 ≡ i) × (x ≡ y)) ⊎ (standing_in standings k ≡ Some x)
stood standings i y k x is = by (k - 1 == i) refl
  where
    by : (b : Bool) → (k - 1 == i) ≡ b → ((k - 1 ≡ i) × (x ≡ y)) ⊎ (standing_in standings k ≡ Some x)
    by true e =
        let t = standing_given (set standings i y) k x standing.Running is in
        let here : k - 1 ≡ i = eqb-true (k - 1) i e in
        inl (here, sym t.2 ∙ get_or-set_at standings i (k - 1) y standing.Running here (omega (arith, here, t.0, t.1, length-set standings i y)))
    by false e =
        let t = standing_given (set standings i y) k x standing.Running is in
        inr (standing_from standings k x standing.Running t.0 (omega (arith, t.1, length-set standings i y)) (sym (get_or-set_other standings i (k - 1) y standing.Running (λ f. false≢true (sym e ∙ eq-eqb (k - 1) i f))) ∙ t.2))

-- a job that is closed, among those with a new one, was closed before
pub closed_pushed : (standings : List Standing) (k : ℕ) (x : Standing) → is_open x ≡ false → standing_in (standings ++ standing.Running ∷ []) k ≡ Some x → standing_in standings k ≡ Some x
closed_pushed standings k x closed is = by (k - 1 == length standings) refl
  where
    by : (b : Bool) → (k - 1 == length standings) ≡ b → standing_in standings k ≡ Some x
    by true e =
        let t = standing_given (standings ++ standing.Running ∷ []) k x standing.Reporting is in
        let other : get_or (standings ++ standing.Running ∷ []) (length standings) standing.Reporting ≡ standing.Running = at_end standings in
        let same = sym (ap (λ (n : ℕ). get_or (standings ++ standing.Running ∷ []) n standing.Reporting) (eqb-true (k - 1) (length standings) e)) ∙ t.2 in
        absurd (false≢true (sym closed ∙ ap is_open (sym same ∙ other)))
      where
        at_end : (xs : List Standing) → get_or (xs ++ standing.Running ∷ []) (length xs) standing.Reporting ≡ standing.Running
        at_end [] = refl
        at_end (x ∷ xs) = at_end xs
    by false e =
        let t = standing_given (standings ++ standing.Running ∷ []) k x standing.Running is in
        let other : k - 1 ≢ length standings = λ f. false≢true (sym e ∙ eq-eqb (k - 1) (length standings) f) in
        let given : k ≤ length standings = omega (arith, t.0, t.1, other, length-append standings (standing.Running ∷ [])) in
        standing_from standings k x standing.Running t.0 given (sym (get_or_append_left standings (standing.Running ∷ []) standing.Running (k - 1) (omega (arith, t.0, given))) ∙ t.2)

grabbed_join : (settings : Settings) (by : List WorkerName) (state : State) (slot : ℕ) → AreGrabbed by state → IsPossible settings (event.Join slot) state → AreGrabbed by (after settings (event.Join slot) state)
grabbed_join settings by state slot g p =
    record { many = g.many; own = own_beside by state.slots slot (Live (last_generation (slot_in state.slots slot) + 1) 0 None) p.0 refl g.own; lost = g.lost }

grabbed_grab : (settings : Settings) (by : List WorkerName) (state : State) (w : WorkerName) (handle function : List ℕ) (now : ℕ) → AreGrabbed by state → IsPossible settings (event.Grab w handle function now) state
    → AreGrabbed (by ++ w ∷ []) (after settings (event.Grab w handle function now) state)
grabbed_grab settings by state w handle function now g p =
    let new = Live w.generation (run_count (slot_in state.slots w.slot)) (Some (length state.standings + 1)) in
    record {
      many = omega (arith, g.many, length-append by (w ∷ []), length-append state.standings (standing.Running ∷ []));
      own = λ s k o. elim (opens_here state.slots w.slot new s k o) [
        | inl t ↦
            let next : length state.standings + 1 ≡ k = let e = t.1 in cc in
            got_last by w (k - 1) (omega (arith, next, g.many))
            ∙ subst (λ (n : ℕ). Some w ≡ Some (named n (get_or (set state.slots w.slot new) n (Empty 0)))) (sym t.0)
            (ap (λ (x : Slot). Some (named w.slot x)) (sym (get_or-set_at state.slots w.slot w.slot new (Empty 0) refl (worker_within state w p.0))))
        | inr t ↦
            got_prefix by (w ∷ []) (k - 1) (named s (get_or state.slots s (Empty 0))) (g.own s k t.1)
            ∙ ap (λ (x : Slot). Some (named s x)) (sym (get_or-set_other state.slots w.slot s new (Empty 0) t.0))
      ];
      lost = λ k v cause is. got_prefix by (w ∷ []) (k - 1) v (g.lost k v cause (closed_pushed state.standings k (standing.Lost v cause) refl is));
    }

grabbed_begin : (settings : Settings) (by : List WorkerName) (state : State) (w : WorkerName) (j : ℕ) → AreGrabbed by state → AreGrabbed by (after settings (event.Begin w j) state)
grabbed_begin settings by state w j g =
    record {
      many = g.many ∙ sym (length-set state.standings (j - 1) standing.Reporting);
      own = g.own;
      lost = λ k v cause is. elim (stood state.standings (j - 1) standing.Reporting k (standing.Lost v cause) is) [ inl t ↦ absurd (let e = t.1 in cc) | inr t ↦ g.lost k v cause t ];
    }

grabbed_reported : (settings : Settings) (by : List WorkerName) (state : State) (w : WorkerName) (j : ℕ) (end : EndKind) → AreGrabbed by state → IsPossible settings (event.Reported w j end) state → AreGrabbed by (after settings (event.Reported w j end) state)
grabbed_reported settings by state w j end g p =
    record {
      many = g.many ∙ sym (length-set state.standings (j - 1) (standing.Reported end));
      own = own_beside by state.slots w.slot (slot_after_run settings w.generation (run_count (slot_in state.slots w.slot))) (worker_within state w p.0) (run_none settings w.generation (run_count (slot_in state.slots w.slot))) g.own;
      lost = λ k v cause is. elim (stood state.standings (j - 1) (standing.Reported end) k (standing.Lost v cause) is) [ inl t ↦ absurd (let e = t.1 in cc) | inr t ↦ g.lost k v cause t ];
    }

-- the worker that is lost is the one that grabbed the job that it had
lost_named : (by : List WorkerName) (standings : List Standing) (o : Option ℕ) (w : WorkerName) (cause : Cause)
    → ((k : ℕ) (v : WorkerName) (c : Cause) → standing_in standings k ≡ Some (standing.Lost v c) → slice_get by (k - 1) ≡ Some v)
    → ((j : ℕ) → o ≡ Some j → slice_get by (j - 1) ≡ Some w)
    → (k : ℕ) (v : WorkerName) (c : Cause) → standing_in (with_lost standings o w cause) k ≡ Some (standing.Lost v c) → slice_get by (k - 1) ≡ Some v
lost_named by standings None w cause lost own k v c is = lost k v c is
lost_named by standings (Some j) w cause lost own k v c is =
    elim (stood standings (j - 1) (standing.Lost w cause) k (standing.Lost v c) is) [
      | inl t ↦
          let same : v ≡ w = let e = t.1 in cc in
          ap (slice_get by) t.0 ∙ own j refl ∙ ap (λ (u : WorkerName). let o : Option WorkerName = Some u in o) (sym same)
      | inr t ↦ lost k v c t
    ]

grabbed_lost : (settings : Settings) (by : List WorkerName) (state : State) (w : WorkerName) (cause : Cause) → AreGrabbed by state → IsPossible settings (event.Lost w cause) state → AreGrabbed by (after settings (event.Lost w cause) state)
grabbed_lost settings by state w cause g p =
    record {
      many = g.many ∙ sym (length-with_lost state.standings (open_ticket state w) w cause);
      own = own_beside by state.slots w.slot (Empty w.generation) (worker_within state w p) refl g.own;
      lost = lost_named by state.standings (open_ticket state w) w cause g.lost (λ j e. g.own w.slot j e ∙ ap (λ (n : ℕ). let o : Option WorkerName = Some (record { slot = w.slot; generation = n }) in o) (generation_last (slot_in state.slots w.slot) w.generation p));
    }

same_by : (by : List WorkerName) (state : State) → AreGrabbed by state → AreGrabbed (by ++ []) state
same_by by state g = subst (λ (ws : List WorkerName). AreGrabbed ws state) (sym (append-nil by)) g

pub grabbed_after : (settings : Settings) (e : Event) (by : List WorkerName) (state : State) → AreGrabbed by state → IsPossible settings e state → AreGrabbed (by ++ grabbers (e ∷ [])) (after settings e state)
grabbed_after settings (event.Join slot) by state g p = same_by by (after settings (event.Join slot) state) (grabbed_join settings by state slot g p)
grabbed_after settings (event.Load load) by state g p = same_by by (after settings (event.Load load) state) (record { many = g.many; own = g.own; lost = g.lost })
grabbed_after settings (event.Round (answers.Planned plan backlog short)) by state g p = same_by by (after settings (event.Round (answers.Planned plan backlog short)) state) (record { many = g.many; own = g.own; lost = g.lost })
grabbed_after settings (event.Round (answers.NoPlan short)) by state g p = same_by by (after settings (event.Round (answers.NoPlan short)) state) (record { many = g.many; own = g.own; lost = g.lost })
grabbed_after settings (event.Grab worker handle function now) by state g p = grabbed_grab settings by state worker handle function now g p
grabbed_after settings (event.Begin worker ticket) by state g p = same_by by (after settings (event.Begin worker ticket) state) (grabbed_begin settings by state worker ticket g)
grabbed_after settings (event.Reported worker ticket end) by state g p = same_by by (after settings (event.Reported worker ticket end) state) (grabbed_reported settings by state worker ticket end g p)
grabbed_after settings (event.Lost worker cause) by state g p = same_by by (after settings (event.Lost worker cause) state) (grabbed_lost settings by state worker cause g p)

pub grabbed_all : (settings : Settings) (events : List Event) (by : List WorkerName) (state : State) → AreGrabbed by state → IsHistory settings state events → AreGrabbed (by ++ grabbers events) (replay settings state events)
grabbed_all settings [] by state g h = same_by by state g
grabbed_all settings (e ∷ events) by state g h =
    subst (λ (ws : List WorkerName). AreGrabbed ws (replay settings (after settings e state) events))
    (append_assoc by (grabbers (e ∷ [])) (grabbers events) ∙ ap (λ (ws : List WorkerName). by ++ ws) (sym (filter_map-append grabber_of (e ∷ []) events)))
    (grabbed_all settings events (by ++ grabbers (e ∷ [])) (after settings e state) (grabbed_after settings e by state g h.0) h.1)

pub grabbed_first : (settings : Settings) → AreGrabbed [] (first settings)
grabbed_first settings =
    record {
      many = refl;
      own = λ s k o. absurd (none_open settings s k o);
      lost = λ k w cause is. absurd (let t = standing_given [] k (standing.Lost w cause) standing.Running is in omega (arith, t.0, t.1));
    }

pub jobs_are_lost_with_their_workers_lem : JobsAreLostWithTheirWorkers
jobs_are_lost_with_their_workers_lem settings r events h = (grabbed_all settings events [] (first settings) (grabbed_first settings) h).lost

-- a slot with an open ticket has a live worker, the one of its last generation
live_holder : (x : Slot) (k : ℕ) → held_ticket x ≡ Some k → has_generation x (last_generation x) ≡ true
live_holder (Empty last) k h = absurd (cc)
live_holder (Live generation runs ticket) k h = eq-eqb generation generation refl

pub held_by_grabber : (settings : Settings) (events : List Event) (state : State) (k : ℕ) → IsSoundState settings state → AreGrabbed (grabbers events) state → IsOpenTicket state.standings k → IsHeldByGrabber events state k
held_by_grabber settings events state k sound g o =
    let t = sound.held k o in
    (named t.0 (slot_in state.slots t.0), g.own t.0 k t.1, live_holder (slot_in state.slots t.0) k t.1, t.1)
