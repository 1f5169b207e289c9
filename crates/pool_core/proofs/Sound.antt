-- Every event keeps a state sound.
use Rattle.std.proofs.Common.{◌≡◌, ◌≢◌, ℕ, ◌+◌, ◌-◌, ◌<◌, ◌≤◌, suc, Bool, true, false, List, [], ◌∷◌, ◌++◌, length, get_or, set, Option, None, Some, inl, inr, refl, sym, ap, ◌∙◌, subst, arith, length-append, length-set}
use Rattle.std.specs.Prelude.{nat_lt, ◌==◌}
use Rattle.std.proofs.lemmas.List.{get_or-set_other, get_or_append_left, get_or-append_right}
use Rattle.std.proofs.lemmas.Grind.{get_or-set_at}
use Rattle.std.proofs.lemmas.Bool.{cond_both, ltb-true, false≢true, and_parts, eqb-true, eq-eqb}
use Rattle.std.proofs.lemmas.Bool.Decides.{nat_tests}
use Rattle.pool_settings.specs.Settings.{Settings, AreSettings}
use Rattle.plan_model.specs.declared.answer.Answer.{Answer}
use Rattle.plan_model.specs.declared.answer.Answer.TheVariants as answers
use Rattle.worker_state.specs.declared.order.Order.{Order}
use Rattle.worker_state.specs.Orders.{no_order, IsOrder}
use Rattle.pool_core.specs.declared.event.Event.{Event}
use Rattle.worker_state.specs.declared.slot.Slot.{Slot}
use Rattle.worker_state.specs.declared.slot.Slot.TheVariants.{Empty, Live}
use Rattle.worker_state.specs.declared.slot.WorkerName.{WorkerName}
use Rattle.worker_state.specs.declared.cause.Cause.{Cause}
use Rattle.worker_state.specs.declared.job.EndKind.{EndKind}
use Rattle.worker_state.specs.declared.job.Standing.{Standing}
use Rattle.worker_state.specs.declared.job.Standing.TheVariants as standing
use Rattle.worker_state.specs.Limits.{max_generation}
use Rattle.worker_state.specs.Slots.{has_generation, held_ticket, is_open, last_generation, run_count}
use Rattle.pool_core.specs.declared.event.Event.TheVariants as event
use Rattle.pool_core.specs.Machine.{State, slot_in, is_live_in, open_ticket, after, IsPossible, slot_after_run, with_lost, orders_from, after_round, input_of}
use Rattle.pool_core.specs.Kept.{OpensAt, IsOpenTicket, IsSoundState}
use Rattle.pool_core.proofs.Ranges.{ranges_after}
use Rattle.pool_core.proofs.Tables.{at_set, live_within, live_has, opens_elsewhere, opens_here, open_is, opens_still, opens_written, empty_none, holds_none, holds_one, standing_given}

-- the generation of a live worker is its slot's last
pub generation_last : (x : Slot) (g : ℕ) → has_generation x g ≡ true → last_generation x ≡ g
generation_last (Empty last) g h = absurd (false≢true h)
generation_last (Live own runs ticket) g h = grind (arith, nat_tests)

-- a job that goes on after one standing was written went on before, where that one did
open_before : (standings : List Standing) (i : ℕ) (y : Standing) (k : ℕ) → is_open (get_or standings i standing.Running) ≡ true → IsOpenTicket (set standings i y) k → IsOpenTicket standings k
open_before standings i y k goes h = record { from_one = h.from_one; given = omega (arith, length-set standings i y, h.given); goes_on = by (k - 1 == i) refl }
  where
    by : (b : Bool) → (k - 1 == i) ≡ b → is_open (get_or standings (k - 1) standing.Running) ≡ true
    by true e = ap (λ (n : ℕ). is_open (get_or standings n standing.Running)) (eqb-true (k - 1) i e) ∙ goes
    by false e = ap is_open (sym (get_or-set_other standings i (k - 1) y standing.Running (λ f. false≢true (sym e ∙ eq-eqb (k - 1) i f)))) ∙ h.goes_on

-- a job that goes on after one was closed is another one
open_other : (standings : List Standing) (j : ℕ) (y : Standing) (k : ℕ) → is_open y ≡ false → 0 < j → j ≤ length standings → IsOpenTicket (set standings (j - 1) y) k → k ≢ j
open_other standings j y k closed from_one given h e =
    false≢true (sym closed ∙ ap is_open (sym (get_or-set_at standings (j - 1) (k - 1) y standing.Running (ap (λ (n : ℕ). n - 1) e) (omega (arith, from_one, given)))) ∙ h.goes_on)

open_beside_before : (standings : List Standing) (j : ℕ) (y : Standing) (k : ℕ) → 0 < j → k ≢ j → IsOpenTicket (set standings (j - 1) y) k → IsOpenTicket standings k
open_beside_before standings j y k from_one other h =
    record {
      from_one = h.from_one;
      given = omega (arith, length-set standings (j - 1) y, h.given);
      goes_on = ap is_open (sym (get_or-set_other standings (j - 1) (k - 1) y standing.Running (λ e. other (omega (arith, h.from_one, from_one))))) ∙ h.goes_on;
    }

-- a job that goes on and is not the last one went on before that one
open_pushed_before : (standings : List Standing) (y : Standing) (k : ℕ) → k ≢ length standings + 1 → IsOpenTicket (standings ++ y ∷ []) k → IsOpenTicket standings k
open_pushed_before standings y k other h =
    let given : k ≤ length standings = omega (arith, length-append standings (y ∷ []), h.given, other) in
    record {
      from_one = h.from_one;
      given = given;
      goes_on = ap is_open (sym (get_or_append_left standings (y ∷ []) standing.Running (k - 1) (omega (arith, h.from_one, given)))) ∙ h.goes_on;
    }

-- one standing written, by one that goes on
open_stays : (standings : List Standing) (i : ℕ) (y : Standing) (k : ℕ) → is_open y ≡ true → IsOpenTicket standings k → IsOpenTicket (set standings i y) k
open_stays standings i y k goes h =
    record {
      from_one = h.from_one;
      given = omega (arith, length-set standings i y, h.given);
      goes_on = at_set (λ x. is_open x ≡ true) standings i y standing.Running (k - 1) h.goes_on goes;
    }

-- one standing written, of another ticket
open_beside : (standings : List Standing) (j : ℕ) (y : Standing) (k : ℕ) → 0 < j → k ≢ j → IsOpenTicket standings k → IsOpenTicket (set standings (j - 1) y) k
open_beside standings j y k from_one other h =
    record {
      from_one = h.from_one;
      given = omega (arith, length-set standings (j - 1) y, h.given);
      goes_on = ap is_open (get_or-set_other standings (j - 1) (k - 1) y standing.Running (λ e. other (omega (arith, h.from_one, from_one)))) ∙ h.goes_on;
    }

-- one more standing
open_pushed : (standings : List Standing) (y : Standing) (k : ℕ) → IsOpenTicket standings k → IsOpenTicket (standings ++ y ∷ []) k
open_pushed standings y k h =
    record {
      from_one = h.from_one;
      given = omega (arith, length-append standings (y ∷ []), h.given);
      goes_on = ap is_open (get_or_append_left standings (y ∷ []) standing.Running (k - 1) (omega (arith, h.from_one, h.given))) ∙ h.goes_on;
    }

pub sound_join : (settings : Settings) (state : State) (slot : ℕ) → 0 < settings.max_runs → IsSoundState settings state → IsPossible settings (event.Join slot) state → IsSoundState settings (after settings (event.Join slot) state)
sound_join settings state slot some h p =
    let last = last_generation (slot_in state.slots slot) in
    let new = Live (last + 1) 0 None in
    record {
      slots = length-set state.slots slot new ∙ h.slots;
      grab_times = h.grab_times;
      orders = length-set state.orders slot _ ∙ h.orders;
      jobs = h.jobs;
      generations = λ s. at_set (λ x. last_generation x ≤ max_generation) state.slots slot new (Empty 0) s (h.generations s) (omega (arith, p.2));
      ranges = λ s. at_set IsOrder state.orders slot _ no_order s (h.ranges s) (record { generation = omega (arith, p.2); function = tt });
      runs = λ s. at_set (λ x. run_count x < settings.max_runs) state.slots slot new (Empty 0) s (h.runs s) some;
      tickets = λ s k o. h.tickets s k (opens_elsewhere state.slots slot new s k p.0 refl o).1;
      alone = λ s t k o q. h.alone s t k (opens_elsewhere state.slots slot new s k p.0 refl o).1 (opens_elsewhere state.slots slot new t k p.0 refl q).1;
      held = λ k o.
          let t = h.held k o in
          (t.0, opens_still state.slots slot new t.0 k (holds_none state.slots slot t.0 k (empty_none (slot_in state.slots slot) p.1) t.1) t.1);
    }

pub sound_begin : (settings : Settings) (state : State) (w : WorkerName) (k : ℕ) → IsSoundState settings state → IsPossible settings (event.Begin w k) state → IsSoundState settings (after settings (event.Begin w k) state)
sound_begin settings state w k h p =
    record {
      slots = h.slots;
      grab_times = h.grab_times;
      orders = h.orders;
      jobs = h.jobs ∙ sym (length-set state.standings (k - 1) standing.Reporting);
      generations = h.generations;
      ranges = h.ranges;
      runs = h.runs;
      tickets = λ s t o. open_stays state.standings (k - 1) standing.Reporting t refl (h.tickets s t o);
      alone = h.alone;
      held = λ t o. h.held t (open_before state.standings (k - 1) standing.Reporting t (ap is_open (standing_given state.standings k standing.Running standing.Running p.2).2) o);
    }

-- runs of the worker that is there
runs_there : (settings : Settings) (state : State) → IsSoundState settings state → (slot : ℕ) → run_count (slot_in state.slots slot) < settings.max_runs
runs_there settings state h slot = h.runs slot

generation_there : (settings : Settings) (state : State) → IsSoundState settings state → (w : WorkerName) → is_live_in state w ≡ true → w.generation ≤ max_generation
generation_there settings state h w live =
    omega (arith, generation_last (slot_in state.slots w.slot) w.generation live, h.generations w.slot)

-- the worker's slot is there
pub worker_within : (state : State) (w : WorkerName) → is_live_in state w ≡ true → w.slot < length state.slots
worker_within state w live = live_within state.slots w.slot (live_has (slot_in state.slots w.slot) w.generation live)

-- a ticket that is open in one slot is another than one that is open in another
other_ticket : (settings : Settings) (state : State) → IsSoundState settings state → (s t : ℕ) (k j : ℕ) → OpensAt state.slots s k → OpensAt state.slots t j → s ≢ t → k ≢ j
other_ticket settings state h s t k j o q apart e =
    apart (h.alone s t k o (q ∙ ap (λ (n : ℕ). let o : Option ℕ = Some n in o) (sym e)))

pub sound_grab : (settings : Settings) (state : State) (w : WorkerName) (handle function : List ℕ) (now : ℕ) → IsSoundState settings state → is_live_in state w ≡ true → open_ticket state w ≡ None → IsSoundState settings (after settings (event.Grab w handle function now) state)
sound_grab settings state w handle function now h live idle =
    let next : ℕ = (length state.standings + 1) in
    let new = Live w.generation (run_count (slot_in state.slots w.slot)) (Some next) in
    let fresh : IsOpenTicket (state.standings ++ standing.Running ∷ []) next = record {
      from_one = omega arith;
      given = omega (arith, length-append state.standings (standing.Running ∷ []));
      goes_on = ap is_open (get_or-append_right state.standings (standing.Running ∷ []) (length state.standings) (length state.standings + 1 - 1) standing.Running refl (omega arith)) ∙ ap (λ n. is_open (get_or (standing.Running ∷ []) n standing.Running)) (let e : length state.standings + 1 - 1 - length state.standings ≡ 0 = omega arith in e);
    } in
    let not_given : (t : ℕ) → OpensAt state.slots t next → ⊥ = λ t o. omega (arith, (h.tickets t next o).given) in
    record {
      slots = length-set state.slots w.slot new ∙ h.slots;
      grab_times = length-set state.grab_times w.slot now ∙ h.grab_times;
      orders = h.orders;
      jobs = omega (arith, h.jobs, length-append state.jobs (record { handle = handle; function = function } ∷ []), length-append state.standings (standing.Running ∷ []));
      generations = λ s. at_set (λ x. last_generation x ≤ max_generation) state.slots w.slot new (Empty 0) s (h.generations s) (generation_there settings state h w live);
      ranges = h.ranges;
      runs = λ s. at_set (λ x. run_count x < settings.max_runs) state.slots w.slot new (Empty 0) s (h.runs s) (runs_there settings state h w.slot);
      tickets = λ s k o. elim (opens_here state.slots w.slot new s k o) [
        | inl t ↦ subst (IsOpenTicket (state.standings ++ standing.Running ∷ [])) (let e : next ≡ k = cc in e) fresh
        | inr t ↦ open_pushed state.standings standing.Running k (h.tickets s k t.1)
      ];
      alone = λ s t k o q. elim (opens_here state.slots w.slot new s k o) [
        | inl a ↦ elim (opens_here state.slots w.slot new t k q) [
          | inl b ↦ a.0 ∙ sym b.0
          | inr b ↦ absurd (not_given t (b.1 ∙ sym a.1))
        ]
        | inr a ↦ elim (opens_here state.slots w.slot new t k q) [
          | inl b ↦ absurd (not_given s (a.1 ∙ sym b.1))
          | inr b ↦ h.alone s t k a.1 b.1
        ]
      ];
      held = λ k o. held k o (k == next) refl;
    }
  where
    held : (k : ℕ) → IsOpenTicket (state.standings ++ standing.Running ∷ []) k → (b : Bool) → (k == length state.standings + 1) ≡ b
        → (s : ℕ) × OpensAt (set state.slots w.slot (Live w.generation (run_count (slot_in state.slots w.slot)) (Some (length state.standings + 1)))) s k
    held k o true e =
        let here : OpensAt (set state.slots w.slot (Live w.generation (run_count (slot_in state.slots w.slot)) (Some (length state.standings + 1)))) w.slot (length state.standings + 1) =
        opens_written state.slots w.slot _ (length state.standings + 1) (worker_within state w live) refl in
        (w.slot, subst (OpensAt (set state.slots w.slot (Live w.generation (run_count (slot_in state.slots w.slot)) (Some (length state.standings + 1)))) w.slot) (sym (eqb-true k (length state.standings + 1) e)) here)
    held k o false e =
        let t = h.held k (open_pushed_before state.standings standing.Running k (λ f. false≢true (sym e ∙ eq-eqb k (length state.standings + 1) f)) o) in
        (t.0, opens_still state.slots w.slot _ t.0 k (holds_none state.slots w.slot t.0 k idle t.1) t.1)

-- a slot that is given up, with its ticket's standing
cleared : (settings : Settings) (state : State) (slot : ℕ) (new : Slot) (k : ℕ) (y : Standing) → IsSoundState settings state → slot < length state.slots → held_ticket new ≡ None → last_generation new ≤ max_generation → run_count new < settings.max_runs → is_open y ≡ false → OpensAt state.slots slot k
    → IsSoundState settings (record state { slots = set state.slots slot new; standings = set state.standings (k - 1) y })
cleared settings state slot new k y h within none generation runs closed own =
    record {
      slots = length-set state.slots slot new ∙ h.slots;
      grab_times = h.grab_times;
      orders = h.orders;
      jobs = h.jobs ∙ sym (length-set state.standings (k - 1) y);
      generations = λ s. at_set (λ x. last_generation x ≤ max_generation) state.slots slot new (Empty 0) s (h.generations s) generation;
      ranges = h.ranges;
      runs = λ s. at_set (λ x. run_count x < settings.max_runs) state.slots slot new (Empty 0) s (h.runs s) runs;
      tickets = λ s j o.
          let e = opens_elsewhere state.slots slot new s j within none o in
          open_beside state.standings k y j (h.tickets slot k own).from_one (other_ticket settings state h s slot j k e.1 own e.0) (h.tickets s j e.1);
      alone = λ s t j o q. h.alone s t j (opens_elsewhere state.slots slot new s j within none o).1 (opens_elsewhere state.slots slot new t j within none q).1;
      held = λ j o.
          let t = h.tickets slot k own in
          let other = open_other state.standings k y j closed t.from_one t.given o in
          let u = h.held j (open_beside_before state.standings k y j t.from_one other o) in
          (u.0, opens_still state.slots slot new u.0 j (λ e. other (holds_one state.slots slot j k (subst (λ (n : ℕ). OpensAt state.slots n j) e u.1) own)) u.1);
    }

-- a slot that is given up without a ticket
cleared_idle : (settings : Settings) (state : State) (slot : ℕ) (new : Slot) → IsSoundState settings state → slot < length state.slots → held_ticket new ≡ None → last_generation new ≤ max_generation → run_count new < settings.max_runs → held_ticket (slot_in state.slots slot) ≡ None
    → IsSoundState settings (record state { slots = set state.slots slot new })
cleared_idle settings state slot new h within none generation runs idle =
    record {
      slots = length-set state.slots slot new ∙ h.slots;
      grab_times = h.grab_times;
      orders = h.orders;
      jobs = h.jobs;
      generations = λ s. at_set (λ x. last_generation x ≤ max_generation) state.slots slot new (Empty 0) s (h.generations s) generation;
      ranges = h.ranges;
      runs = λ s. at_set (λ x. run_count x < settings.max_runs) state.slots slot new (Empty 0) s (h.runs s) runs;
      tickets = λ s j o. h.tickets s j (opens_elsewhere state.slots slot new s j within none o).1;
      alone = λ s t j o q. h.alone s t j (opens_elsewhere state.slots slot new s j within none o).1 (opens_elsewhere state.slots slot new t j within none q).1;
      held = λ j o.
          let u = h.held j o in
          (u.0, opens_still state.slots slot new u.0 j (holds_none state.slots slot u.0 j idle u.1) u.1);
    }

-- the slot after one more run: its ticket, generation and runs
pub run_none : (settings : Settings) (g r : ℕ) → held_ticket (slot_after_run settings g r) ≡ None
run_none settings g r = cond_both (nat_lt (r + 1) settings.max_runs) (Live g (r + 1) None) (Empty g) (λ x. held_ticket x ≡ None) (λ e. refl) (λ e. refl)

pub run_generation : (settings : Settings) (g r : ℕ) → last_generation (slot_after_run settings g r) ≡ g
run_generation settings g r = cond_both (nat_lt (r + 1) settings.max_runs) (Live g (r + 1) None) (Empty g) (λ x. last_generation x ≡ g) (λ e. refl) (λ e. refl)

run_runs : (settings : Settings) (g r : ℕ) → 0 < settings.max_runs → run_count (slot_after_run settings g r) < settings.max_runs
run_runs settings g r some = cond_both (nat_lt (r + 1) settings.max_runs) (Live g (r + 1) None) (Empty g) (λ x. run_count x < settings.max_runs) (λ e. ltb-true (r + 1) settings.max_runs e) (λ e. some)

pub sound_reported : (settings : Settings) (state : State) (w : WorkerName) (k : ℕ) (end : EndKind) → 0 < settings.max_runs → IsSoundState settings state → IsPossible settings (event.Reported w k end) state → IsSoundState settings (after settings (event.Reported w k end) state)
sound_reported settings state w k end some h p =
    let r = run_count (slot_in state.slots w.slot) in
    cleared settings state w.slot (slot_after_run settings w.generation r) k (standing.Reported end) h (worker_within state w p.0)
    (run_none settings w.generation r) (omega (arith, run_generation settings w.generation r, generation_there settings state h w p.0)) (run_runs settings w.generation r some) refl
    (open_is (open_ticket state w) k p.1)

lost_with : (settings : Settings) (state : State) (w : WorkerName) (cause : Cause) (o : Option ℕ) → o ≡ open_ticket state w → 0 < settings.max_runs → IsSoundState settings state → is_live_in state w ≡ true
    → IsSoundState settings (record state { slots = set state.slots w.slot (Empty w.generation); standings = with_lost state.standings o w cause })
lost_with settings state w cause None e some h live =
    cleared_idle settings state w.slot (Empty w.generation) h (worker_within state w live) refl (generation_there settings state h w live) some (sym e)
lost_with settings state w cause (Some k) e some h live =
    cleared settings state w.slot (Empty w.generation) k (standing.Lost w cause) h (worker_within state w live) refl (generation_there settings state h w live) some refl (sym e)

pub sound_lost : (settings : Settings) (state : State) (w : WorkerName) (cause : Cause) → 0 < settings.max_runs → IsSoundState settings state → is_live_in state w ≡ true → IsSoundState settings (after settings (event.Lost w cause) state)
sound_lost settings state w cause some h live = lost_with settings state w cause (open_ticket state w) refl some h live

pub length-orders_from : (plan : List (ℕ × Option ℕ)) (round number : ℕ) (slots : List Slot) (orders : List Order) → length slots ≡ length orders → length (orders_from number plan round slots orders) ≡ length orders
length-orders_from plan round number [] orders e = refl
length-orders_from plan round number (slot ∷ slots) [] e = refl
length-orders_from plan round number (slot ∷ slots) (order ∷ orders) e = ap suc (length-orders_from plan round (number + 1) slots orders (omega arith))

pub sound_round : (settings : Settings) (answer : Answer) (state : State) → AreSettings settings → IsSoundState settings state → IsPossible settings (event.Round answer) state → IsSoundState settings (after_round answer state)
sound_round settings (answers.Planned plan backlog short) state r h p =
    record {
      slots = h.slots;
      grab_times = h.grab_times;
      orders = length-orders_from plan (state.rounds + 1) 0 state.slots state.orders (h.slots ∙ sym h.orders) ∙ h.orders;
      jobs = h.jobs;
      generations = h.generations;
      ranges = ranges_after settings r (input_of settings state p.0) refl state.slots h.slots refl plan (state.rounds + 1) state.orders (and_parts _ _ p.3.permitted).1 h.generations h.ranges;
      runs = h.runs;
      tickets = h.tickets;
      alone = h.alone;
      held = h.held;
    }
sound_round settings (answers.NoPlan short) state r h p =
    record { slots = h.slots; grab_times = h.grab_times; orders = h.orders; jobs = h.jobs; generations = h.generations; ranges = h.ranges; runs = h.runs; tickets = h.tickets; alone = h.alone; held = h.held }

-- every event keeps a state sound
pub sound_after : (settings : Settings) (e : Event) (state : State) → AreSettings settings → IsSoundState settings state → IsPossible settings e state → IsSoundState settings (after settings e state)
sound_after settings (event.Join slot) state r h p = sound_join settings state slot r.max_runs_some h p
sound_after settings (event.Load load) state r h p =
    record { slots = h.slots; grab_times = h.grab_times; orders = h.orders; jobs = h.jobs; generations = h.generations; ranges = h.ranges; runs = h.runs; tickets = h.tickets; alone = h.alone; held = h.held }
sound_after settings (event.Round answer) state r h p = sound_round settings answer state r h p
sound_after settings (event.Grab worker handle function now) state r h p = sound_grab settings state worker handle function now h p.0 p.1
sound_after settings (event.Begin worker ticket) state r h p = sound_begin settings state worker ticket h p
sound_after settings (event.Reported worker ticket end) state r h p = sound_reported settings state worker ticket end r.max_runs_some h p
sound_after settings (event.Lost worker cause) state r h p = sound_lost settings state worker cause r.max_runs_some h p
