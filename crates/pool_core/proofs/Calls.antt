-- What a pool keeps after each call.
use Rattle.pool_settings.specs.Slots.{slots as slot_count}
use Rattle.gear_status.specs.Status.{Line}
use Rattle.std.proofs.Common.{◌≡◌, ℕ, ◌+◌, ◌-◌, ◌<◌, ◌≤◌, List, [], ◌∷◌, ◌++◌, length, Option, None, Some, refl, sym, ap, ◌∙◌, arith, cond, length-append, length-set, get_or, ◌⊎◌, inl, inr}
use Rattle.std.specs.Prelude.{count_by, nat_lt, slice_set, slice_get, ◌==◌, not, if◌then◌else◌, Bool, true, false, IfSome, replicate}
use Rattle.std.proofs.lemmas.Option.{slice_get_read}
use Rattle.std.proofs.lemmas.Bool.{cond_both, ltb-true, ltb-false, lt-ltb, false≢true, ne_eqb, cond-true, cond-false}
use Rattle.plan_model.specs.declared.answer.Answer.{Answer}
use Rattle.plan_model.specs.declared.answer.Answer.TheVariants as answers
use Rattle.worker_state.specs.declared.slot.Slot.{Slot}
use Rattle.worker_state.specs.declared.slot.Slot.TheVariants.{Empty, Live}
use Rattle.worker_state.specs.declared.order.Order.{Order}
use Rattle.worker_state.specs.declared.order.What.TheVariants.{Idle}
use Rattle.worker_state.specs.declared.cause.Cause.{Cause}
use Rattle.worker_state.specs.declared.cause.Cause.TheVariants.{Late}
use Rattle.worker_state.specs.declared.job.EndKind.{EndKind}
use Rattle.worker_state.specs.declared.job.EndKind.TheVariants.{Complete}
use Rattle.worker_state.specs.Slots.{is_live, is_reported, is_lost, is_open, last_generation, run_count}
use Rattle.pool_core.specs.declared.event.Job.{Job}
use Rattle.pool_settings.specs.Settings.{Settings, AreSettings}
use Rattle.worker_state.specs.declared.slot.WorkerName.{WorkerName}
use Rattle.worker_state.specs.declared.job.Standing.{Standing}
use Rattle.worker_state.specs.declared.job.Standing.TheVariants as standing
use Rattle.pool_core.specs.declared.event.Event.{Event}
use Rattle.pool_core.specs.declared.event.Event.TheVariants as event
use Rattle.pool_core.specs.Machine.{State, IsPossible, first, after, owed, with_standing, with_lost, slot_in, is_live_in, open_ticket, slot_after_run, next_ticket, orders_from, after_round, standing_in, job_at}
use Rattle.pool_core.specs.Book.{Book, begin_refusal, join_refusal, grab_refusal, report_refusal, unless_forgotten, is_some_and, has_closed_prefix, forget_first}
use Rattle.pool_core.specs.Kept.{IsKeptBook, IsSoundState, AreClosed, IsOpenTicket, closing_of, lost_of}
use Rattle.pool_core.specs.Calls.{Forgets}
use Rattle.pool_core.proofs.Refusals.{begin_possible, join_possible, grab_possible, report_possible}
use Rattle.pool_core.proofs.Tables.{standing_given, open_is}
use Rattle.pool_core.proofs.Sums.{owed_begin, reported_begin, owed_join, owed_grab, owed_reported, reported_reported, counts_lost, counts_all, count_by-push, one_if}
use Rattle.std.proofs.lemmas.List.Folds.{sum_by-replicate}
use Rattle.worker_state.specs.Orders.{no_order}
use Rattle.pool_core.proofs.Lasting.{sound_first, extends_after, length-with_lost}
use Rattle.pool_core.proofs.Sound.{sound_after}
use Rattle.pool_core.proofs.Steps.{chapter_more, next_chapter_is}

-- jobs that are reported or lost stay so
pub prefix_after : (settings : Settings) (e : Event) (state : State) (forgotten : ℕ) → IsSoundState settings state → IsPossible settings e state → AreClosed state.standings forgotten → AreClosed (after settings e state).standings forgotten
prefix_after settings e state forgotten h p prefix k from_one within =
    let t = prefix k from_one within in
    (t.0, (extends_after settings e state h p).closed k t.0 t.1 t.2, t.2)

pub kept_more : (settings : Settings) (chapters forgotten : ℕ) (events : List Event) (state : State) (owes reported lost capacity : ℕ) → IsKeptBook (record { settings = settings; events = events; state = state; chapters = chapters; forgotten = forgotten }) owes reported lost capacity
    → (e : Event) → IsPossible settings e state
    → (owes' reported' lost' capacity' : ℕ) → owes' ≡ owed (after settings e state)
    → reported' ≡ count_by is_reported (after settings e state).standings → lost' ≡ count_by is_lost (after settings e state).standings
    → length events + 1 + owes' ≤ settings.history → length events + 1 + owes' ≤ capacity'
    → IsKeptBook (record { settings = settings; events = (events ++ e ∷ []); state = (after settings e state); chapters = chapters; forgotten = forgotten }) owes' reported' lost' capacity'
kept_more settings chapters forgotten events state owes reported lost capacity h e p owes' reported' lost' capacity' o r l within reserved =
    record {
      in_range = h.in_range;
      history = chapter_more settings chapters events state e h.history p;
      sound = sound_after settings e state h.in_range h.sound p;
      owes_is = o;
      reported_is = r;
      lost_is = l;
      prefix = prefix_after settings e state forgotten h.sound p h.prefix;
      within = omega (arith, length-append events (e ∷ []), within);
      reserved = omega (arith, length-append events (e ∷ []), reserved);
    }

pub kept_begin : (settings : Settings) (chapters forgotten : ℕ) (events : List Event) (state : State) (owes reported lost capacity : ℕ) → IsKeptBook (record { settings = settings; events = events; state = state; chapters = chapters; forgotten = forgotten }) owes reported lost capacity
    → (w : WorkerName) (k : ℕ) → begin_refusal (record { settings = settings; events = events; state = state; chapters = 0; forgotten = forgotten }) w k ≡ None
    → (events' : List Event) → events' ≡ events ++ event.Begin w k ∷ []
    → (standings' : List Standing) → standings' ≡ with_standing state.standings k standing.Reporting
    → (capacity' : ℕ) → capacity' ≡ capacity
    → IsKeptBook (record { settings = settings; events = events'; state = (record state { standings = standings' }); chapters = chapters; forgotten = forgotten }) (owes - 1) reported lost capacity'
kept_begin settings chapters forgotten events state owes reported lost capacity h w k none events' is_events standings' is_standings capacity' is_capacity =
    let p = begin_possible (record { settings = settings; events = events; state = state; chapters = 0; forgotten = forgotten }) w k none in
    let o = owed_begin settings state w k p in
    let t = reported_begin settings state w k p in
    rw (is_events, is_standings) (kept_more settings chapters forgotten events state owes reported lost capacity h (event.Begin w k) p (owes - 1) reported lost capacity'
    (omega (arith, o, h.owes_is))
    (h.reported_is ∙ sym t.0) (h.lost_is ∙ sym t.1)
    (omega (arith, o, h.owes_is, h.within))
    (omega (arith, o, h.owes_is, h.reserved, is_capacity)))

pub kept_join : (settings : Settings) (chapters forgotten : ℕ) (events : List Event) (state : State) (owes reported lost capacity : ℕ) → IsKeptBook (record { settings = settings; events = events; state = state; chapters = chapters; forgotten = forgotten }) owes reported lost capacity
    → (slot : ℕ) → slot < length state.slots → join_refusal (record { settings = settings; events = events; state = state; chapters = 0; forgotten = forgotten }) slot ≡ None
    → (events' : List Event) → events' ≡ events ++ event.Join slot ∷ []
    → (slots' : List Slot) → slots' ≡ slice_set state.slots slot (Live (last_generation (slot_in state.slots slot) + 1) 0 None)
    → (orders' : List Order) → orders' ≡ slice_set state.orders slot (record { generation = last_generation (slot_in state.slots slot) + 1; round = 0; what = Idle })
    → (capacity' : ℕ) → length events + owes + 2 ≤ capacity'
    → IsKeptBook (record { settings = settings; events = events'; state = (record state { slots = slots'; orders = orders' }); chapters = chapters; forgotten = forgotten }) (owes + 1) reported lost capacity'
kept_join settings chapters forgotten events state owes reported lost capacity h slot within none events' is_events slots' is_slots orders' is_orders capacity' room =
    let t = join_possible (record { settings = settings; events = events; state = state; chapters = 0; forgotten = forgotten }) slot none in
    let p : IsPossible settings (event.Join slot) state = (within, t.0, t.1) in
    let o = owed_join settings state slot p in
    rw (is_events, is_slots, is_orders) (kept_more settings chapters forgotten events state owes reported lost capacity h (event.Join slot) p (owes + 1) reported lost capacity'
    (omega (arith, o, h.owes_is))
    h.reported_is h.lost_is
    (omega (arith, h.owes_is, t.2))
    (omega (arith, h.owes_is, room)))

pub kept_grab : (settings : Settings) (chapters forgotten : ℕ) (events : List Event) (state : State) (owes reported lost capacity : ℕ) → IsKeptBook (record { settings = settings; events = events; state = state; chapters = chapters; forgotten = forgotten }) owes reported lost capacity
    → (w : WorkerName) (handle function : List ℕ) (now : ℕ) → grab_refusal (record { settings = settings; events = events; state = state; chapters = 0; forgotten = forgotten }) w ≡ None
    → (events' : List Event) → events' ≡ events ++ event.Grab w handle function now ∷ []
    → (slots' : List Slot) → slots' ≡ slice_set state.slots w.slot (Live w.generation (run_count (slot_in state.slots w.slot)) (Some (next_ticket state)))
    → (times' : List ℕ) → times' ≡ slice_set state.grab_times w.slot now
    → (jobs' : List Job) → jobs' ≡ state.jobs ++ record { handle = handle; function = function } ∷ []
    → (standings' : List Standing) → standings' ≡ state.standings ++ standing.Running ∷ []
    → (capacity' : ℕ) → length events + owes + 3 ≤ capacity'
    → IsKeptBook (record { settings = settings; events = events'; state = (record state { slots = slots'; grab_times = times'; jobs = jobs'; standings = standings' }); chapters = chapters; forgotten = forgotten }) (owes + 2) reported lost capacity'
kept_grab settings chapters forgotten events state owes reported lost capacity h w handle function now none events' is_events slots' is_slots times' is_times jobs' is_jobs standings' is_standings capacity' room =
    let t = grab_possible (record { settings = settings; events = events; state = state; chapters = 0; forgotten = forgotten }) w none in
    let o = owed_grab settings state w handle function now t.0 in
    rw (is_events, is_slots, is_times, is_jobs, is_standings) (kept_more settings chapters forgotten events state owes reported lost capacity h (event.Grab w handle function now) (t.0, t.1) (owes + 2) reported lost capacity'
    (omega (arith, o, h.owes_is))
    (omega (arith, h.reported_is, count_by-push is_reported state.standings standing.Running))
    (omega (arith, h.lost_is, count_by-push is_lost state.standings standing.Running))
    (omega (arith, h.owes_is, t.2))
    (omega (arith, h.owes_is, room)))

-- whether the slot after a run is live
after_run_live : (settings : Settings) (generation runs : ℕ) (stays : Bool) → stays ≡ nat_lt (runs + 1) settings.max_runs → is_live (slot_after_run settings generation runs) ≡ stays
after_run_live settings generation runs stays e =
    cond_both (nat_lt (runs + 1) settings.max_runs) (Live generation (runs + 1) None) (Empty generation) (λ x. is_live x ≡ stays) (λ t. sym t ∙ sym e) (λ t. sym t ∙ sym e)

pub kept_reported : (settings : Settings) (chapters forgotten : ℕ) (events : List Event) (state : State) (owes reported lost capacity : ℕ) → IsKeptBook (record { settings = settings; events = events; state = state; chapters = chapters; forgotten = forgotten }) owes reported lost capacity
    → (w : WorkerName) (k : ℕ) (end : EndKind) → report_refusal (record { settings = settings; events = events; state = state; chapters = 0; forgotten = forgotten }) w k ≡ None
    → (stays : Bool) → stays ≡ nat_lt (run_count (slot_in state.slots w.slot) + 1) settings.max_runs
    → (events' : List Event) → events' ≡ events ++ event.Reported w k end ∷ []
    → (slots' : List Slot) → slots' ≡ slice_set state.slots w.slot (if stays then Live w.generation (run_count (slot_in state.slots w.slot) + 1) None else Empty w.generation)
    → (standings' : List Standing) → standings' ≡ with_standing state.standings k (standing.Reported end)
    → (owes' : ℕ) → owes' + 2 ≡ owes + cond stays 1 0
    → (capacity' : ℕ) → capacity' ≡ capacity
    → IsKeptBook (record { settings = settings; events = events'; state = (record state { slots = slots'; standings = standings' }); chapters = chapters; forgotten = forgotten }) owes' (reported + 1) lost capacity'
kept_reported settings chapters forgotten events state owes reported lost capacity h w k end none stays is_stays events' is_events slots' is_slots standings' is_standings owes' is_owes capacity' is_capacity =
    let p = report_possible (record { settings = settings; events = events; state = state; chapters = 0; forgotten = forgotten }) w k end none in
    let o = owed_reported settings state w k end stays (after_run_live settings w.generation (run_count (slot_in state.slots w.slot)) stays is_stays) p in
    let t = reported_reported settings state w k end p in
    let few : cond stays 1 0 ≤ 1 = cond_both stays 1 0 (λ n. n ≤ 1) (λ e. omega arith) (λ e. omega arith) in
    rw (is_events, is_slots, is_stays, is_standings) (kept_more settings chapters forgotten events state owes reported lost capacity h (event.Reported w k end) p owes' (reported + 1) lost capacity'
    (omega (arith, o, h.owes_is, is_owes))
    (omega (arith, h.reported_is, t.0)) (h.lost_is ∙ sym t.1)
    (omega (arith, h.within, is_owes, few))
    (omega (arith, h.reserved, is_owes, few, is_capacity)))

pub kept_lost : (settings : Settings) (chapters forgotten : ℕ) (events : List Event) (state : State) (owes reported lost capacity : ℕ) → IsKeptBook (record { settings = settings; events = events; state = state; chapters = chapters; forgotten = forgotten }) owes reported lost capacity
    → (w : WorkerName) (cause : Cause) → is_live_in state w ≡ true
    → (events' : List Event) → events' ≡ events ++ event.Lost w cause ∷ []
    → (slots' : List Slot) → slots' ≡ slice_set state.slots w.slot (Empty w.generation)
    → (standings' : List Standing) → standings' ≡ with_lost state.standings (open_ticket state w) w cause
    → (capacity' : ℕ) → capacity' ≡ capacity
    → IsKeptBook (record { settings = settings; events = events'; state = (record state { slots = slots'; standings = standings' }); chapters = chapters; forgotten = forgotten }) (owes - (1 + closing_of state.standings (open_ticket state w))) reported (lost + lost_of (open_ticket state w)) capacity'
kept_lost settings chapters forgotten events state owes reported lost capacity h w cause live events' is_events slots' is_slots standings' is_standings capacity' is_capacity =
    let t = counts_lost settings state w cause h.sound live in
    rw (is_events, is_slots, is_standings) (kept_more settings chapters forgotten events state owes reported lost capacity h (event.Lost w cause) live (owes - (1 + closing_of state.standings (open_ticket state w))) reported (lost + lost_of (open_ticket state w)) capacity'
    (omega (arith, t.0, h.owes_is))
    (h.reported_is ∙ sym t.1) (omega (arith, h.lost_is, t.2))
    (omega (arith, h.within, t.0, h.owes_is))
    (omega (arith, h.reserved, t.0, h.owes_is, is_capacity)))

-- a report's beginning, a report and a loss are owed
pub owes_begin : (settings : Settings) (chapters forgotten : ℕ) (events : List Event) (state : State) (owes reported lost capacity : ℕ) → IsKeptBook (record { settings = settings; events = events; state = state; chapters = chapters; forgotten = forgotten }) owes reported lost capacity
    → (w : WorkerName) (k : ℕ) → begin_refusal (record { settings = settings; events = events; state = state; chapters = 0; forgotten = forgotten }) w k ≡ None → 1 ≤ owes
owes_begin settings chapters forgotten events state owes reported lost capacity h w k none =
    let p = begin_possible (record { settings = settings; events = events; state = state; chapters = 0; forgotten = forgotten }) w k none in
    omega (arith, owed_begin settings state w k p, h.owes_is)

pub owes_report : (settings : Settings) (chapters forgotten : ℕ) (events : List Event) (state : State) (owes reported lost capacity : ℕ) → IsKeptBook (record { settings = settings; events = events; state = state; chapters = chapters; forgotten = forgotten }) owes reported lost capacity
    → (w : WorkerName) (k : ℕ) → report_refusal (record { settings = settings; events = events; state = state; chapters = 0; forgotten = forgotten }) w k ≡ None
    → (stays : Bool) → stays ≡ nat_lt (run_count (slot_in state.slots w.slot) + 1) settings.max_runs → 2 ≤ owes + cond stays 1 0
owes_report settings chapters forgotten events state owes reported lost capacity h w k none stays is_stays =
    let p = report_possible (record { settings = settings; events = events; state = state; chapters = 0; forgotten = forgotten }) w k Complete none in
    omega (arith, owed_reported settings state w k Complete stays (after_run_live settings w.generation (run_count (slot_in state.slots w.slot)) stays is_stays) p, h.owes_is)

pub owes_loss : (settings : Settings) (chapters forgotten : ℕ) (events : List Event) (state : State) (owes reported lost capacity : ℕ) → IsKeptBook (record { settings = settings; events = events; state = state; chapters = chapters; forgotten = forgotten }) owes reported lost capacity
    → (w : WorkerName) → is_live_in state w ≡ true → 1 + closing_of state.standings (open_ticket state w) ≤ owes
owes_loss settings chapters forgotten events state owes reported lost capacity h w live =
    omega (arith, (counts_lost settings state w Late h.sound live).0, h.owes_is)

-- what is owed after a report
pub owes_after_report : (owes one : ℕ) (stays : Bool) → one ≡ cond stays 1 0 → 2 ≤ owes + cond stays 1 0 → (owes - (2 - one)) + 2 ≡ owes + cond stays 1 0
owes_after_report owes one stays e h =
    let few : cond stays 1 0 ≤ 1 = cond_both stays 1 0 (λ n. n ≤ 1) (λ t. omega arith) (λ t. omega arith) in
    omega (arith, e, h, few)

pub report_within : (owes one : ℕ) (stays : Bool) → one ≡ cond stays 1 0 → 2 ≤ owes + cond stays 1 0 → 2 - one ≤ owes
report_within owes one stays e h = omega (arith, e, h)

by_test : (forgotten k : ℕ) (b : Bool) → nat_lt forgotten k ≡ b → (k ≤ forgotten → ⊥) → forgotten < k
by_test forgotten k true e never = ltb-true forgotten k e
by_test forgotten k false e never = absurd (never (ltb-false forgotten k e))

is_le_or : (k n : ℕ) (b : Bool) → nat_lt n k ≡ b → (k ≤ n) ⊎ (n < k)
is_le_or k n true e = inr (ltb-true n k e)
is_le_or k n false e = inl (ltb-false n k e)

-- a job that goes on is not forgotten
pub open_later : (standings : List Standing) (forgotten k : ℕ) → AreClosed standings forgotten → IsOpenTicket standings k → forgotten < k
open_later standings forgotten k prefix o =
    by_test forgotten k (nat_lt forgotten k) refl (λ within.
    let t = prefix k o.from_one within in
    let at = (standing_given standings k t.0 standing.Running t.1).2 in
    false≢true (sym t.2 ∙ (ap is_open (sym at) ∙ o.goes_on)))

-- an open ticket was given, and is not forgotten
pub open_given : (settings : Settings) (state : State) (forgotten : ℕ) → IsSoundState settings state → AreClosed state.standings forgotten → (w : WorkerName) (o : Option ℕ) → o ≡ open_ticket state w → (n : ℕ) → n ≡ length state.standings → IfSome o (λ k. (forgotten < k) × (k ≤ n))
open_given settings state forgotten h prefix w None e n is = tt
open_given settings state forgotten h prefix w (Some k) e n is =
    let t = h.tickets w.slot k (sym e) in (open_later state.standings forgotten k prefix t, omega (arith, t.given, is))

-- the ticket that a worker has is not forgotten
pub held_later : (settings : Settings) (state : State) (forgotten : ℕ) → IsSoundState settings state → AreClosed state.standings forgotten → (w : WorkerName) (k : ℕ) → open_ticket state w ≡ Some k → forgotten < k
held_later settings state forgotten h prefix w k own = open_later state.standings forgotten k prefix (h.tickets w.slot k own)

-- what is asked of a ticket that a worker has is what the state says of it
pub held_kept : (settings : Settings) (state : State) (forgotten : ℕ) → IsSoundState settings state → AreClosed state.standings forgotten → (w : WorkerName) (k : ℕ) → open_ticket state w ≡ Some k
    → unless_forgotten forgotten k (standing_in state.standings k) ≡ standing_in state.standings k
held_kept settings state forgotten h prefix w k own =
    cond-true (nat_lt forgotten k) (standing_in state.standings k) None (lt-ltb forgotten k (held_later settings state forgotten h prefix w k own))

pub begin_later : (settings : Settings) (chapters forgotten : ℕ) (events : List Event) (state : State) (owes reported lost capacity : ℕ) → IsKeptBook (record { settings = settings; events = events; state = state; chapters = chapters; forgotten = forgotten }) owes reported lost capacity
    → (w : WorkerName) (k : ℕ) → begin_refusal (record { settings = settings; events = events; state = state; chapters = 0; forgotten = forgotten }) w k ≡ None → forgotten < k
begin_later settings chapters forgotten events state owes reported lost capacity h w k none =
    held_later settings state forgotten h.sound h.prefix w k (open_is (open_ticket state w) k (begin_possible (record { settings = settings; events = events; state = state; chapters = 0; forgotten = forgotten }) w k none).1)

pub report_later : (settings : Settings) (chapters forgotten : ℕ) (events : List Event) (state : State) (owes reported lost capacity : ℕ) → IsKeptBook (record { settings = settings; events = events; state = state; chapters = chapters; forgotten = forgotten }) owes reported lost capacity
    → (w : WorkerName) (k : ℕ) → report_refusal (record { settings = settings; events = events; state = state; chapters = 0; forgotten = forgotten }) w k ≡ None → forgotten < k
report_later settings chapters forgotten events state owes reported lost capacity h w k none =
    held_later settings state forgotten h.sound h.prefix w k (open_is (open_ticket state w) k (report_possible (record { settings = settings; events = events; state = state; chapters = 0; forgotten = forgotten }) w k Complete none).1)

-- the counts after a report and after a loss are at most what was grabbed
pub report_fits : (settings : Settings) (chapters forgotten : ℕ) (events : List Event) (state : State) (owes reported lost capacity : ℕ) → IsKeptBook (record { settings = settings; events = events; state = state; chapters = chapters; forgotten = forgotten }) owes reported lost capacity
    → (w : WorkerName) (k : ℕ) → report_refusal (record { settings = settings; events = events; state = state; chapters = 0; forgotten = forgotten }) w k ≡ None → reported + 1 ≤ length state.standings
report_fits settings chapters forgotten events state owes reported lost capacity h w k none =
    let p = report_possible (record { settings = settings; events = events; state = state; chapters = 0; forgotten = forgotten }) w k Complete none in
    let t = reported_reported settings state w k Complete p in
    omega (arith, t.0, h.reported_is, counts_all (with_standing state.standings k (standing.Reported Complete)), length-set state.standings (k - 1) (standing.Reported Complete))

pub loss_fits : (settings : Settings) (chapters forgotten : ℕ) (events : List Event) (state : State) (owes reported lost capacity : ℕ) → IsKeptBook (record { settings = settings; events = events; state = state; chapters = chapters; forgotten = forgotten }) owes reported lost capacity
    → (w : WorkerName) → is_live_in state w ≡ true → lost + lost_of (open_ticket state w) ≤ length state.standings
loss_fits settings chapters forgotten events state owes reported lost capacity h w live =
    let t = counts_lost settings state w Late h.sound live in
    omega (arith, t.2, h.lost_is, counts_all (with_lost state.standings (open_ticket state w) w Late), length-with_lost state.standings (open_ticket state w) w Late)

-- more room
pub kept_room : (settings : Settings) (chapters forgotten : ℕ) (events : List Event) (state : State) (owes reported lost capacity : ℕ) → IsKeptBook (record { settings = settings; events = events; state = state; chapters = chapters; forgotten = forgotten }) owes reported lost capacity
    → (events' : List Event) → events' ≡ events → (jobs' : List Job) → jobs' ≡ state.jobs → (standings' : List Standing) → standings' ≡ state.standings → (forgotten' : ℕ) → forgotten' ≡ forgotten
    → (capacity' : ℕ) → capacity ≤ capacity'
    → IsKeptBook (record { settings = settings; events = events'; state = (record state { jobs = jobs'; standings = standings' }); chapters = chapters; forgotten = forgotten' }) owes reported lost capacity'
kept_room settings chapters forgotten events state owes reported lost capacity h events' is_events jobs' is_jobs standings' is_standings forgotten' is_forgotten capacity' more =
    rw (is_events, is_jobs, is_standings, is_forgotten) (
    let kept : IsKeptBook (record { settings = settings; events = events; state = state; chapters = chapters; forgotten = forgotten }) owes reported lost capacity' = record {
      in_range = h.in_range;
      history = h.history;
      sound = h.sound;
      owes_is = h.owes_is;
      reported_is = h.reported_is;
      lost_is = h.lost_is;
      prefix = h.prefix;
      within = h.within;
      reserved = omega (arith, h.reserved, more);
    } in kept)

-- one more ticket whose job is reported or lost
closed_more : (standings : List Standing) (forgotten : ℕ) → AreClosed standings forgotten → (x : Standing) → standing_in standings (forgotten + 1) ≡ Some x → is_open x ≡ false → AreClosed standings (forgotten + 1)
closed_more standings forgotten prefix x is closed k from_one within =
    elim (is_le_or k forgotten (nat_lt forgotten k) refl) [
      | inl t ↦ prefix k from_one t
      | inr t ↦ let same : k ≡ forgotten + 1 = omega (arith, t, within) in (x, ap (standing_in standings) same ∙ is, closed)
    ]

-- the job of the first ticket that is not forgotten is reported or lost
closed_is : (o : Option Standing) → is_some_and (λ x. not (is_open x)) o ≡ true → (x : Standing) × (o ≡ Some x) × (is_open x ≡ false)
closed_is None h = absurd (false≢true h)
closed_is (Some standing.Running) h = absurd (false≢true h)
closed_is (Some standing.Reporting) h = absurd (false≢true h)
closed_is (Some (standing.Reported end)) h = (standing.Reported end, refl, refl)
closed_is (Some (standing.Lost worker cause)) h = (standing.Lost worker cause, refl, refl)

-- the ticket after the forgotten ones, and its place
next_at : {X : Type 0} (xs : List X) (n : ℕ) (x : X) → n < length xs → x ≡ get_or xs n x → (if (n + 1) == 0 then None else slice_get xs (n + 1 - 1)) ≡ Some x
next_at xs n x within is =
    cond-false (n + 1 == 0) None (slice_get xs (n + 1 - 1)) (ne_eqb (n + 1) 0 (λ e. omega arith))
    ∙ ap (slice_get xs) (let e : n + 1 - 1 ≡ n = omega arith in e) ∙ slice_get_read xs (length xs) n x refl within is

-- what is handed out of a pool whose first kept job is reported or lost
pub record Handed (book : Book) (job : Job) (standing : Standing) : Type 0 where
  pub job_is : job_at book.state.jobs (book.forgotten + 1) ≡ Some job
  pub standing_is : standing_in book.state.standings (book.forgotten + 1) ≡ Some standing
  pub closed : is_open standing ≡ false

pub handed : (book : Book) → has_closed_prefix book ≡ true → (job : Job) (standing : Standing)
    → book.forgotten < length book.state.jobs → job ≡ get_or book.state.jobs book.forgotten job
    → book.forgotten < length book.state.standings → standing ≡ get_or book.state.standings book.forgotten standing → Handed book job standing
handed book prefix job standing job_within job_is within is =
    let t = closed_is (standing_in book.state.standings (book.forgotten + 1)) prefix in
    let there : standing_in book.state.standings (book.forgotten + 1) ≡ Some standing = next_at book.state.standings book.forgotten standing within is in
    let same : t.0 ≡ standing = let e = sym t.1 ∙ there in cc in
    record {
      job_is = next_at book.state.jobs book.forgotten job job_within job_is;
      standing_is = there;
      closed = sym (ap is_open same) ∙ t.2;
    }

-- what the call tells
pub forget_tells : (book new : Book) → has_closed_prefix book ≡ true → (ticket : ℕ) (job : Job) (standing : Standing) → ticket ≡ book.forgotten + 1
    → book.forgotten < length book.state.jobs → job ≡ get_or book.state.jobs book.forgotten job
    → book.forgotten < length book.state.standings → standing ≡ get_or book.state.standings book.forgotten standing
    → new ≡ forget_first book → Forgets book new (Some (record { ticket = ticket; job = job; standing = standing }))
forget_tells book new prefix ticket job standing is_ticket job_within job_is within is step =
    let t = handed book prefix job standing job_within job_is within is in (
      (is_ticket, ap (job_at book.state.jobs) is_ticket ∙ t.job_is),
      (ap (standing_in book.state.standings) is_ticket ∙ t.standing_is, t.closed),
      sym prefix,
      step,
      tt,
    )

-- both lists forget their first
pub kept_forget : (settings : Settings) (chapters forgotten : ℕ) (events : List Event) (state : State) (owes reported lost capacity : ℕ) → IsKeptBook (record { settings = settings; events = events; state = state; chapters = chapters; forgotten = forgotten }) owes reported lost capacity
    → has_closed_prefix (record { settings = settings; events = events; state = state; chapters = chapters; forgotten = forgotten }) ≡ true
    → (jobs' : List Job) → jobs' ≡ state.jobs → (standings' : List Standing) → standings' ≡ state.standings → (forgotten' : ℕ) → forgotten' ≡ forgotten + 1
    → IsKeptBook (record { settings = settings; events = events; state = (record state { jobs = jobs'; standings = standings' }); chapters = chapters; forgotten = forgotten' }) owes reported lost capacity
kept_forget settings chapters forgotten events state owes reported lost capacity h prefix jobs' is_jobs standings' is_standings forgotten' is_forgotten =
    let t = closed_is (standing_in state.standings (forgotten + 1)) prefix in
    rw (is_jobs, is_standings, is_forgotten) (
    let kept : IsKeptBook (record { settings = settings; events = events; state = state; chapters = chapters; forgotten = (forgotten + 1) }) owes reported lost capacity = record {
      in_range = h.in_range;
      history = h.history;
      sound = h.sound;
      owes_is = h.owes_is;
      reported_is = h.reported_is;
      lost_is = h.lost_is;
      prefix = closed_more state.standings forgotten h.prefix t.0 t.1 t.2;
      within = h.within;
      reserved = h.reserved;
    } in kept)

pub kept_load : (settings : Settings) (chapters forgotten : ℕ) (events : List Event) (state : State) (owes reported lost capacity : ℕ) → IsKeptBook (record { settings = settings; events = events; state = state; chapters = chapters; forgotten = forgotten }) owes reported lost capacity
    → (load : List Line) → length events + owes + 1 ≤ settings.history
    → (events' : List Event) → events' ≡ events ++ event.Load load ∷ []
    → (capacity' : ℕ) → length events + owes + 1 ≤ capacity'
    → IsKeptBook (record { settings = settings; events = events'; state = (record state { load = Some load }); chapters = chapters; forgotten = forgotten }) owes reported lost capacity'
kept_load settings chapters forgotten events state owes reported lost capacity h load within events' is_events capacity' room =
    rw is_events (kept_more settings chapters forgotten events state owes reported lost capacity h (event.Load load) tt owes reported lost capacity'
    h.owes_is h.reported_is h.lost_is
    (omega (arith, within))
    (omega (arith, room)))

-- a round leaves all that is counted
round_same : (answer : Answer) (state : State) → (owed (after_round answer state) ≡ owed state) × ((after_round answer state).standings ≡ state.standings)
round_same (answers.Planned plan backlog short) state = (refl, refl)
round_same (answers.NoPlan short) state = (refl, refl)

pub kept_round : (settings : Settings) (chapters forgotten : ℕ) (events : List Event) (state : State) (owes reported lost capacity : ℕ) → IsKeptBook (record { settings = settings; events = events; state = state; chapters = chapters; forgotten = forgotten }) owes reported lost capacity
    → (answer : Answer) → IsPossible settings (event.Round answer) state → length events + owed state + 1 ≤ settings.history
    → (capacity' : ℕ) → length events + owes + 1 ≤ capacity'
    → IsKeptBook (record { settings = settings; events = (events ++ event.Round answer ∷ []); state = (after_round answer state); chapters = chapters; forgotten = forgotten }) owes reported lost capacity'
kept_round settings chapters forgotten events state owes reported lost capacity h answer p within capacity' room =
    let t = round_same answer state in
    kept_more settings chapters forgotten events state owes reported lost capacity h (event.Round answer) p owes reported lost capacity'
    (h.owes_is ∙ sym t.0) (h.reported_is ∙ ap (count_by is_reported) (sym t.1)) (h.lost_is ∙ ap (count_by is_lost) (sym t.1))
    (omega (arith, within, h.owes_is))
    (omega (arith, room))

pub kept_no_plan : (settings : Settings) (chapters forgotten : ℕ) (events : List Event) (state : State) (owes reported lost capacity : ℕ) → IsKeptBook (record { settings = settings; events = events; state = state; chapters = chapters; forgotten = forgotten }) owes reported lost capacity
    → (short : List ℕ) → IsPossible settings (event.Round (answers.NoPlan short)) state → length events + owed state + 1 ≤ settings.history
    → (events' : List Event) → events' ≡ events ++ event.Round (answers.NoPlan short) ∷ []
    → (capacity' : ℕ) → length events + owes + 1 ≤ capacity'
    → IsKeptBook (record { settings = settings; events = events'; state = (record state { rounds = state.rounds + 1 }); chapters = chapters; forgotten = forgotten }) owes reported lost capacity'
kept_no_plan settings chapters forgotten events state owes reported lost capacity h short p within events' is_events capacity' room =
    rw is_events (kept_round settings chapters forgotten events state owes reported lost capacity h (answers.NoPlan short) p within capacity' room)

pub kept_plan : (settings : Settings) (chapters forgotten : ℕ) (events : List Event) (state : State) (owes reported lost capacity : ℕ) → IsKeptBook (record { settings = settings; events = events; state = state; chapters = chapters; forgotten = forgotten }) owes reported lost capacity
    → (plan : List (ℕ × Option ℕ)) (backlog : ℕ) (short : Option (List ℕ)) → IsPossible settings (event.Round (answers.Planned plan backlog short)) state → length events + owed state + 1 ≤ settings.history
    → (events' : List Event) → events' ≡ events ++ event.Round (answers.Planned plan backlog short) ∷ []
    → (orders' : List Order) → orders' ≡ orders_from 0 plan (state.rounds + 1) state.slots state.orders
    → (noted : List (ℕ × Option ℕ)) → noted ≡ plan
    → (capacity' : ℕ) → length events + owes + 1 ≤ capacity'
    → IsKeptBook (record { settings = settings; events = events'; state = (record state { orders = orders'; previous = Some noted; rounds = state.rounds + 1 }); chapters = chapters; forgotten = forgotten }) owes reported lost capacity'
kept_plan settings chapters forgotten events state owes reported lost capacity h plan backlog short p within events' is_events orders' is_orders noted is_noted capacity' room =
    rw (is_events, is_orders, is_noted) (kept_round settings chapters forgotten events state owes reported lost capacity h (answers.Planned plan backlog short) p within capacity' room)

pub orders_same : (plan listed : List (ℕ × Option ℕ)) (round : ℕ) (slots seen : List Slot) (orders read : List Order) → listed ≡ plan → seen ≡ slots → read ≡ orders → orders_from 0 listed round seen read ≡ orders_from 0 plan round slots orders
orders_same plan listed round slots seen orders read e f g = cc

-- a chapter that ends
pub kept_chapter : (settings : Settings) (chapters forgotten : ℕ) (events : List Event) (state : State) (owes reported lost capacity : ℕ) → IsKeptBook (record { settings = settings; events = events; state = state; chapters = chapters; forgotten = forgotten }) owes reported lost capacity
    → (events' : List Event) → events' ≡ [] → (capacity' : ℕ) → owes ≤ capacity'
    → IsKeptBook (record { settings = settings; events = events'; state = state; chapters = (chapters + 1); forgotten = forgotten }) owes reported lost capacity'
kept_chapter settings chapters forgotten events state owes reported lost capacity h events' none capacity' room =
    rw none (
    let kept : IsKeptBook (record { settings = settings; events = []; state = state; chapters = (chapters + 1); forgotten = forgotten }) owes reported lost capacity' = record {
      in_range = h.in_range;
      history = next_chapter_is settings chapters events state h.history;
      sound = h.sound;
      owes_is = h.owes_is;
      reported_is = h.reported_is;
      lost_is = h.lost_is;
      prefix = h.prefix;
      within = omega (arith, h.within);
      reserved = omega (arith, room);
    } in kept)

-- a new pool
pub kept_first : (settings : Settings) → AreSettings settings → (capacity : ℕ)
    → (slots' : List Slot) → slots' ≡ replicate (slot_count settings) (Empty 0)
    → (times' : List ℕ) → times' ≡ replicate (slot_count settings) 0
    → (orders' : List Order) → orders' ≡ replicate (slot_count settings) no_order
    → (jobs' : List Job) → jobs' ≡ []
    → (standings' : List Standing) → standings' ≡ []
    → (events' : List Event) → events' ≡ []
    → IsKeptBook (record { settings = settings; events = events'; state = (record (first settings) { slots = slots'; grab_times = times'; orders = orders'; jobs = jobs'; standings = standings' }); chapters = 0; forgotten = 0 }) 0 0 0 capacity
kept_first settings r capacity slots' is_slots times' is_times orders' is_orders jobs' is_jobs standings' is_standings events' is_events =
    rw (is_slots, is_times, is_orders, is_jobs, is_standings, is_events) (
    let kept : IsKeptBook (record { settings = settings; events = []; state = (first settings); chapters = 0; forgotten = 0 }) 0 0 0 capacity = record {
      in_range = r;
      history = record {
        base = first settings;
        begins = record { before = []; none_before = λ e. refl; replays = record { history = tt; replayed = refl } };
        replays = record { history = tt; replayed = refl };
      };
      sound = sound_first settings r;
      owes_is = omega (arith, sum_by-replicate (one_if is_live) (slot_count settings) (Empty 0));
      reported_is = refl;
      lost_is = refl;
      prefix = λ k from_one within. absurd (omega (arith, from_one, within));
      within = omega arith;
      reserved = omega arith;
    } in kept)
