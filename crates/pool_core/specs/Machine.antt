-- The pool as a machine: its state, the events, when each is possible and what it does.
use Rattle.std.specs.Prelude.{◌≡◌, ℕ, ◌+◌, ◌-◌, ◌<◌, ◌==◌, ◌&&◌, nat_lt, List, [], ◌∷◌, ◌++◌, length, Option, None, Some, Bool, true, false}
use Rattle.std.specs.Prelude.{IsTrue, if◌then◌else◌, slice_get, slice_set, slice_index_or, map, replicate, count_by, sum_by}
use Rattle.plan_model.specs.declared.answer.Answer.{Answer}
use Rattle.plan_model.specs.declared.answer.Answer.TheVariants as answers
use Rattle.pool_settings.specs.Settings.{Settings}
use Rattle.plan_model.specs.Planning.{Instance, IsInstance, assigned}
use Rattle.gear_status.specs.Status.{Line}
use Rattle.pool_settings.specs.Slots.{slots as slot_count}
use Rattle.pool_settings.specs.Planning.{instance_of, waiting_of}
use Rattle.plan_model.specs.Shown.{Shown}
use Rattle.worker_state.specs.declared.slot.Slot.{Slot}
use Rattle.worker_state.specs.declared.slot.Slot.TheVariants.{Empty, Live}
use Rattle.worker_state.specs.declared.slot.WorkerName.{WorkerName}
use Rattle.worker_state.specs.declared.order.Order.{Order}
use Rattle.worker_state.specs.declared.order.What.{What}
use Rattle.worker_state.specs.declared.order.What.TheVariants.{Idle, Work, Stop}
use Rattle.worker_state.specs.declared.cause.Cause.{Cause}
use Rattle.worker_state.specs.declared.job.Standing.{Standing}
use Rattle.worker_state.specs.declared.job.Standing.TheVariants as standing
use Rattle.worker_state.specs.Limits.{max_generation}
use Rattle.worker_state.specs.Slots.{has_generation, is_live, last_generation, run_count, held_ticket, closing_events}
use Rattle.worker_state.specs.Orders.{no_order}
use Rattle.pool_core.specs.declared.event.Job.{Job}
use Rattle.pool_core.specs.declared.event.Event.{Event}
use Rattle.pool_core.specs.declared.event.Event.TheVariants as event

-- The state. By slot: what it holds, when its last grab was, its order. By ticket, from 1: what was assigned, and its state.
pub record State : Type 0 where
  pub slots : List Slot
  pub grab_times : List ℕ
  pub orders : List Order
  pub load : Option (List Line)
  pub jobs : List Job
  pub standings : List Standing
  pub previous : Option (List (ℕ × Option ℕ))
  pub rounds : ℕ

abbrev pub first : Settings → State
first settings =
    record {
      slots = replicate (slot_count settings) (Empty 0);
      grab_times = replicate (slot_count settings) 0;
      orders = replicate (slot_count settings) no_order;
      load = None;
      jobs = [];
      standings = [];
      previous = None;
      rounds = 0;
    }

-- what the slot holds; a slot that is not there holds nothing
abbrev pub slot_in : List Slot → ℕ → Slot
slot_in slots slot = slice_index_or slots slot (Empty 0)

-- the ticket is open in the slot
abbrev pub has_open : Option ℕ → ℕ → Bool
has_open None ticket = false
has_open (Some own) ticket = own == ticket

-- the state of the ticket's job, if it was given
abbrev pub standing_in : List Standing → ℕ → Option Standing
standing_in standings ticket = if ticket == 0 then None else slice_get standings (ticket - 1)

abbrev pub job_at : List Job → ℕ → Option Job
job_at jobs ticket = if ticket == 0 then None else slice_get jobs (ticket - 1)

abbrev pub is_live_in : State → WorkerName → Bool
is_live_in state worker = has_generation (slot_in state.slots worker.slot) worker.generation

abbrev pub open_ticket : State → WorkerName → Option ℕ
open_ticket state worker = held_ticket (slot_in state.slots worker.slot)

abbrev pub next_ticket : State → ℕ
next_ticket state = length state.standings + 1

-- what a round has to plan for
abbrev pub input_of : Settings → State → List Line → Instance
input_of settings state load = instance_of settings (map is_live state.slots) (waiting_of settings load)

abbrev pub IsPossible : Settings → Event → State → Type 0
IsPossible settings (event.Join slot) state =
    (slot < length state.slots) × (is_live (slot_in state.slots slot) ≡ false)
    × (last_generation (slot_in state.slots slot) < max_generation)
IsPossible settings (event.Load load) state = Unit {0}
IsPossible settings (event.Round answer) state =
    (load : List Line) × (state.load ≡ Some load) × IsInstance (input_of settings state load) × Shown (input_of settings state load) answer
IsPossible settings (event.Grab worker handle function now) state =
    IsTrue (is_live_in state worker) × (open_ticket state worker ≡ None)
IsPossible settings (event.Begin worker ticket) state =
    IsTrue (is_live_in state worker) × IsTrue (has_open (open_ticket state worker) ticket)
    × (standing_in state.standings ticket ≡ Some standing.Running)
IsPossible settings (event.Reported worker ticket end) state =
    IsTrue (is_live_in state worker) × IsTrue (has_open (open_ticket state worker) ticket)
    × (standing_in state.standings ticket ≡ Some standing.Reporting)
IsPossible settings (event.Lost worker cause) state = IsTrue (is_live_in state worker)

-- what a worker is to do with this function, or without one
abbrev pub what_of : Option ℕ → What
what_of None = Idle
what_of (Some function) = Work function

abbrev pub same_what : What → What → Bool
same_what Idle Idle = true
same_what (Work f) (Work g) = f == g
same_what Stop Stop = true
same_what Idle (Work g) = false
same_what Idle Stop = false
same_what (Work f) Idle = false
same_what (Work f) Stop = false
same_what Stop Idle = false
same_what Stop (Work g) = false

-- the order of a slot after a round: one whose function and generation stay keeps its number
abbrev pub ordered : What → ℕ → Slot → Order → Order
ordered what round (Empty last) order = order
ordered what round (Live generation runs ticket) order =
    if (order.generation == generation) && same_what order.what what
    then order
    else record { generation = generation; round = round; what = what }

abbrev pub orders_from : ℕ → List (ℕ × Option ℕ) → ℕ → List Slot → List Order → List Order
orders_from number plan round [] orders = orders
orders_from number plan round (slot ∷ slots) [] = []
orders_from number plan round (slot ∷ slots) (order ∷ orders) =
    ordered (what_of (assigned plan number)) round slot order ∷ orders_from (number + 1) plan round slots orders

abbrev pub after_round : Answer → State → State
after_round (answers.Planned plan backlog short) state =
    record state {
      orders = orders_from 0 plan (state.rounds + 1) state.slots state.orders;
      previous = Some plan;
      rounds = state.rounds + 1;
    }
after_round (answers.NoPlan short) state = record state { rounds = state.rounds + 1 }

abbrev pub with_slot : State → ℕ → Slot → List Slot
with_slot state slot to = slice_set state.slots slot to

abbrev pub with_standing : List Standing → ℕ → Standing → List Standing
with_standing standings ticket to = slice_set standings (ticket - 1) to

-- an open ticket is lost
abbrev pub with_lost : List Standing → Option ℕ → WorkerName → Cause → List Standing
with_lost standings None worker cause = standings
with_lost standings (Some ticket) worker cause = with_standing standings ticket (standing.Lost worker cause)

-- the slot after one more run
abbrev pub slot_after_run : Settings → ℕ → ℕ → Slot
slot_after_run settings generation runs =
    if nat_lt (runs + 1) settings.max_runs then Live generation (runs + 1) None else Empty generation

abbrev pub after : Settings → Event → State → State
after settings (event.Join slot) state =
    record state {
      slots = with_slot state slot (Live (last_generation (slot_in state.slots slot) + 1) 0 None);
      orders = slice_set state.orders slot (record { generation = last_generation (slot_in state.slots slot) + 1; round = 0; what = Idle });
    }
after settings (event.Load load) state = record state { load = Some load }
after settings (event.Round answer) state = after_round answer state
after settings (event.Grab worker handle function now) state =
    record state {
      slots = with_slot state worker.slot (Live worker.generation (run_count (slot_in state.slots worker.slot)) (Some (next_ticket state)));
      grab_times = slice_set state.grab_times worker.slot now;
      jobs = state.jobs ++ record { handle = handle; function = function } ∷ [];
      standings = state.standings ++ standing.Running ∷ [];
    }
after settings (event.Begin worker ticket) state =
    record state { standings = with_standing state.standings ticket standing.Reporting }
after settings (event.Reported worker ticket end) state =
    record state {
      slots = with_slot state worker.slot (slot_after_run settings worker.generation (run_count (slot_in state.slots worker.slot)));
      standings = with_standing state.standings ticket (standing.Reported end);
    }
after settings (event.Lost worker cause) state =
    record state {
      slots = with_slot state worker.slot (Empty worker.generation);
      standings = with_lost state.standings (open_ticket state worker) worker cause;
    }

-- the state after a list of events
abbrev pub replay : Settings → State → List Event → State
replay settings state [] = state
replay settings state (event ∷ events) = replay settings (after settings event state) events

-- each event was possible in its place
abbrev pub IsHistory : Settings → State → List Event → Type 0
IsHistory settings state [] = Unit {0}
IsHistory settings state (event ∷ events) = IsPossible settings event state × IsHistory settings (after settings event state) events

-- the events are a history from the base, and the state is their replay
pub record IsReplay (settings : Settings) (base : State) (events : List Event) (state : State) : Type 0 where
  pub history : IsHistory settings base events
  pub replayed : state ≡ replay settings base events

-- events that may still come without asking: a worker's last one, and those that close its job
abbrev pub owed : State → ℕ
owed state = count_by is_live state.slots + sum_by closing_events state.standings
