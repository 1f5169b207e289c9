-- What every state that a history leads to has, and what a pool keeps beside its state.
use Rattle.pool_settings.specs.Slots.{slots as slot_count}
use Rattle.std.specs.Prelude.{◌≡◌, ℕ, ◌+◌, ◌-◌, ◌<◌, ◌≤◌, List, [], length, Option, None, Some, true, false, slice_index_or, count_by}
use Rattle.pool_settings.specs.Settings.{Settings, AreSettings}
use Rattle.worker_state.specs.declared.slot.Slot.{Slot}
use Rattle.worker_state.specs.declared.slot.Slot.TheVariants.{Empty}
use Rattle.worker_state.specs.declared.job.Standing.{Standing}
use Rattle.worker_state.specs.declared.job.Standing.TheVariants.{Running}
use Rattle.worker_state.specs.Orders.{no_order, IsOrder}
use Rattle.worker_state.specs.Limits.{max_generation}
use Rattle.worker_state.specs.Slots.{last_generation, run_count, held_ticket, is_open, is_reported, is_lost, closing_events}
use Rattle.pool_core.specs.declared.event.Event.{Event}
use Rattle.pool_core.specs.Machine.{State, first, IsReplay, owed, standing_in}
use Rattle.pool_core.specs.Book.{Book}

-- the ticket is open in the slot of that number
abbrev pub OpensAt : List Slot → ℕ → ℕ → Type 0
OpensAt slots slot ticket = held_ticket (slice_index_or slots slot (Empty 0)) ≡ Some ticket

-- the ticket was given, and its job is running or being reported
pub record IsOpenTicket (standings : List Standing) (ticket : ℕ) : Type 0 where
  pub from_one : 0 < ticket
  pub given : ticket ≤ length standings
  pub goes_on : is_open (slice_index_or standings (ticket - 1) Running) ≡ true

-- Each slot's worker is within its limits, and the jobs that go on are those that live workers hold, each by one.
pub record IsSoundState (settings : Settings) (state : State) : Type 0 where
  pub slots : length state.slots ≡ slot_count settings
  pub grab_times : length state.grab_times ≡ slot_count settings
  pub orders : length state.orders ≡ slot_count settings
  pub jobs : length state.jobs ≡ length state.standings
  pub generations : (s : ℕ) → last_generation (slice_index_or state.slots s (Empty 0)) ≤ max_generation
  pub ranges : (s : ℕ) → IsOrder (slice_index_or state.orders s no_order)
  pub runs : (s : ℕ) → run_count (slice_index_or state.slots s (Empty 0)) < settings.max_runs
  pub tickets : (s : ℕ) (k : ℕ) → OpensAt state.slots s k → IsOpenTicket state.standings k
  pub alone : (s t : ℕ) (k : ℕ) → OpensAt state.slots s k → OpensAt state.slots t k → s ≡ t
  pub held : (k : ℕ) → IsOpenTicket state.standings k → (s : ℕ) × OpensAt state.slots s k

-- how many events are owed for the job of the ticket that is open
abbrev pub closing_of : List Standing → Option ℕ → ℕ
closing_of standings None = 0
closing_of standings (Some ticket) = closing_events (slice_index_or standings (ticket - 1) Running)

-- how many jobs end if the worker with this open ticket is lost
abbrev pub lost_of : Option ℕ → ℕ
lost_of None = 0
lost_of (Some ticket) = 1

-- The base of a chapter, after so many have ended: the events of those lead to it from the first state.
pub record IsBase (settings : Settings) (chapters : ℕ) (base : State) : Type 0 where
  pub before : List Event
  pub none_before : chapters ≡ 0 → before ≡ []
  pub replays : IsReplay settings (first settings) before base

-- The events of a chapter lead from its base to the state.
pub record IsChapter (settings : Settings) (chapters : ℕ) (events : List Event) (state : State) : Type 0 where
  pub base : State
  pub begins : IsBase settings chapters base
  pub replays : IsReplay settings base events state

-- the jobs of the first tickets were given, and each is reported or lost
abbrev pub AreClosed : List Standing → ℕ → Type 0
AreClosed standings forgotten = (k : ℕ) → 0 < k → k ≤ forgotten → (x : Standing) × (standing_in standings k ≡ Some x) × (is_open x ≡ false)

-- the running counts and the room that a pool keeps
pub record IsKeptBook (book : Book) (owes reported lost capacity : ℕ) : Type 0 where
  pub in_range : AreSettings book.settings
  pub history : IsChapter book.settings book.chapters book.events book.state
  pub sound : IsSoundState book.settings book.state
  pub owes_is : owes ≡ owed book.state
  pub reported_is : reported ≡ count_by is_reported book.state.standings
  pub lost_is : lost ≡ count_by is_lost book.state.standings
  pub prefix : AreClosed book.state.standings book.forgotten
  pub within : length book.events + owes ≤ book.settings.history
  pub reserved : length book.events + owes ≤ capacity
