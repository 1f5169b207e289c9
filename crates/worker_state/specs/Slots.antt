-- What a slot and a standing say.
use Rattle.std.specs.Prelude.{ℕ, ◌==◌, Option, None, Some, Bool, true, false}
use Rattle.worker_state.specs.declared.slot.Slot.{Slot}
use Rattle.worker_state.specs.declared.slot.Slot.TheVariants.{Empty, Live}
use Rattle.worker_state.specs.declared.job.Standing.{Standing}
use Rattle.worker_state.specs.declared.job.Standing.TheVariants.{Running, Reporting, Reported, Lost}

abbrev pub is_live : Slot → Bool
is_live (Empty last) = false
is_live (Live generation runs ticket) = true

-- the worker of that generation is in the slot
abbrev pub has_generation : Slot → ℕ → Bool
has_generation (Empty last) generation = false
has_generation (Live own runs ticket) generation = own == generation

-- the generation of the last worker, live or not; 0 if there was none
abbrev pub last_generation : Slot → ℕ
last_generation (Empty last) = last
last_generation (Live generation runs ticket) = generation

abbrev pub run_count : Slot → ℕ
run_count (Empty last) = 0
run_count (Live generation runs ticket) = runs

-- the open ticket
abbrev pub held_ticket : Slot → Option ℕ
held_ticket (Empty last) = None
held_ticket (Live generation runs ticket) = ticket

abbrev pub is_running : Standing → Bool
is_running Running = true
is_running Reporting = false
is_running (Reported end) = false
is_running (Lost worker cause) = false

abbrev pub is_reporting : Standing → Bool
is_reporting Running = false
is_reporting Reporting = true
is_reporting (Reported end) = false
is_reporting (Lost worker cause) = false

-- a job that is neither reported nor lost
abbrev pub is_open : Standing → Bool
is_open Running = true
is_open Reporting = true
is_open (Reported end) = false
is_open (Lost worker cause) = false

abbrev pub is_reported : Standing → Bool
is_reported Running = false
is_reported Reporting = false
is_reported (Reported end) = true
is_reported (Lost worker cause) = false

abbrev pub is_lost : Standing → Bool
is_lost Running = false
is_lost Reporting = false
is_lost (Reported end) = false
is_lost (Lost worker cause) = true

-- how many events are still to come of a job before its worker's last one
abbrev pub closing_events : Standing → ℕ
closing_events Running = 2
closing_events Reporting = 1
closing_events (Reported end) = 0
closing_events (Lost worker cause) = 0
