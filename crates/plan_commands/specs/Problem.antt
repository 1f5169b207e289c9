-- The planning problem that settings, lost workers and a load pose, or their first fault.
use Rattle.std.specs.Prelude.{ℕ, ◌==◌, List, map, take, length, nat_le, Bool, not, is_some, Result, Ok, Err, if◌then◌else◌}
use Rattle.std.specs.List.{filter_map, list_all, list_any, prefix_len, range_with_len}
use Rattle.devices.specs.Whole.{limit}
use Rattle.gear_status.specs.Status.{Line, status}
use Rattle.gear_status.specs.declared.error.StatusError.{StatusError}
use Rattle.gear_status.specs.declared.error.StatusError.TheVariants.{Truncated}
use Rattle.pool_settings.specs.Planning.{instance_of, waiting_of}
use Rattle.pool_settings.specs.Settings.{Settings}
use Rattle.pool_settings.specs.Slots.{slot_named, slots}
use Rattle.plan_commands.specs.Fault.{status_fault}
use Rattle.plan_commands.specs.declared.fault.Fault.{Fault}
use Rattle.plan_commands.specs.declared.fault.Fault.TheVariants as fault
use Rattle.plan_commands.specs.declared.problem.Problem.{Problem}

-- each lost worker is one of the settings
abbrev pub are_workers : Settings → List (List ℕ) → Bool
are_workers settings lost = list_all (λ name. is_some (slot_named settings name)) lost

-- the place of the first lost worker that is none of the settings
abbrev pub unknown_place : Settings → List (List ℕ) → ℕ
unknown_place settings lost = prefix_len (λ name. is_some (slot_named settings name)) lost

abbrev pub lost_slots : Settings → List (List ℕ) → List ℕ
lost_slots settings lost = filter_map (slot_named settings) lost

-- by slot, whether its worker is live: all are but the lost ones
abbrev pub live_marks : Settings → List (List ℕ) → List Bool
live_marks settings lost = map (λ slot. not (list_any (λ l. l == slot) (lost_slots settings lost))) (range_with_len 0 (slots settings))

abbrev pub problem_of : Settings → List (List ℕ) → List Line → Problem
problem_of settings lost load =
    record { settings = settings; input = instance_of settings (live_marks settings lost) (waiting_of settings load) }

-- a value, or the fault of its error
abbrev pub or_fault : {A E : Type 0} → (E → Fault) → Result A E → Result A Fault
or_fault fault_of (Ok value) = Ok value
or_fault fault_of (Err error) = Err (fault_of error)

abbrev pub then_on : {A B : Type 0} → Result A Fault → (A → Result B Fault) → Result B Fault
then_on (Ok value) next = next value
then_on (Err f) next = Err f

abbrev pub problem_with : List (List ℕ) → Result (List Line) Fault → Settings → Result Problem Fault
problem_with lost load settings =
    if are_workers settings lost then then_on load (λ lines. Ok (problem_of settings lost lines))
    else Err (fault.UnknownWorker (unknown_place settings lost))

-- The problem that the settings which were read, lost workers and a load pose, or the first fault: the settings are looked at first, then
-- the lost workers and then the load.
abbrev pub problem : Result Settings Fault → List (List ℕ) → Result (List Line) Fault → Result Problem Fault
problem settings lost load = then_on settings (problem_with lost load)

-- the load of a status text that is there whole
abbrev pub load_of : List ℕ → Result (List Line) Fault
load_of text = or_fault status_fault (status text)

-- a text that is undecided at the limit is too long
abbrev pub cut_fault : StatusError → Fault
cut_fault Truncated = fault.TooLong
cut_fault other = status_fault other

-- the load of the bytes that a device gave, of which no more than the limit are looked at
abbrev pub load_within : List ℕ → Result (List Line) Fault
load_within bytes =
    if nat_le (length bytes) limit then load_of bytes else or_fault cut_fault (status (take limit bytes))
