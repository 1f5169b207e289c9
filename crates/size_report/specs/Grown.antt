-- The names of the workers of a farm that has grown: those of the settings, and the added ones of a machine numbered on from its last.
use Rattle.std.specs.Prelude.{ℕ, ◌+◌, ◌-◌, ◌^◌, List, ◌==◌, nat_lt, nat_le, slice_index, slice_index_or, Option, Some, None}
use Rattle.std.specs.Prelude.{option_and_then, false, if◌then◌else◌}
use Rattle.std.specs.List.{prefix_len, slice_get}
use Rattle.std.specs.Option.{option_map_or, option_or}
use Rattle.text_pieces.specs.Numbers.{plain_number_below}
use Rattle.pool_report.specs.Report.{Worker}
use Rattle.pool_settings.specs.Names.{name_at, place_of}
use Rattle.pool_settings.specs.Settings.{Settings}
use Rattle.pool_settings.specs.Slots.{machine_of, parts_of, slot_named, slots, worker_number}

-- how many of the added workers are on lower machines
abbrev pub first_added : List ℕ → ℕ → ℕ
first_added added machine = prefix_len (λ other. nat_lt other machine) added

-- ---- from a slot to the worker

-- the machine of the added worker at a place, from 0
abbrev pub machine_at : List ℕ → ℕ → ℕ
machine_at added place = slice_index_or added place 0

-- the number of the added worker at a place: it is numbered on from the last worker of its machine
abbrev pub number_at : Settings → List ℕ → ℕ → ℕ
number_at settings added place =
    slice_index settings.workers (machine_at added place) + (place - first_added added (machine_at added place))

abbrev pub worker_at : Settings → List ℕ → ℕ → ℕ × ℕ
worker_at settings added place = (machine_at added place, number_at settings added place)

-- the machine and the number of a slot's worker, of the settings or added
abbrev pub worker_of : Settings → List ℕ → ℕ → ℕ × ℕ
worker_of settings added slot =
    if nat_lt slot (slots settings) then (machine_of settings slot, worker_number settings slot)
    else worker_at settings added (slot - slots settings)

-- a slot's worker with its function, as its line names it
abbrev pub told_worker : Settings → List ℕ → ℕ → ℕ → Worker
told_worker settings added slot f = record {
  machine = name_at settings.machines (worker_of settings added slot).0;
  number = (worker_of settings added slot).1;
  function = Some (name_at settings.functions f);
}

-- ---- from a worker's name to the slot

-- the slot of the added worker at a place, if that is on this machine
abbrev pub slot_if_on : Settings → List ℕ → ℕ → ℕ → Option ℕ
slot_if_on settings added machine place =
    if option_map_or (λ other. other == machine) (slice_get added place) false then Some (slots settings + place) else None

abbrev pub added_slot_at : Settings → List ℕ → ℕ → ℕ → Option ℕ
added_slot_at settings added machine number =
    if nat_le (slice_index settings.workers machine) number
    then slot_if_on settings added machine (first_added added machine + (number - slice_index settings.workers machine))
    else None

abbrev pub added_slot_of_digits : Settings → List ℕ → List ℕ → ℕ → Option ℕ
added_slot_of_digits settings added digits machine =
    option_and_then (added_slot_at settings added machine) (plain_number_below (2 ^ 32) digits)

abbrev pub added_slot_of_parts : Settings → List ℕ → List ℕ × List ℕ → Option ℕ
added_slot_of_parts settings added parts =
    option_and_then (added_slot_of_digits settings added parts.1) (place_of settings.machines parts.0)

abbrev pub added_slot_named : Settings → List ℕ → List ℕ → Option ℕ
added_slot_named settings added name = option_and_then (added_slot_of_parts settings added) (parts_of name)

-- the slot of a worker's name, of the settings or added
abbrev pub grown_slot_named : Settings → List ℕ → List ℕ → Option ℕ
grown_slot_named settings added name = option_or (slot_named settings name) (added_slot_named settings added name)
