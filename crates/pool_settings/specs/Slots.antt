-- Slots, numbered by machine and then by the worker's number in its machine.
use Rattle.std.specs.Prelude.{◌≡◌, ℕ, ◌≤◌, ◌+◌, ◌-◌, ◌^◌, List, [], ◌∷◌, ◌++◌, take, sum, replicate, slice_index, slice_index_or, Bool}
use Rattle.std.specs.Prelude.{false, nat_lt, Option, Some, None, option_and_then, filter, if◌then◌else◌}
use Rattle.std.specs.List.{enumerate_from}
use Rattle.std.specs.Fmt.{decimal}
use Rattle.text_pieces.specs.Cuts.{cut_last}
use Rattle.text_pieces.specs.Numbers.{plain_number_below}
use Rattle.pool_settings.specs.Names.{name_at, place_of}
use Rattle.pool_settings.specs.Settings.{Settings}

-- the machine of each slot, given the workers of each machine from m on
abbrev pub owners_from : ℕ → List ℕ → List ℕ
owners_from m [] = []
owners_from m (n ∷ ns) = replicate n m ++ owners_from (m + 1) ns

abbrev pub owners : Settings → List ℕ
owners settings = owners_from 0 settings.workers

-- the slots of the machines' first workers, given that the slots from n on are theirs
abbrev pub firsts_from : ℕ → List ℕ → List ℕ
firsts_from n [] = []
firsts_from n (workers ∷ rest) = n ∷ firsts_from (n + workers) rest

-- what a table of slots keeps, with the workers of each machine, the first slot of each, and each slot's machine
pub record IsSlotTable (workers first slot_owners : List ℕ) : Type 0 where
  pub firsts : first ≡ firsts_from 0 workers
  pub owned : slot_owners ≡ owners_from 0 workers
  pub few : sum workers ≤ 4096

abbrev pub slots : Settings → ℕ
slots settings = sum settings.workers

-- the machine of a slot
abbrev pub machine_of : Settings → ℕ → ℕ
machine_of settings slot = slice_index (owners settings) slot

-- the slot of a machine's first worker
abbrev pub first_slot : Settings → ℕ → ℕ
first_slot settings machine = sum (take machine settings.workers)

-- the number of a slot's worker in its machine, from 0
abbrev pub worker_number : Settings → ℕ → ℕ
worker_number settings slot = slot - first_slot settings (machine_of settings slot)

-- ---- names of workers: `machine/number`

-- the slot of a machine's worker, if the machine has so many
abbrev pub slot_at : Settings → ℕ → ℕ → Option ℕ
slot_at settings machine number =
    if nat_lt number (slice_index settings.workers machine) then Some (first_slot settings machine + number) else None

abbrev pub slot_of_digits : Settings → List ℕ → ℕ → Option ℕ
slot_of_digits settings digits machine = option_and_then (slot_at settings machine) (plain_number_below (2 ^ 32) digits)

-- a worker's name cut at its last slash: the machine's name, and the number in digits
abbrev pub parts_of : List ℕ → Option (List ℕ × List ℕ)
parts_of name = cut_last 47 name

abbrev pub slot_of_parts : Settings → List ℕ × List ℕ → Option ℕ
slot_of_parts settings parts = option_and_then (slot_of_digits settings parts.1) (place_of settings.machines parts.0)

-- the slot of a worker's name
abbrev pub slot_named : Settings → List ℕ → Option ℕ
slot_named settings name = option_and_then (slot_of_parts settings) (parts_of name)

-- the name of a slot's worker
abbrev pub worker_name : Settings → ℕ → List ℕ
worker_name settings slot = name_at settings.machines (machine_of settings slot) ++ 47 ∷ decimal (worker_number settings slot)

-- the text that names it in one of its lives: its name, a hash sign and the generation in decimal
abbrev pub worker_text : Settings → ℕ → ℕ → List ℕ
worker_text settings slot generation = worker_name settings slot ++ 35 ∷ decimal generation

-- ---- live workers

-- all workers, as slot and machine
abbrev pub all_workers : Settings → List (ℕ × ℕ)
all_workers settings = enumerate_from 0 (owners settings)

-- the workers whose slots are marked; a slot without a mark is not live
abbrev pub live_workers : Settings → List Bool → List (ℕ × ℕ)
live_workers settings live = filter (λ worker. slice_index_or live worker.0 false) (all_workers settings)
