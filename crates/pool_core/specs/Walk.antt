-- What a walk over the slots meets.
use Rattle.std.specs.Prelude.{ℕ, ◌+◌, List, [], ◌∷◌, if◌then◌else◌}
use Rattle.worker_state.specs.declared.slot.Slot.{Slot}
use Rattle.worker_state.specs.Slots.{is_live}

-- the live workers among the slots from a number on, as slot and machine, given each slot's machine
abbrev pub live_from : ℕ → List ℕ → List Slot → List (ℕ × ℕ)
live_from number [] slots = []
live_from number (machine ∷ machines) [] = []
live_from number (machine ∷ machines) (slot ∷ slots) =
    if is_live slot then (number, machine) ∷ live_from (number + 1) machines slots else live_from (number + 1) machines slots
