-- How a worker changes the function that it has registered.
use Rattle.std.specs.Prelude.{◌≡◌, ℕ, ◌≤◌, List, [], ◌∷◌, length, Option, Some, None, if◌then◌else◌}
use Rattle.std.specs.Option.{option_map, option_to_list}
use Rattle.std.specs.Borrow.{Bor}
use Rattle.gear_packets.specs.Request.{Packet, can_do, cant_do}
use Rattle.gear_packets.specs.Text.{is_same_name, register}

-- the name after a reference
abbrev pub seen_name : Option (Bor (List ℕ)) → Option (List ℕ)
seen_name name = option_map (λ n. n.now) name

-- CANT_DO of the old function and then CAN_DO of the new one, each if it is needed.
abbrev pub change_of : Option (List ℕ) → Option (List ℕ) → List (Option Packet)
change_of None None = None ∷ None ∷ []
change_of None (Some to) = None ∷ Some (can_do to) ∷ []
change_of (Some from) None = Some (cant_do from) ∷ None ∷ []
change_of (Some from) (Some to) =
    if is_same_name from to then None ∷ None ∷ [] else Some (cant_do from) ∷ Some (can_do to) ∷ []

-- the functions that are registered after a packet, or after none
abbrev pub registered_after : List (List ℕ) → Option Packet → List (List ℕ)
registered_after names None = names
registered_after names (Some p) = register names p

-- After each packet at most one function is registered, and after the last the one that is wanted, or none.
abbrev pub LeadsBy : List (List ℕ) → List (Option Packet) → List (List ℕ) → Type 0
LeadsBy names [] wanted = names ≡ wanted
LeadsBy names (p ∷ ps) wanted = (length (registered_after names p) ≤ 1) × LeadsBy (registered_after names p) ps wanted

abbrev pub RegistersTo : Option (List ℕ) → List (Option Packet) → Option (List ℕ) → Type 0
RegistersTo from ps to = LeadsBy (option_to_list from) ps (option_to_list to)
