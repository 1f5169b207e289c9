-- What is known of a standard stream or a file.
use Rattle.std.specs.Io.KnownBytes.{Appends, Consumes, IsAtEnd}
use Rattle.std.specs.Prelude.{◌≡◌, ◌-◌, ℕ, Bool, false, true, List, [], length, take, Option, None, Some, option_map}
use Rattle.byte_io.specs.Sides.{Input, Output}

-- what a reader has given that reported from the start what it has left: what is before what it has left now
abbrev pub given_of : Option (List ℕ) → Option (List ℕ) → Option (List ℕ)
given_of None left = None
given_of (Some all) None = None
given_of (Some all) (Some left) = Some (take (length all - length left) all)

-- before the first read of a reader that has so much left
abbrev pub first_input : Option (List ℕ) → Input
first_input left = record { given = option_map (λ all. []) left; lulls = Some 0; failures = 0; has_ended = false }

-- What a reader has left is what it had at the start without a prefix, and nothing once it has ended.
abbrev pub IsLeft : Option (List ℕ) → Option (List ℕ) → Bool → Type 0
IsLeft first left ended = ((prefix : List ℕ) × Consumes first left prefix) × (ended ≡ true → IsAtEnd left)

-- what a writer holds that reported it from the start
abbrev pub held_of : Option (List ℕ) → Option (List ℕ) → Option (List ℕ)
held_of None now = None
held_of (Some first) now = now

-- What a writer holds begins with what it held at the start.
abbrev pub HasGrown : Option (List ℕ) → Option (List ℕ) → Type 0
HasGrown first now = (more : List ℕ) × Appends first now more

-- before the first write to a writer that holds so much
abbrev pub first_output : Option (List ℕ) → Output
first_output held = record { got = held; failures = 0 }
