-- The last of a list.
use Rattle.std.specs.Prelude.{ℕ, ◌-◌, List, drop, length}

-- the last elements of a list, at most so many
abbrev pub last_of : {T : Type 0} → ℕ → List T → List T
last_of most items = drop (length items - most) items
