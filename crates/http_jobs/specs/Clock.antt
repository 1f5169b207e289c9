-- The times that a clock shows, and a deadline.
use Rattle.std.specs.List.{AllByRecursion}
use Rattle.std.specs.Prelude.{◌≡◌, ℕ, true, false, List, [], ◌∷◌, ◌++◌, Option, option_map}
use Rattle.byte_io.specs.Deadline.{is_past}

-- the times shown so far, if they are known, and these more
abbrev pub shown_then : Option (List (Option ℕ)) → List (Option ℕ) → Option (List (Option ℕ))
shown_then before more = option_map (λ times. times ++ more) before

-- the deadline had come at none of these times
abbrev pub InTime : Option ℕ → List (Option ℕ) → Type 0
InTime deadline times = AllByRecursion (λ time. is_past deadline time ≡ false) times

-- it had come at the last of these times, and at none before
abbrev pub IsLate : Option ℕ → List (Option ℕ) → Type 0
IsLate deadline times =
    (before : List (Option ℕ)) × (last : Option ℕ) × (times ≡ before ++ last ∷ []) × InTime deadline before × (is_past deadline last ≡ true)
