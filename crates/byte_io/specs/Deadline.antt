-- Until when something has to be done.
use Rattle.std.specs.Prelude.{ℕ, ◌+◌, ◌-◌, ◌^◌, nat_le, min, Bool, false, Option, Some, None, option_map}

-- so many milliseconds after this time, if the time is known
abbrev pub deadline_from : ℕ → Option ℕ → Option ℕ
deadline_from limit start = option_map (λ time. min (time + limit) (2 ^ 64 - 1)) start

-- The deadline has come at this time. Without a deadline it never comes, nor at a time that is not known.
abbrev pub is_past : Option ℕ → Option ℕ → Bool
is_past (Some deadline) (Some time) = nat_le deadline time
is_past (Some deadline) None = false
is_past None time = false
