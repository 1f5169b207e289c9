-- The time that there is to fill empty slots.
use Rattle.std.specs.Prelude.{ℕ, ◌-◌, Option, None, Some}

-- how many of so many milliseconds are left that began then, and 0 if a time is not known
abbrev pub time_left : ℕ → Option ℕ → Option ℕ → ℕ
time_left milliseconds (Some begun) (Some now) = milliseconds - (now - begun)
time_left milliseconds (Some begun) None = 0
time_left milliseconds None now = 0
