-- How often a service manager wants to be told that a program is alive.
use Rattle.std.specs.Prelude.{ℕ, ◌/◌, ◌^◌, ◌==◌, List, Option, None, Some, if◌then◌else◌}
use Rattle.std.specs.Option.{option_and_then}
use Rattle.text_pieces.specs.Numbers.{number_below}

-- half of so many microseconds in milliseconds, if that is one or more
abbrev pub half_in_ms : ℕ → Option ℕ
half_in_ms microseconds = if microseconds / 2000 == 0 then None else Some (microseconds / 2000)

abbrev pub alive_every_ms : List ℕ → Option ℕ
alive_every_ms text = option_and_then half_in_ms (number_below (2 ^ 64) text)
