-- How many workers a slot can have, and how many rounds, chapters and jobs a pool.
use Rattle.std.specs.Prelude.{ℕ, ◌-◌, ◌^◌}

-- the greatest generation of a slot's worker
abbrev pub max_generation : ℕ
max_generation = 262143

abbrev pub max_rounds : ℕ
max_rounds = 2 ^ 32 - 1

abbrev pub max_chapters : ℕ
max_chapters = 2 ^ 32 - 1

abbrev pub max_tickets : ℕ
max_tickets = 2 ^ 64 - 1
