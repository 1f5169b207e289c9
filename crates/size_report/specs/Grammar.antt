-- The texts of a size, by their lines and the names of the settings.
use Rattle.std.specs.Prelude.{◌≡◌, ℕ, ◌+◌, ◌<◌, ◌≤◌, ◌^◌, ◌↔◌, ◌++◌, List, [], ◌∷◌, Option, Some, None, Ok, codes, length, replicate}
use Rattle.std.specs.List.{flat_map}
use Rattle.plan_sizing.specs.declared.size.Obstacle.{Obstacle}
use Rattle.plan_sizing.specs.declared.size.Obstacle.TheVariants.{AboveMost, NoMachine}
use Rattle.plan_sizing.specs.declared.size.Size.{Size}
use Rattle.plan_sizing.specs.declared.size.Size.TheVariants.{Enough, Never, TooMany}
use Rattle.pool_report.specs.Grammar.{IsSet, IsSetOrNone}
use Rattle.pool_report.specs.Report.{Short, short_if, short_lines}
use Rattle.pool_settings.specs.Names.{name_at}
use Rattle.pool_settings.specs.Settings.{Settings}
use Rattle.pool_settings.specs.Slots.{slots}
use Rattle.size_report.specs.Reading.{size_meaning}
use Rattle.size_report.specs.Text.{add_line, level_line, obstacle_line, on_line, task_if, too_many_line}
use Rattle.text_pieces.specs.Lines.{ended}

-- a level of at least 1, or none
abbrev pub IsLevelOrNone : Option ℕ → Type 0
IsLevelOrNone None = Unit {0}
IsLevelOrNone (Some level) = (0 < level) × (level < 2 ^ 32)

-- The text has these lines between `size 1` and `level`, with any level, and `end`.
abbrev pub IsAround : List ℕ → List ℕ → Type 0
IsAround lines text =
    (level : Option ℕ) × IsLevelOrNone level × (text ≡ ended (codes "size 1") ++ level_line level ++ lines ++ ended (codes "end"))

-- ---- an addition with its plan

-- Machines of the settings, each above the one before and the first not below a number, each with how many workers it gets, at least one.
abbrev pub AreAdded : Settings → ℕ → List (ℕ × ℕ) → Type 0
AreAdded settings next [] = Unit {0}
AreAdded settings next (machine ∷ machines) =
    (next ≤ machine.0) × (machine.0 < length settings.machines) × (0 < machine.1) × AreAdded settings (machine.0 + 1) machines

-- the line of a machine, with how many workers it gets
abbrev pub machine_line : Settings → ℕ × ℕ → List ℕ
machine_line settings machine = on_line (name_at settings.machines machine.0) machine.1

-- the machine of each added worker
abbrev pub machines_added : List (ℕ × ℕ) → List ℕ
machines_added machines = flat_map (λ machine. replicate machine.1 machine.0) machines

-- So many slots are there. These are of them, each above the one before and the first not below a number, each with a function of the
-- settings.
abbrev pub AreWorkers : Settings → ℕ → ℕ → List (ℕ × Option ℕ) → Type 0
AreWorkers settings many next [] = Unit {0}
AreWorkers settings many next ((slot, Some f) ∷ workers) =
    (next ≤ slot) × (slot < many) × (f < length settings.functions) × AreWorkers settings many (slot + 1) workers
AreWorkers settings many next ((slot, None) ∷ workers) = ⊥

-- The lines are `add N` with any N, `on` for each machine that gets workers, `work` for each worker that has a function, of the settings or
-- added, and those of a set with any sums, or of none.
abbrev pub IsAddition : Settings → List ℕ → List ℕ → List (ℕ × Option ℕ) → Option (List ℕ) → Type 0
IsAddition settings text added workers set =
    (many : ℕ) × (machines : List (ℕ × ℕ)) × (short : Option Short)
    × IsAround
    (add_line many ++ flat_map (machine_line settings) machines ++ flat_map (task_if settings added) workers ++ short_if short) text
    × (many < 2 ^ 32) × AreAdded settings 0 machines × (added ≡ machines_added machines) × (length added ≤ 4096)
    × AreWorkers settings (slots settings + length added) 0 workers × IsSetOrNone settings short set

-- ---- no addition

-- A function of the settings, with numbers that the line can hold.
abbrev pub IsObstacle : Settings → Obstacle → Type 0
IsObstacle settings (AboveMost f need most) = (f < length settings.functions) × (need < 2 ^ 32) × (most < 2 ^ 32)
IsObstacle settings (NoMachine f need) = (f < length settings.functions) × (need < 2 ^ 32)

-- ---- the whole text

-- The text is one of this size. The level, the number after `add`, and what the set needs and has, a size does not hold: there the text may
-- have any.
abbrev pub IsTextOf : Settings → List ℕ → Size → Type 0
IsTextOf settings text (Enough added workers set) = IsAddition settings text added workers set
IsTextOf settings text (Never obstacle) = IsAround (obstacle_line settings obstacle) text × IsObstacle settings obstacle
IsTextOf settings text (TooMany many set) =
    (short : Short) × IsSet settings short set × IsAround (too_many_line many ++ short_lines short) text × (many < 2 ^ 64)

-- A text means a size exactly if it is a text of that size.
abbrev pub AreTextsSizes : Settings → Type 0
AreTextsSizes settings = (text : List ℕ) (size : Size) → (size_meaning settings text ≡ Ok size) ↔ IsTextOf settings text size
