-- The text of a size: its lines in order, each ended by a line feed.
use Rattle.std.specs.Prelude.{ℕ, List, [], ◌++◌, ◌==◌, nat_lt, count_by, length, map, option_map, sum_by}
use Rattle.std.specs.Prelude.{Option, Some, None, codes, if◌then◌else◌}
use Rattle.std.specs.List.{flat_map, range_with_len}
use Rattle.std.specs.Fmt.{decimal}
use Rattle.plan_model.specs.Planning.{machines_of, may_do, neighbours}
use Rattle.plan_sizing.specs.Sizing.{Farm, need}
use Rattle.plan_sizing.specs.declared.size.Obstacle.{Obstacle}
use Rattle.plan_sizing.specs.declared.size.Obstacle.TheVariants.{AboveMost, NoMachine}
use Rattle.plan_sizing.specs.declared.size.Size.{Size}
use Rattle.plan_sizing.specs.declared.size.Size.TheVariants.{Enough, Never, TooMany}
use Rattle.pool_report.specs.Report.{Needed, Short, short_if, short_lines, worker_line}
use Rattle.pool_settings.specs.Names.{name_at}
use Rattle.pool_settings.specs.Settings.{Settings}
use Rattle.size_report.specs.Grown.{told_worker}
use Rattle.text_pieces.specs.Lines.{ended}

-- ---- single lines

abbrev pub level_line : Option ℕ → List ℕ
level_line None = ended (codes "level -")
level_line (Some level) = ended (codes "level " ++ decimal level)

abbrev pub add_line : ℕ → List ℕ
add_line many = ended (codes "add " ++ decimal many)

abbrev pub on_line : List ℕ → ℕ → List ℕ
on_line machine many = ended (codes "on " ++ machine ++ codes " " ++ decimal many)

abbrev pub above_most_line : List ℕ → ℕ → ℕ → List ℕ
above_most_line function need most =
    ended (codes "cannot 1 " ++ function ++ codes " need " ++ decimal need ++ codes " most " ++ decimal most)

abbrev pub no_machine_line : List ℕ → ℕ → List ℕ
no_machine_line function need = ended (codes "cannot 2 " ++ function ++ codes " need " ++ decimal need)

abbrev pub too_many_line : ℕ → List ℕ
too_many_line many = ended (codes "cannot 3 add " ++ decimal many)

-- ---- the addition and its plan

-- how many of the added workers are on a machine
abbrev pub added_on : List ℕ → ℕ → ℕ
added_on added machine = count_by (λ other. other == machine) added

abbrev pub on_if : Settings → List ℕ → ℕ → List ℕ
on_if settings added machine =
    if nat_lt 0 (added_on added machine) then on_line (name_at settings.machines machine) (added_on added machine) else []

-- a line for each machine with an addition
abbrev pub on_lines : Settings → List ℕ → List ℕ
on_lines settings added = flat_map (on_if settings added) (range_with_len 0 (length settings.machines))

-- a worker without a function has no line
abbrev pub task_if : Settings → List ℕ → ℕ × Option ℕ → List ℕ
task_if settings added (slot, None) = []
task_if settings added (slot, Some f) = worker_line (told_worker settings added slot f)

-- ---- the set of functions that is short of workers

abbrev pub needed_of : Settings → Farm → ℕ → Needed
needed_of settings farm f = record { function = name_at settings.functions f; need = need farm f }

abbrev pub short_of : Settings → Farm → List ℕ → Short
short_of settings farm set = record {
  need = sum_by (need farm) set;
  have = neighbours (may_do farm.problem) (machines_of farm.problem) set;
  functions = map (needed_of settings farm) set;
}

-- ---- the whole text

abbrev pub obstacle_line : Settings → Obstacle → List ℕ
obstacle_line settings (AboveMost f need most) = above_most_line (name_at settings.functions f) need most
obstacle_line settings (NoMachine f need) = no_machine_line (name_at settings.functions f) need

abbrev pub answer_lines : Settings → Farm → Size → List ℕ
answer_lines settings farm (Enough added entries short) =
    add_line (length added) ++ on_lines settings added ++ flat_map (task_if settings added) entries
    ++ short_if (option_map (short_of settings farm) short)
answer_lines settings farm (Never obstacle) = obstacle_line settings obstacle
answer_lines settings farm (TooMany many set) = too_many_line many ++ short_lines (short_of settings farm set)

abbrev pub size_text : Settings → Farm → Size → List ℕ
size_text settings farm size =
    ended (codes "size 1") ++ level_line farm.level ++ answer_lines settings farm size ++ ended (codes "end")
