-- The text of a report: its lines in order, each ended by a line feed.
use Rattle.std.specs.Prelude.{ℕ, List, [], ◌++◌, Option, Some, None, codes}
use Rattle.std.specs.List.{flat_map}
use Rattle.std.specs.Fmt.{decimal}
use Rattle.plan_model.specs.Backlogs.{as_backlog, backlog_words}
use Rattle.text_pieces.specs.Lines.{ended}

-- what a report says, with names in the place of numbers
pub record Worker : Type 0 where
  pub machine : List ℕ
  pub number : ℕ
  pub function : Option (List ℕ)

pub record Needed : Type 0 where
  pub function : List ℕ
  pub need : ℕ

pub record Short : Type 0 where
  pub need : ℕ
  pub have : ℕ
  pub functions : List Needed

pub record Stranded : Type 0 where
  pub function : List ℕ
  pub waiting : ℕ

-- a plan with its backlog, or none
pub data Finding : Type 0 where
  planned : ℕ → List Worker → Option Short → Finding
  no_plan : Short → Finding

-- a backlog above all numbers of jobs counts what nobody serves
abbrev pub backlog_line : ℕ → List ℕ
backlog_line k = ended (backlog_words (as_backlog k))

abbrev pub name_of_worker : Worker → List ℕ
name_of_worker w = w.machine ++ codes "/" ++ decimal w.number

abbrev pub task_line : List ℕ → Option (List ℕ) → List ℕ
task_line name (Some function) = ended (codes "work " ++ name ++ codes " " ++ function)
task_line name None = ended (codes "idle " ++ name)

abbrev pub worker_line : Worker → List ℕ
worker_line w = task_line (name_of_worker w) w.function

abbrev pub needed_line : Needed → List ℕ
needed_line n = ended (codes "in " ++ n.function ++ codes " need " ++ decimal n.need)

abbrev pub short_line : ℕ → ℕ → List ℕ
short_line need have = ended (codes "short need " ++ decimal need ++ codes " have " ++ decimal have)

abbrev pub short_lines : Short → List ℕ
short_lines s = short_line s.need s.have ++ flat_map needed_line s.functions

abbrev pub stranded_line : Stranded → List ℕ
stranded_line s = ended (codes "stranded " ++ s.function ++ codes " " ++ decimal s.waiting)

abbrev pub short_if : Option Short → List ℕ
short_if None = []
short_if (Some s) = short_lines s

abbrev pub finding_lines : Finding → List ℕ
finding_lines (planned k workers short) = backlog_line k ++ flat_map worker_line workers ++ short_if short
finding_lines (no_plan short) = ended (codes "noplan") ++ short_lines short

abbrev pub report : Finding → List Stranded → List ℕ
report finding stranded =
    ended (codes "report 1") ++ finding_lines finding ++ flat_map stranded_line stranded ++ ended (codes "end")
