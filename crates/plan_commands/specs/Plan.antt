-- What `plan` writes, and how it ends.
use Rattle.std.specs.Prelude.{◌≡◌, ◌⊎◌, ℕ, List, Ok, Err}
use Rattle.byte_io.specs.Sides.{Met, Output}
use Rattle.plan_model.specs.Shown.{Shown}
use Rattle.plan_model.specs.declared.answer.Answer.{Answer}
use Rattle.plan_model.specs.declared.answer.Answer.TheVariants.{Planned, NoPlan}
use Rattle.pool_report.specs.Answered.{report_text}
use Rattle.plan_commands.specs.Ending.{Delivers, Stops}
use Rattle.plan_commands.specs.Fault.{answered}
use Rattle.plan_commands.specs.Posing.{Poses}
use Rattle.plan_commands.specs.declared.ending.Exit.{Exit}
use Rattle.plan_commands.specs.declared.fault.Fault.{Fault}
use Rattle.plan_commands.specs.declared.fault.Fault.TheVariants.{Memory}
use Rattle.plan_commands.specs.declared.problem.Problem.{Problem}

-- 0 with a plan, 1 without
abbrev pub status_with : Answer → ℕ
status_with (Planned plan backlog short) = 0
status_with (NoPlan short) = 1

-- The report of an answer is written that is shown for the problem, and so is best. Or memory is refused, and nothing is written.
abbrev pub WritesReport : Problem → Output → Output → Exit → Type 0
WritesReport p old new exit =
    ((answer : Answer) × Shown p.input answer
    × Delivers (report_text p.settings p.input answer) (answered (status_with answer)) old new exit)
    ⊎ Stops Memory old new exit

-- Settings, lost workers and status text pose a problem, and a best answer to it is reported. Or they pose none, by a fault, and nothing
-- is written.
abbrev pub Plans : List ℕ → List (List ℕ) → Met → Output → Output → Exit → Type 0
Plans settings_text lost met old new exit =
    ((posed : Problem) × Poses settings_text lost met (Ok posed) × WritesReport posed old new exit)
    ⊎ ((fault : Fault) × Poses settings_text lost met (Err fault) × Stops fault old new exit)
