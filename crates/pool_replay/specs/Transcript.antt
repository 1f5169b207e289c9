-- What a run prints, and how it ends.
use Rattle.std.specs.Prelude.{ℕ, ◌≡◌, ◌+◌, List, [], ◌∷◌, ◌++◌, Some, None, ◌⊎◌}
use Rattle.std.specs.List.{slice_split}
use Rattle.std.specs.FinSet as set
use Rattle.pool_settings.specs.Settings.{Settings}
use Rattle.pool_core.specs.Machine.{first}
use Rattle.pool_commands.specs.declared.command.Command.{Command}
use Rattle.pool_commands.specs.Grammar.{command_in}
use Rattle.pool_replay.specs.declared.desk.Desk.{Desk}
use Rattle.pool_replay.specs.declared.running.End.{End}
use Rattle.pool_replay.specs.declared.running.End.TheVariants as end
use Rattle.pool_replay.specs.Step.{StepOf}
use Rattle.text_pieces.specs.Lines.{ended, is_line_feed}

-- what comes after the last line feed is a line if it holds a byte
abbrev pub last_line : List ℕ → List (List ℕ)
last_line [] = []
last_line (b ∷ bs) = (b ∷ bs) ∷ []

abbrev pub lines_of_parts : List (List ℕ) → List (List ℕ)
lines_of_parts [] = []
lines_of_parts (last ∷ []) = last_line last
lines_of_parts (line ∷ next ∷ rest) = line ∷ lines_of_parts (next ∷ rest)

-- the lines of a text, each without its line feed; the last may lack it
abbrev pub lines_of : List ℕ → List (List ℕ)
lines_of text = lines_of_parts (slice_split is_line_feed text)

-- a pool in which nothing has happened, without a pass or a view
abbrev pub first_desk : Settings → Desk
first_desk settings =
    record {
      pool = record { settings = settings; events = []; state = first settings; chapters = 0; forgotten = 0 };
      passes = set.empty;
      viewed = None;
    }

-- nothing more is printed: the line of that number is no command, or there was no memory
abbrev pub StopsAt : Settings → ℕ → List ℕ → List ℕ → End → Type 0
StopsAt settings number line output how =
    (output ≡ []) × (((how ≡ end.BadLine number) × (command_in settings line ≡ None)) ⊎ (how ≡ end.Memory))

-- The output of the lines from this number on, how their run ends, and at which desk: each line is a command, and what it prints
-- is one step of the desk. The run ends after the last line, at the first line that is no command, or at a line for which there was
-- no memory.
abbrev pub RunsTo : Settings → ℕ → Desk → List (List ℕ) → List ℕ → End → Desk → Type 0
RunsTo settings number desk [] output how last = (output ≡ []) × (how ≡ end.Done) × (last ≡ desk)
RunsTo settings number desk (line ∷ lines) output how last =
    (StopsAt settings number line output how × (last ≡ desk))
    ⊎ ((command : Command) × (answer : List ℕ) × (rest : List ℕ) × (next : Desk)
    × (command_in settings line ≡ Some command) × StepOf settings command desk answer next
    × (output ≡ ended answer ++ rest) × RunsTo settings (number + 1) next lines rest how last)

-- the same, wherever it ends
abbrev pub IsTranscript : Settings → ℕ → Desk → List (List ℕ) → List ℕ → End → Type 0
IsTranscript settings number desk lines output how = (last : Desk) × RunsTo settings number desk lines output how last

-- the line is a command, and what it prints was appended
abbrev pub AnswersLine : Settings → List ℕ → Desk → List ℕ → Desk → List ℕ → Type 0
AnswersLine settings line old before new after =
    (command : Command) × (answer : List ℕ) × (command_in settings line ≡ Some command) × StepOf settings command old answer new
    × (after ≡ before ++ ended answer)
