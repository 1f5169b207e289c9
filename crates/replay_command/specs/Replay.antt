-- What `replay` reads and writes, and how it ends.
use Rattle.std.specs.Prelude.{◌≡◌, ◌⊎◌, List, ℕ, string_bytes, Result, Ok, Err}
use Rattle.devices.specs.Whole.{IsNotWhole, IsUntouched, IsWhole}
use Rattle.devices.specs.declared.error.InputError.TheVariants as input
use Rattle.byte_io.specs.Sides.{Met, Output, Undisturbed}
use Rattle.pool_replay.specs.Run.{IsRun}
use Rattle.pool_replay.specs.declared.running.End.{End}
use Rattle.pool_replay.specs.declared.running.End.TheVariants as end
use Rattle.pool_replay.specs.declared.running.Outcome.{Outcome}
use Rattle.pool_settings.specs.Settings.{Settings}
use Rattle.pool_settings.specs.Reading.{reading}
use Rattle.plan_commands.specs.Ending.{Delivers, Stops}
use Rattle.plan_commands.specs.Fault.{answered, refused}
use Rattle.plan_commands.specs.Mistake.{IsMistakeOf}
use Rattle.plan_commands.specs.Posing.{HaveMeaning}
use Rattle.plan_commands.specs.declared.ending.Exit.{Exit}
use Rattle.plan_commands.specs.declared.fault.Fault.{Fault}
use Rattle.plan_commands.specs.declared.fault.Fault.TheVariants as fault

-- The input was taken whole, and the output is that of a run of it: a transcript of the pool's machine on its lines, or on those
-- before the one at which the run ended.
abbrev pub Transcribes : List ℕ → Met → List ℕ → End → Type 0
Transcribes settings_text met output how =
    (settings : Settings) × (reading settings_text ≡ Ok settings) × IsWhole met × IsRun settings met.bytes output how

-- The run of the input that was taken, or the first fault of settings and input. Nothing is taken if the settings are refused.
abbrev pub GivesRun : List ℕ → Met → Result Outcome Fault → Type 0
GivesRun settings_text met (Ok outcome) = Transcribes settings_text met (string_bytes outcome.output) outcome.end
GivesRun settings_text met (Err (fault.Settings mistake)) = IsMistakeOf settings_text mistake × IsUntouched met
GivesRun settings_text met (Err fault.TooLong) = HaveMeaning settings_text × IsNotWhole met input.TooLong
GivesRun settings_text met (Err fault.ReadFault) = HaveMeaning settings_text × IsNotWhole met input.ReadFault
GivesRun settings_text met (Err fault.Memory) = Undisturbed met
GivesRun settings_text met (Err other) = ⊥

-- how a command ends that ran its lines so, and wrote what they print
abbrev pub exit_of : End → Exit
exit_of end.Done = answered 0
exit_of (end.BadLine line) = refused (fault.BadCommand line)
exit_of end.Memory = refused fault.Memory

-- The lines are run, and what they print is written. Or they are not, by a fault of the settings or the input, and nothing is written.
abbrev pub Replays : List ℕ → Met → Output → Output → Exit → Type 0
Replays settings_text met old new exit =
    ((output : List ℕ) × (how : End) × Transcribes settings_text met output how × Delivers output (exit_of how) old new exit)
    ⊎ ((f : Fault) × GivesRun settings_text met (Err f) × Stops f old new exit)
