-- How a run of command lines ends whose settings or input are refused.
use Rattle.std.proofs.Common.{◌≡◌, ◌≢◌, ℕ, List, Ok, Err, refl, arith}
use Rattle.devices.specs.Whole.{IsNotWhole}
use Rattle.devices.specs.declared.error.InputError.{InputError}
use Rattle.devices.specs.declared.error.InputError.TheVariants as input
use Rattle.byte_io.specs.Sides.{Input, Met}
use Rattle.pool_settings.specs.Settings.{Settings}
use Rattle.pool_settings.specs.Reading.{reading}
use Rattle.plan_commands.proofs.Posing.{nothing_from}
use Rattle.plan_commands.specs.Fault.{input_fault}
use Rattle.plan_commands.specs.Mistake.{Reads}
use Rattle.plan_commands.specs.declared.fault.Fault.{Fault}
use Rattle.plan_commands.specs.declared.fault.Fault.TheVariants as fault
use Rattle.replay_command.specs.Replay.{GivesRun}

-- nothing is taken
pub refused_by : (text : List ℕ) (side : Input) (f : Fault) → Reads text (Err f) → GivesRun text (nothing_from side) (Err f)
refused_by text side fault.Memory reads = (refl, omega arith)
refused_by text side (fault.Settings mistake) reads = (reads, (refl, refl, refl))
refused_by text side (fault.Services mistake) reads = absurd reads
refused_by text side fault.ReadFault reads = absurd reads
refused_by text side (fault.BadCommand n) reads = absurd reads
refused_by text side (fault.UnknownWorker place) reads = absurd reads
refused_by text side fault.TooLong reads = absurd reads
refused_by text side fault.WriteFault reads = absurd reads
refused_by text side (fault.Page e) reads = absurd reads
refused_by text side (fault.File file e) reads = absurd reads
refused_by text side (fault.Status e) reads = absurd reads
refused_by text side (fault.Report e) reads = absurd reads

-- the settings mean something, and the input is not whole
pub untaken : (text : List ℕ) (met : Met) (p : Settings) → reading text ≡ Ok p → (e : InputError) → IsNotWhole met e
    → GivesRun text met (Err (input_fault e))
untaken text met p good input.TooLong taken = ((p, good), taken)
untaken text met p good input.ReadFault taken = ((p, good), taken)
untaken text met p good input.Memory taken = taken
untaken text met p good input.NoFile taken = absurd taken
untaken text met p good input.NoPermission taken = absurd taken
