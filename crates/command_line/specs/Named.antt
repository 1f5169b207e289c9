-- A command of the code, as its texts and numbers.
use Rattle.std.specs.Prelude.{◌≡◌, ◌≢◌, ◌≤◌, map, option_map}
use Rattle.std.specs.Int.NonZero.{non_zero_u32_get}
use Rattle.clap.specs.Words.{IsAmong, Kinds, kind_of}
use Rattle.clap.specs.declared.error.Error.{Error}
use Rattle.clap.specs.declared.error.kind.ErrorKind.TheVariants.{OutOfMemory}
use Rattle.command_words.specs.Words.{Named, plan, check, size, check_size, replay, show_settings, run, serve, drain}
use Rattle.command_words.specs.Words.{least_rounds, most_rounds}
use Rattle.command_line.specs.declared.command.Command.{Command}
use Rattle.command_line.specs.declared.command.Command.TheVariants.{Plan, Check, Size, CheckSize, Replay, Settings, Run, Serve, Drain}
use Rattle.command_line.specs.declared.command.CommandError.{CommandError}
use Rattle.command_line.specs.declared.command.CommandError.TheVariants.{Usage, Memory}

abbrev pub named : Command → Named
named (Plan settings lost) = plan settings.now (map (λ w. w.now) lost.items)
named (Check settings status lost) = check settings.now status.now (map (λ w. w.now) lost.items)
named (Size settings level lost) = size settings.now (option_map non_zero_u32_get level) (map (λ w. w.now) lost.items)
named (CheckSize settings status level lost) =
    check_size settings.now status.now (option_map non_zero_u32_get level) (map (λ w. w.now) lost.items)
named (Replay settings) = replay settings.now
named (Settings settings services) = show_settings settings.now (option_map (λ t. t.now) services)
named (Run settings rounds) = run settings.now rounds
named (Serve settings services until_input) = serve settings.now services.now until_input
named (Drain services) = drain services.now

-- the rounds of a run, if the command is one, are neither too few nor too many
abbrev pub HasRoundsInRange : Command → Type 0
HasRoundsInRange (Run settings rounds) = (least_rounds ≤ rounds) × (rounds ≤ most_rounds)
HasRoundsInRange _ = Unit {0}

-- this error of `clap`, or out of memory if it is that
abbrev pub Tells : Error → CommandError → Type 0
Tells error (Usage told) = (told ≡ error) × (kind_of error ≢ OutOfMemory)
Tells error Memory = kind_of error ≡ OutOfMemory

-- an error of `clap` of one of these kinds, or out of memory
abbrev pub IsOfKinds : Kinds → CommandError → Type 0
IsOfKinds kinds (Usage error) = IsAmong (kind_of error) kinds
IsOfKinds kinds Memory = Unit {0}
