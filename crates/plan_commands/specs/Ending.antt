-- How a command ends, and what its sink has then.
use Rattle.std.specs.Prelude.{◌≡◌, ◌⊎◌, ℕ, List}
use Rattle.byte_io.specs.Sides.{HasPrefix, HasText, Output}
use Rattle.plan_commands.specs.Fault.{refused}
use Rattle.plan_commands.specs.declared.ending.Exit.{Exit}
use Rattle.plan_commands.specs.declared.fault.Fault.{Fault}
use Rattle.plan_commands.specs.declared.fault.Fault.TheVariants.{WriteFault}

-- The command ends by this fault, and nothing is written.
abbrev pub Stops : Fault → Output → Output → Exit → Type 0
Stops fault old new exit = (new ≡ old) × (exit ≡ refused fault)

-- The text is written, and then the command ends as it would; or a write fails, the sink has a prefix of the text and not all of it, and
-- the command ends by that.
abbrev pub Delivers : List ℕ → Exit → Output → Output → Exit → Type 0
Delivers text done old new exit =
    (HasText old text new × (exit ≡ done))
    ⊎ ((count : ℕ) × HasPrefix old text count new × (exit ≡ refused WriteFault))
