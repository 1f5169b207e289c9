use Rattle.std.proofs.Common.{◌≡◌, ◌++◌, drop, string_bytes}
use Rattle.std.specs.List.{flat_map}
use Rattle.settings_command.specs.Meaning as spec
use Rattle.settings_command.proofs.meaning.push_may.Given as goal

-- what is written, and what is left to write
abbrev pub invariant-loop-function : goal.invariant-loop-function
invariant-loop-function l =
    string_bytes l.out ++ flat_map (spec.may_line l.settings l.fn.machine) (drop l.function-index l.function-items)
    ≡ string_bytes l.fn.out ++ flat_map (spec.may_line l.settings l.fn.machine) (spec.listed l.settings l.fn.machine)
