use Rattle.std.proofs.Common.{◌≡◌, ◌++◌, drop, string_bytes}
use Rattle.std.specs.List.{flat_map}
use Rattle.settings_command.specs.Remarks as spec
use Rattle.settings_command.proofs.farm_remarks.push_names.Given as goal

-- what is written, and what is left to write
abbrev pub invariant-loop-function : goal.invariant-loop-function
invariant-loop-function l =
    string_bytes l.out ++ flat_map (spec.listed_name l.settings) (drop l.function-index l.set)
    ≡ string_bytes l.fn.out ++ flat_map (spec.listed_name l.settings) l.set
