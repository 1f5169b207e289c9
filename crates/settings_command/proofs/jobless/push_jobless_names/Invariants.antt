use Rattle.std.proofs.Common.{◌≡◌, ◌++◌, ◌-◌, length, string_bytes}
use Rattle.std.specs.List.{flat_map, range_with_len}
use Rattle.settings_command.specs.Meaning.{functions}
use Rattle.settings_command.specs.Remarks as spec
use Rattle.settings_command.proofs.jobless.push_jobless_names.Given as goal

-- what is written, and what is left to write
abbrev pub invariant-loop-number : goal.invariant-loop-number
invariant-loop-number l =
    string_bytes l.out ++ flat_map (spec.jobless_name l.settings) (range_with_len l.number (length l.settings.functions - l.number))
    ≡ string_bytes l.fn.out ++ flat_map (spec.jobless_name l.settings) (functions l.settings)
