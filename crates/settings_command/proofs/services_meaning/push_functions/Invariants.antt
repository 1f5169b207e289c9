use Rattle.std.proofs.Common.{◌≡◌, ◌++◌, ◌-◌, length, string_bytes}
use Rattle.std.specs.List.{flat_map, range_with_len}
use Rattle.toml.specs.View.{table_view}
use Rattle.settings_command.specs.Meaning.{functions}
use Rattle.settings_command.specs.ServicesMeaning as spec
use Rattle.settings_command.proofs.services_meaning.push_functions.Given as goal

-- what is written, and what is left to write
abbrev pub invariant-loop-number : goal.invariant-loop-number
invariant-loop-number l =
    string_bytes l.out ++ flat_map (spec.function_lines (table_view l.file.tree) l.settings l.services)
    (range_with_len l.number (length l.settings.functions - l.number))
    ≡ string_bytes l.fn.out ++ flat_map (spec.function_lines (table_view l.file.tree) l.settings l.services) (functions l.settings)
