use Rattle.std.proofs.Common.{◌≡◌, ◌++◌, ◌-◌, length, string_bytes}
use Rattle.std.specs.List.{flat_map, range_with_len}
use Rattle.settings_command.specs.Meaning.{machines}
use Rattle.settings_command.specs.ServicesMeaning as spec
use Rattle.settings_command.proofs.services_meaning.push_urls.Given as goal

-- what is written, and what is left to write
abbrev pub invariant-loop-number : goal.invariant-loop-number
invariant-loop-number l =
    string_bytes l.out ++ flat_map (spec.machine_line l.settings l.services) (range_with_len l.number (length l.settings.machines - l.number))
    ≡ string_bytes l.fn.out ++ flat_map (spec.machine_line l.settings l.services) (machines l.settings)
