use Rattle.std.proofs.Common.{◌≡◌, ◌++◌, drop, map, string_bytes}
use Rattle.std.specs.List.{flat_map}
use Rattle.settings_command.specs.ServicesMeaning as spec
use Rattle.settings_command.proofs.services_meaning.push_hosts.Given as goal

-- what is written, and what is left to write
abbrev pub invariant-loop-host : goal.invariant-loop-host
invariant-loop-host l =
    string_bytes l.out ++ flat_map spec.host_line (map (λ s. string_bytes s) (drop l.host-index l.hosts))
    ≡ string_bytes l.fn.out ++ flat_map spec.host_line (map (λ s. string_bytes s) l.hosts)
