use Rattle.std.proofs.Common.{◌≡◌, ◌++◌, ◌-◌, map, string_bytes}
use Rattle.std.specs.List.{flat_map, range_with_len}
use Rattle.pool_settings.specs.Slots.{slots}
use Rattle.farm_notes.specs.Evidence as spec
use Rattle.farm_notes.proofs.evidence.lost_workers.Given as goal

-- those that are found, and those that are left to find
abbrev pub invariant-loop-number : goal.invariant-loop-number
invariant-loop-number l =
    map string_bytes l.lost.items ++ flat_map (spec.lost_at l.settings l.input) (range_with_len l.number (slots l.settings - l.number))
    ≡ spec.lost_workers l.settings l.input
