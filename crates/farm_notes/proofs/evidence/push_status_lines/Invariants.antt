use Rattle.std.proofs.Common.{◌≡◌, ◌++◌, ◌-◌, ℕ, List, length, slice_index, string_bytes}
use Rattle.std.specs.List.{flat_map, range_with_len}
use Rattle.pool_settings.specs.Names.{name_at}
use Rattle.farm_notes.specs.Evidence as spec
use Rattle.farm_notes.proofs.evidence.push_status_lines.Given as goal

-- what is written, and what is left to write
abbrev pub invariant-loop-number : goal.invariant-loop-number
invariant-loop-number l =
    let line : ℕ → List ℕ = λ f. spec.status_line (name_at l.settings.functions f) (slice_index l.waiting f) in
    string_bytes l.out ++ flat_map line (range_with_len l.number (length l.settings.functions - l.number))
    ≡ string_bytes l.fn.out ++ spec.status_lines l.settings.functions l.waiting
