use Rattle.std.proofs.Common.{◌≡◌, ◌++◌, ◌-◌, length, string_bytes}
use Rattle.std.specs.List.{flat_map, range_with_len}
use Rattle.size_report.specs.Text.{on_if, on_lines}
use Rattle.size_report.proofs.text.push_on_lines.Given as goal

-- what is written, and what is left to write
abbrev pub invariant-loop-number : goal.invariant-loop-number
invariant-loop-number l =
    string_bytes l.out ++ flat_map (on_if l.settings l.added) (range_with_len l.number (length l.settings.machines - l.number))
    ≡ string_bytes l.fn.out ++ on_lines l.settings l.added
