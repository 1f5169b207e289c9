use Rattle.std.proofs.Common.{◌≡◌, ◌++◌, drop, map, string_bytes}
use Rattle.std.specs.List.{flat_map}
use Rattle.pool_report.specs.Report.{needed_line, short_lines}
use Rattle.size_report.specs.Text.{needed_of, short_of}
use Rattle.size_report.proofs.text.push_set.Given as goal

-- what is written, and what is left to write
abbrev pub invariant-loop-function : goal.invariant-loop-function
invariant-loop-function l =
    string_bytes l.out ++ flat_map needed_line (map (needed_of l.settings l.farm) (drop l.function-index l.function-items))
    ≡ string_bytes l.fn.out ++ short_lines (short_of l.settings l.farm l.set)
