use Rattle.std.proofs.Common.{◌≡◌, ◌++◌, drop, map, string_bytes}
use Rattle.std.specs.List.{flat_map}
use Rattle.pool_report.specs.Answered.{needed_at, short_at}
use Rattle.pool_report.specs.Report.{needed_line, short_lines}
use Rattle.pool_report.proofs.report.push_set.Given as goal

-- what is written, and what is left to write
abbrev pub invariant-loop-function : goal.invariant-loop-function
invariant-loop-function l =
    string_bytes l.out ++ flat_map needed_line (map (needed_at l.settings l.input l.level) (drop l.function-index l.function-items))
    ≡ string_bytes l.fn.out ++ short_lines (short_at l.settings l.input l.level l.set)
