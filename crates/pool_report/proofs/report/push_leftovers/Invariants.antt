use Rattle.std.proofs.Common.{◌≡◌, ◌++◌, ◌-◌, filter, length, map, string_bytes}
use Rattle.std.specs.List.{flat_map, range_with_len}
use Rattle.plan_model.specs.Planning.{is_stranded}
use Rattle.pool_report.specs.Answered.{stranded_all, stranded_at}
use Rattle.pool_report.specs.Report.{stranded_line}
use Rattle.pool_report.proofs.report.push_leftovers.Given as goal

-- what is written, and what is left to write
abbrev pub invariant-loop-number : goal.invariant-loop-number
invariant-loop-number l =
    string_bytes l.out ++ flat_map stranded_line (map (stranded_at l.settings l.input)
    (filter (is_stranded l.input) (range_with_len l.number (length l.input.least - l.number))))
    ≡ string_bytes l.fn.out ++ flat_map stranded_line (stranded_all l.settings l.input)
