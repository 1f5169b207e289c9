use Rattle.std.proofs.Common.{◌≡◌, ◌++◌, drop, string_bytes}
use Rattle.std.specs.List.{flat_map}
use Rattle.size_report.specs.Text.{task_if}
use Rattle.size_report.proofs.text.push_tasks.Given as goal

-- what is written, and what is left to write
abbrev pub invariant-loop-entry : goal.invariant-loop-entry
invariant-loop-entry l =
    string_bytes l.out ++ flat_map (task_if l.settings l.added) (drop l.entry-index l.entry-items)
    ≡ string_bytes l.fn.out ++ flat_map (task_if l.settings l.added) l.plan
