use Rattle.std.proofs.Common.{◌≡◌, ◌+◌, ◌-◌, ◌^◌, ◌≤◌, drop, min, sum_by}
use Rattle.farm_page.specs.Condition.{all_without_workers, without_workers}
use Rattle.farm_page.proofs.condition.all_without_workers.Given as goal

-- what is counted, and what is left to count
abbrev pub invariant-loop-function : goal.invariant-loop-function
invariant-loop-function l =
    (min (l.jobs + sum_by without_workers (drop l.function-index l.functions)) (2 ^ 64 - 1) ≡ all_without_workers l.functions)
    × (l.jobs ≤ 2 ^ 64 - 1)
