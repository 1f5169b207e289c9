use Rattle.std.proofs.Common.{◌≡◌, ◌++◌, drop, map, string_bytes}
use Rattle.std.specs.List.{flat_map}
use Rattle.plan_model.specs.Planning.{assigned}
use Rattle.pool_report.specs.Answered.{reported_worker}
use Rattle.pool_report.specs.Report.{worker_line}
use Rattle.pool_report.proofs.report.push_tasks.Given as goal

-- what is written, and what is left to write
abbrev pub invariant-loop-worker : goal.invariant-loop-worker
invariant-loop-worker l =
    string_bytes l.out ++ flat_map worker_line (map (reported_worker l.settings (assigned l.plan)) (drop l.worker-index l.worker-items))
    ≡ string_bytes l.fn.out ++ flat_map worker_line (map (reported_worker l.settings (assigned l.plan)) l.input.live)
