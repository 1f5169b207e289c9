use Rattle.std.proofs.Common.{◌∙◌, ◌+◌, ◌++◌, ap, append_assoc, drop, map, string_bytes, sym}
use Rattle.std.proofs.lemmas.List.{drop_more}
use Rattle.std.specs.List.{flat_map}
use Rattle.plan_model.specs.Planning.{assigned}
use Rattle.pool_report.specs.Answered.{reported_worker}
use Rattle.pool_report.specs.Report.{worker_line}
use Rattle.pool_report.proofs.report.push_tasks.Goals as goal

pub loop-worker-preserved : goal.loop-worker-preserved
loop-worker-preserved c =
    let g = reported_worker c.args.settings.now (assigned c.args.plan.now) in
    let items = c.live-worker-items.result.now in
    let k = c.loop-worker.worker-index in
    let worker = c.worker-item.result in
    let before = string_bytes c.loop-worker.out in
    let rest = flat_map worker_line (map g (drop (k + 1) items)) in
    ap (λ t. t ++ rest) c.in_ok-push_worker.ensures
    ∙ append_assoc before (worker_line (g worker)) rest
    ∙ ap (λ w. before ++ (worker_line (g w) ++ rest)) c.worker-item.is
    ∙ ap (λ z. before ++ flat_map worker_line (map g z)) (sym (drop_more items k worker c.loop-worker-test.true))
    ∙ c.loop-worker.invariant
