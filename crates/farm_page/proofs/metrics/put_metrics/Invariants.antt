use Rattle.std.proofs.Common.{◌≡◌, ◌++◌, drop}
use Rattle.std.specs.List.{flat_map}
use Rattle.farm_page.specs.Metric.{metrics_view}
use Rattle.farm_page.specs.Metrics.{family}
use Rattle.farm_page.proofs.metrics.put_metrics.Given as goal

-- what is written, and what is left to write
abbrev pub invariant-loop-metric : goal.invariant-loop-metric
invariant-loop-metric l =
    l.out.items ++ flat_map (family l.view l.moment) (metrics_view (drop l.metric-index l.metrics))
    ≡ l.fn.out.items ++ flat_map (family l.view l.moment) (metrics_view l.metrics)
