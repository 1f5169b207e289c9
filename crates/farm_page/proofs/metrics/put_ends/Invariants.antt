use Rattle.std.proofs.Common.{◌≡◌, ◌++◌, drop}
use Rattle.std.specs.List.{flat_map}
use Rattle.farm_page.specs.Metric.{metric_view}
use Rattle.farm_page.specs.Metrics.{end_sample, ends_family}
use Rattle.farm_page.proofs.metrics.put_ends.Given as goal

-- what is written, and what is left to write
abbrev pub invariant-loop-end : goal.invariant-loop-end
invariant-loop-end l =
    l.out.items ++ flat_map (end_sample (metric_view l.metric)) (drop l.end-index l.ends) ≡ l.fn.out.items ++ ends_family (metric_view l.metric) l.ends
