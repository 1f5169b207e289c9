use Rattle.std.proofs.Common.{◌≡◌, ◌++◌, drop}
use Rattle.std.specs.List.{flat_map}
use Rattle.farm_page.specs.Metric.{metric_view}
use Rattle.farm_page.specs.Metrics.{function_family, function_sample}
use Rattle.farm_page.proofs.metrics.put_of_functions.Given as goal

-- what is written, and what is left to write
abbrev pub invariant-loop-function : goal.invariant-loop-function
invariant-loop-function l =
    l.out.items ++ flat_map (function_sample (metric_view l.metric) l.number) (drop l.function-index l.functions)
    ≡ l.fn.out.items ++ function_family (metric_view l.metric) l.number l.functions
