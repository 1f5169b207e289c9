use Rattle.std.proofs.Common.{◌≡◌, ◌++◌, drop}
use Rattle.std.specs.List.{flat_map}
use Rattle.farm_page.specs.Metric.{metric_view}
use Rattle.farm_page.specs.Metrics.{host_family, host_sample}
use Rattle.farm_page.proofs.metrics.put_of_hosts.Given as goal

-- what is written, and what is left to write
abbrev pub invariant-loop-host : goal.invariant-loop-host
invariant-loop-host l =
    l.out.items ++ flat_map (host_sample (metric_view l.metric) l.number) (drop l.host-index l.hosts)
    ≡ l.fn.out.items ++ host_family (metric_view l.metric) l.number l.hosts
