use Rattle.std.proofs.Common.{rules, of_calls, ltb}
use Rattle.std.proofs.lemmas.Fn.{always_returns_same}
use Rattle.std.proofs.lemmas.List.Sorted.{IsPartitionedBy-ltb}
use Rattle.size_report.proofs.Places.{first_at}
use Rattle.size_report.proofs.workers.first_added.Goals as goal

pub returns-clause-first : goal.returns-clause-first
returns-clause-first c =
    let added = c.args.added.now in
    let machine = c.args.machine in
    first_at added machine c.partition_point.result c.partition_point.ensures.bound
    (c.partition_point.ensures.partitioned (λ other. ltb other machine) (always_returns_same _ _ _ (λ a r f k. search (rules, of_calls)))
    (IsPartitionedBy-ltb (λ x. x) added machine c.requires))
