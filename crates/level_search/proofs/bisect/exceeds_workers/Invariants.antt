use Rattle.std.proofs.Common.{◌≡◌, ◌*◌, ◌≤◌, sum_by}
use Rattle.std.specs.List.{range_with_len}
use Rattle.plan_model.specs.Planning.{need}
use Rattle.level_search.proofs.bisect.exceeds_workers.Given as goal

abbrev pub invariant-loop-f : goal.invariant-loop-f
invariant-loop-f l = record {
  total : l.wanted ≡ sum_by (need l.input l.level) (range_with_len 0 l.f);
  bound : l.wanted ≤ 4097 * l.f;
}
