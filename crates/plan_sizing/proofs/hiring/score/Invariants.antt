use Rattle.std.proofs.Common.{◌≡◌, ◌≤◌, nat_lt, slice_index, count_by, take}
use Rattle.plan_sizing.proofs.hiring.score.Given as goal

abbrev pub invariant-loop-function : goal.invariant-loop-function
invariant-loop-function l = record {
  counted : l.score ≡ count_by (λ f. nat_lt 0 (slice_index l.lacks f)) (take l.function-index l.row);
  few : l.score ≤ l.function-index;
}
