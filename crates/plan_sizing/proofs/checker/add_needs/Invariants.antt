use Rattle.std.proofs.Common.{◌≡◌, ◌≤◌, ◌*◌, sum_by, take}
use Rattle.plan_sizing.specs.Sizing.{need}
use Rattle.plan_sizing.proofs.checker.add_needs.Given as goal

-- the needs so far
abbrev pub invariant-loop-function : goal.invariant-loop-function
invariant-loop-function l = record {
  added : l.sum ≡ sum_by (need l.farm) (take l.function-index l.set);
  few : l.sum ≤ 4294967295 * l.function-index;
}
