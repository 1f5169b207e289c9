use Rattle.std.proofs.Common.{◌≡◌, ◌≤◌, ◌*◌, take}
use Rattle.std.specs.Prelude.{sum}
use Rattle.plan_sizing.proofs.search.total.Given as goal

abbrev pub invariant-loop-many : goal.invariant-loop-many
invariant-loop-many l = record {
  added : l.total ≡ sum (take l.many-index l.lacks);
  few : l.total ≤ 4294967295 * l.many-index;
}
