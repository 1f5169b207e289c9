use Rattle.std.proofs.Common.{◌≡◌, map}
use Rattle.std.specs.List.{range_with_len}
use Rattle.relaxed_plan.specs.Relaxed.{least_left}
use Rattle.relaxed_plan.proofs.letting_off.all_least_left.Given as goal

abbrev pub invariant-loop-number : goal.invariant-loop-number
invariant-loop-number l = l.least.items ≡ map (least_left l.input.least l.set) (range_with_len 0 l.number)
