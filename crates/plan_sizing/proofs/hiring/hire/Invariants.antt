use Rattle.std.proofs.Common.{◌≡◌, ◌++◌, replicate}
use Rattle.plan_sizing.proofs.hiring.hire.Given as goal

abbrev pub invariant-loop-round : goal.invariant-loop-round
invariant-loop-round l = l.hires.items ≡ l.fn.hires.items ++ replicate l._round (l.machine, l.function)
