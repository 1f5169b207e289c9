use Rattle.relaxed_plan.proofs.Solves.{GoesOn}
use Rattle.relaxed_plan.proofs.relaxing.relaxed_plan.Given as goal

abbrev pub invariant-loop-solve : goal.invariant-loop-solve
invariant-loop-solve l = GoesOn l.input l.short l.let_off_now l._solve
