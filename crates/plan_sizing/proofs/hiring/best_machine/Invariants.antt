use Rattle.plan_sizing.specs.Hiring.{IsBestBelow}
use Rattle.plan_sizing.proofs.hiring.best_machine.Given as goal

-- the best of the machines so far
abbrev pub invariant-loop-machine : goal.invariant-loop-machine
invariant-loop-machine l = IsBestBelow l.input l.scores l.function l.machine l.best
