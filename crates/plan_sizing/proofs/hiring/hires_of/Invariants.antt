use Rattle.plan_sizing.proofs.Placed.{AreHiresBelow}
use Rattle.plan_sizing.proofs.hiring.hires_of.Given as goal

-- the workers for the functions so far
abbrev pub invariant-loop-number : goal.invariant-loop-number
invariant-loop-number l = AreHiresBelow l.input l.lacks l.number l.hires.items
