use Rattle.std.proofs.Common.{◌≡◌, ◌++◌, take, drop}
use Rattle.std.specs.Prelude.{map}
use Rattle.unserved_jobs.specs.Unserved.{given_back}
use Rattle.unserved_jobs.proofs.table.give_back_in.Given as goal

abbrev pub invariant-loop-left : goal.invariant-loop-left
invariant-loop-left l = l.jobs ≡ map (given_back l.worker) (take l.left-index l.initial.jobs) ++ drop l.left-index l.initial.jobs
