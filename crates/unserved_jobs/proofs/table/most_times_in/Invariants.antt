use Rattle.std.proofs.Common.{◌≡◌, take}
use Rattle.unserved_jobs.specs.Unserved.{most_times}
use Rattle.unserved_jobs.proofs.table.most_times_in.Given as goal

abbrev pub invariant-loop-left : goal.invariant-loop-left
invariant-loop-left l = l.most ≡ most_times l.now_ms (take l.left-index l.jobs)
