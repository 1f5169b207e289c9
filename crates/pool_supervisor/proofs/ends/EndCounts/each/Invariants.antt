use Rattle.std.proofs.Common.{◌≡◌, length, map, take}
use Rattle.job_runner.specs.declared.end.TheConstants.EndCause.{ALL}
use Rattle.pool_supervisor.specs.EndCounts.{ended_for}
use Rattle.pool_supervisor.specs.declared.ends.TheConstants.{CAUSES}
use Rattle.pool_supervisor.proofs.ends.EndCounts.each.Given as goal

-- those of the causes so far
abbrev pub invariant-loop-place : goal.invariant-loop-place
invariant-loop-place l = record {
  long : length l.each ≡ CAUSES;
  done : take l.place l.each ≡ map (λ cause. (cause, ended_for cause l.self)) (take l.place ALL);
}
