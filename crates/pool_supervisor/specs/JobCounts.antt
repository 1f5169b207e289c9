-- What became of the jobs of sessions.
use Rattle.std.specs.Prelude.{ℕ, ◌+◌}
use Rattle.worker_state.specs.declared.job.EndKind.{EndKind}
use Rattle.worker_state.specs.declared.job.EndKind.TheVariants.{Complete, Fail}
use Rattle.pool_supervisor.specs.declared.job_counts.JobCounts.{JobCounts}

-- how many were answered, with a result or with a failure
abbrev pub answered : JobCounts → ℕ
answered jobs = jobs.completed + jobs.failed

-- the counts once one more answer ended so
abbrev pub with_end : EndKind → JobCounts → JobCounts
with_end Complete jobs = record jobs { completed = jobs.completed + 1 }
with_end Fail jobs = record jobs { failed = jobs.failed + 1 }
