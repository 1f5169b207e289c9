-- How many sessions ended for each cause.
use Rattle.std.specs.Prelude.{ℕ, List, ◌+◌, ◌-◌, ◌^◌, min, replicate, slice_index, slice_set}
use Rattle.job_runner.specs.Ends.{place_of}
use Rattle.job_runner.specs.declared.end.EndCause.{EndCause}
use Rattle.job_runner.specs.declared.end.TheConstants.EndCause.{ALL}
use Rattle.pool_supervisor.specs.declared.ends.EndCounts.{EndCounts}
use Rattle.pool_supervisor.specs.declared.ends.TheConstants.{CAUSES}

abbrev pub no_ends : EndCounts
no_ends = record { counts = replicate CAUSES 0 }

-- how many ended for the cause
abbrev pub ended_for : EndCause → EndCounts → ℕ
ended_for cause ends = slice_index ends.counts (place_of cause)

-- one more, up to the greatest number that a count can hold
abbrev pub one_more : ℕ → ℕ
one_more count = min (count + 1) (2 ^ 64 - 1)

-- the counts once one more session has ended for the cause
abbrev pub with_cause : EndCause → EndCounts → EndCounts
with_cause cause ends = record { counts = slice_set ends.counts (place_of cause) (one_more (ended_for cause ends)) }

-- all causes, in the order of their numbers
abbrev pub all_causes : List EndCause
all_causes = ALL
