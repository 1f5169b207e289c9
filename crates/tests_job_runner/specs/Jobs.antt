-- What the jobs of the tests report.
use Rattle.std.specs.Prelude.{ℕ, List, [], ◌∷◌, reverse, replicate}
use Rattle.job_runner.specs.Told.{Told, piece, warning, progress, complete, fail}
use Rattle.tests_job_runner.specs.declared.jobs.TestJob.{TestJob}
use Rattle.tests_job_runner.specs.declared.jobs.TestJob.TheVariants.{Reverse, Talk, Notes, Fail, Exhaust, Fill}

abbrev pub told_by_test : TestJob → List ℕ → Told
told_by_test Reverse input = record { remarks = []; finish = complete (reverse input) }
told_by_test Talk input = record { remarks = progress 1 2 ∷ piece (112 ∷ []) ∷ warning (119 ∷ []) ∷ []; finish = complete (reverse input) }
told_by_test Notes input = record { remarks = progress 1 2 ∷ piece (97 ∷ []) ∷ []; finish = complete (98 ∷ []) }
told_by_test Fail input = record { remarks = []; finish = fail }
told_by_test Exhaust input = record { remarks = []; finish = fail }
told_by_test (Fill count) input = record { remarks = []; finish = complete (replicate count 0) }
