use Rattle.std.specs.Prelude.{◌≡◌}
use Rattle.tests_job_runner.proofs.seen.script_of.Given as goal

-- the script has not failed
abbrev pub invariant-loop-piece : goal.invariant-loop-piece
invariant-loop-piece l = (l.script.take_failures ≡ 0) × (l.script.give_failures ≡ 0)
