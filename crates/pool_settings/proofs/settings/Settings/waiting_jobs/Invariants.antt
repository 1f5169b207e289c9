use Rattle.std.proofs.Common.{◌≡◌, map, take}
use Rattle.gear_status.specs.Status.{waiting}
use Rattle.pool_settings.proofs.settings.Settings.waiting_jobs.Given as goal

-- the jobs of the functions so far
abbrev pub invariant-loop-number : goal.invariant-loop-number
invariant-loop-number l = l.waiting.items ≡ map (waiting l.load) (take l.number l.self.functions)
