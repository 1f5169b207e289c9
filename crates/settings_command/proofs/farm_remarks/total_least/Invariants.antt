use Rattle.std.proofs.Common.{◌≡◌, ◌≤◌, ◌*◌, sum_by, take}
use Rattle.std.specs.Prelude.{slice_index}
use Rattle.settings_command.proofs.farm_remarks.total_least.Given as goal

-- the least numbers so far
abbrev pub invariant-loop-function : goal.invariant-loop-function
invariant-loop-function l =
    (l.total ≡ sum_by (slice_index l.settings.least) (take l.function-index l.set)) × (l.total ≤ 4096 * l.function-index)
