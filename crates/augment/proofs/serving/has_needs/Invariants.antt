use Rattle.std.proofs.Common.{ℕ, ◌<◌, ◌≤◌, slice_index}
use Rattle.round_arena.specs.Plan.{count_on}
use Rattle.augment.proofs.serving.has_needs.Given as goal

abbrev pub invariant-loop-f : goal.invariant-loop-f
invariant-loop-f l = (g : ℕ) → g < l.f → slice_index l.need g ≤ count_on l.tables.owner.now g
