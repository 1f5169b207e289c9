use Rattle.std.proofs.Common.{◌≡◌, ◌-◌, ◌<◌, ℕ, length, slice_index}
use Rattle.plan_sizing.proofs.search.lacks_of.Given as goal

abbrev pub invariant-loop-place : goal.invariant-loop-place
invariant-loop-place l = record {
  many : length l.lacks.items ≡ l.place;
  each : (f : ℕ) → f < l.place → slice_index l.lacks.items f ≡ slice_index l.needs f - slice_index l.tables.count.now f;
}
