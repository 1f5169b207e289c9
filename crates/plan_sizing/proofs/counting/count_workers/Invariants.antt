use Rattle.std.proofs.Common.{◌≡◌, ◌<◌, ℕ, length, slice_index, take}
use Rattle.plan_model.proofs.Counting.{tally}
use Rattle.plan_sizing.specs.Sizing.{grown}
use Rattle.plan_sizing.proofs.counting.count_workers.Given as goal

-- the workers on each function so far
abbrev pub invariant-loop-place : goal.invariant-loop-place
invariant-loop-place l = record {
  many : length l.counts ≡ 1024;
  each : (f : ℕ) → f < 1024 → slice_index l.counts f ≡ tally l.plan f (take l.place (grown l.farm l.added).live);
}
