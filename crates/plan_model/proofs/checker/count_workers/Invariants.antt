use Rattle.std.proofs.Common.{◌≡◌, ◌<◌, ℕ, length, slice_index, take}
use Rattle.plan_model.proofs.Counting.{tally}
use Rattle.plan_model.proofs.checker.count_workers.Given as goal

-- the workers on each function so far
abbrev pub invariant-loop-slot : goal.invariant-loop-slot
invariant-loop-slot l = (length l.counts ≡ 1024) × ((f : ℕ) → f < 1024 → slice_index l.counts f ≡ tally l.plan f (take l.slot-index l.slot-items))
