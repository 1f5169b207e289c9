use Rattle.std.proofs.Common.{◌≡◌, ◌<◌, ℕ, length, slice_index}
use Rattle.plan_sizing.specs.Hiring.{score}
use Rattle.plan_sizing.proofs.hiring.scores_of.Given as goal

abbrev pub invariant-loop-machine : goal.invariant-loop-machine
invariant-loop-machine l = record {
  many : length l.scores.items ≡ l.machine;
  each : (m : ℕ) → m < l.machine → slice_index l.scores.items m ≡ score l.input l.lacks m;
}
