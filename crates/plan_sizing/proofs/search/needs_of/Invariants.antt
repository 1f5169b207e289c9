use Rattle.std.proofs.Common.{◌≡◌, ◌<◌, ℕ, length, slice_index}
use Rattle.plan_sizing.specs.Sizing.{need}
use Rattle.plan_sizing.proofs.search.needs_of.Given as goal

abbrev pub invariant-loop-number : goal.invariant-loop-number
invariant-loop-number l = record {
  many : length l.needs.items ≡ l.number;
  each : (f : ℕ) → f < l.number → slice_index l.needs.items f ≡ need l.farm f;
}
