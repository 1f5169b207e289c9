use Rattle.std.proofs.Common.{◌≡◌, ℕ, ◌<◌, false, length, get_or}
use Rattle.augment.proofs.search.clear_passed.Given as goal

abbrev pub invariant-loop-p : goal.invariant-loop-p
invariant-loop-p l = record {
  size : length l.passed ≡ length l.fn.passed;
  none : (m : ℕ) → m < l.p-index → get_or l.passed m false ≡ false;
}
