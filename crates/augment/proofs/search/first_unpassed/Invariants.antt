use Rattle.std.proofs.Common.{◌≡◌, ℕ, ◌<◌, ◌≤◌, true, false, get_or}
use Rattle.augment.proofs.search.first_unpassed.Given as goal

abbrev pub invariant-loop-m : goal.invariant-loop-m
invariant-loop-m l = (k : ℕ) → l.from ≤ k → k < l.m → get_or l.tree.passed.now k false ≡ true
