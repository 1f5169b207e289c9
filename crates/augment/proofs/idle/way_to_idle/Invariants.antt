use Rattle.std.proofs.Common.{◌≡◌}
use Rattle.augment.proofs.idle.way_to_idle.Given as goal

abbrev pub invariant-loop-place : goal.invariant-loop-place
invariant-loop-place l = l.looks ≡ l.initial.looks
