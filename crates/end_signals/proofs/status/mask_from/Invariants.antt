use Rattle.std.proofs.Common.{◌≡◌, length}
use Rattle.end_signals.specs.Status.{mask_from}
use Rattle.end_signals.proofs.status.mask_from.Given as goal

abbrev pub invariant-loop-line : goal.invariant-loop-line
invariant-loop-line l = mask_from l.start l.rest ≡ mask_from l.start l.text

abbrev pub decreases-loop-line : goal.decreases-loop-line
decreases-loop-line l = length l.rest
