use Rattle.std.proofs.Common.{◌≡◌, ◌≤◌, length, drop, None}
use Rattle.text_pieces.specs.Cuts.{cut_last}
use Rattle.text_pieces.proofs.cuts.cut_last.Given as goal

-- no such byte stands after the end
abbrev pub invariant-loop-end : goal.invariant-loop-end
invariant-loop-end l = record { within : l.end ≤ length l.text; none : cut_last l.byte (drop l.end l.text) ≡ None }

abbrev pub decreases-loop-end : goal.decreases-loop-end
decreases-loop-end l = l.end
