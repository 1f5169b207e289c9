use Rattle.std.proofs.Common.{◌≡◌, map}
use Rattle.std.specs.List.{range_with_len}
use Rattle.size_report.specs.Text.{added_on}
use Rattle.live_size.proofs.missing.counts_on.Given as goal

abbrev pub invariant-loop-number : goal.invariant-loop-number
invariant-loop-number l = l.numbers.items ≡ map (added_on l.added) (range_with_len 0 l.number)
