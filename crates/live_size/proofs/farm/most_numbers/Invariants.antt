use Rattle.std.proofs.Common.{◌≡◌, map}
use Rattle.std.specs.List.{range_with_len}
use Rattle.live_size.specs.Farms.{most_of}
use Rattle.live_size.proofs.farm.most_numbers.Given as goal

abbrev pub invariant-loop-number : goal.invariant-loop-number
invariant-loop-number l = l.most.items ≡ map (most_of l.unbounded l.input) (range_with_len 0 l.number)
